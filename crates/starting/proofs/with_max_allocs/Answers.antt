-- Shut out by the gate, or started afresh. Assumes nothing.
use mathlib.Core.Path.{refl, ap, ◌∙◌}
use native.Mathlib.Omega.{arith}
use Prim.Native.Nat.{ℕ, ◌<◌, ◌^◌}
use lib.ListN.{length}
use Rattle.tables.specs.Setup.{fresh}
use Rattle.tables.specs.Calls.{edition32}
use Rattle.tables.proofs.Gate.{open_has_room, sizes_pass, setup_shut, setup_let_in}
use Rattle.tables.proofs.Commits.{outcome_is}
use Rattle.tables.proofs.Promise.{setup_promise}
use Rattle.records.proofs.GateWalk.{open_is_0, shut_is, not_0}
use Rattle.starting.proofs.with_max_allocs.Goals as goal

pub start_afresh-requires : goal.start_afresh-requires
start_afresh-requires c =
    let room = open_has_room edition32 0 c.args.max_allocs (length c.args.nodes.now) (length c.args.free_nodes.now)
    (open_is_0 c.test.ensures c.in-Ok.is) in
    record { le_max_allocs = room.count_low; has_room = room.nodes_room; max_allocs_in_bounds = room.pile_room }

pub returns-in-Err : goal.returns-in-Err
returns-in-Err c =
    let fits : c.args.size.0 < 2 ^ 32 = omega (arith, c.units_of-units.ensures, c.units_of-units.type_inv) in
    setup_promise edition32 _ _ _ fits
    (c.leave_all.ensures _ _
    ∙ setup_shut edition32 _ _ _ (not_0 c.in-Err.why)
    (sizes_pass edition32 _ _ _ _ (omega arith) ∙ shut_is c.test.ensures c.in-Err.is))

pub returns-in-Ok : goal.returns-in-Ok
returns-in-Ok c =
    let fits : c.args.size.0 < 2 ^ 32 = omega (arith, c.units_of-units.ensures, c.units_of-units.type_inv) in
    setup_promise edition32 c.args.size.0 _ _ fits
    (setup_let_in edition32 c.args.size.0 _ _
    (sizes_pass edition32 _ _ _ _ (omega arith) ∙ open_is_0 c.test.ensures c.in-Ok.is)
    (outcome_is refl
    (c.start_afresh.ensures
    ∙ ap (λ (n : ℕ). fresh edition32 n c.args.max_allocs c.args.nodes.now c.args.free_nodes.now) c.units_of-units.ensures)))
