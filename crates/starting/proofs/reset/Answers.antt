-- Shut out by the gate, or started afresh. Assumes nothing.
use mathlib.Core.Path.{refl}
use mathlib.Core.List.{[]}
use Rattle.ledger.specs.Calls.{Reset}
use Rattle.tables.specs.Calls.{edition32, behind}
use Rattle.tables.proofs.Gate.{let_in}
use Rattle.tables.proofs.Commits.{outcome_is}
use Rattle.tables.proofs.Promise.{promise}
use Rattle.records.specs.InWords.{words_of}
use Rattle.records.proofs.GateWalk.{shut_out, opened, has_room}
use Rattle.starting.proofs.reset.Goals as goal

pub start_afresh-requires : goal.start_afresh-requires
start_afresh-requires c =
    let room = has_room edition32 (words_of c.args.t [] [] c.args.nodes.now c.args.free_nodes.now) c.test.ensures c.in-Ok.is in
    record { le_max_allocs = room.count_low; has_room = room.nodes_room; max_allocs_in_bounds = room.pile_room }

pub returns-in-Err : goal.returns-in-Err
returns-in-Err c =
    promise edition32 Reset _ (shut_out edition32 _ Reset c.test.ensures c.in-Err.is)

pub returns-in-Ok : goal.returns-in-Ok
unfolding behind
returns-in-Ok c =
    promise edition32 Reset _
    (let_in edition32 Reset _ (opened edition32 _ c.test.ensures c.in-Ok.is)
    (outcome_is refl c.start_afresh.ensures))
