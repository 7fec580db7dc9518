-- Shut out by the gate, or let in to take. Assumes nothing.
use mathlib.Core.Path.{◌∙◌}
use mathlib.Core.List.{[]}
use Rattle.ledger.specs.Calls.{Take}
use Rattle.tables.specs.Calls.{edition32, behind}
use Rattle.tables.proofs.Gate.{let_in}
use Rattle.tables.proofs.Promise.{promise}
use Rattle.records.specs.InWords.{words_of}
use Rattle.records.proofs.GateWalk.{shut_out, opened, has_room}
use Rattle.records.proofs.Outcome.{outcome}
use Rattle.taking.proofs.allocate.Goals as goal

pub take-requires : goal.take-requires
take-requires c =
    let room = has_room edition32 (words_of c.args.t [] [] c.args.nodes.now c.args.free_nodes.now) c.test.ensures c.in-Ok.is in
    record { has_room = room.nodes_room; max_allocs_in_bounds = room.pile_room }

pub returns-in-Err : goal.returns-in-Err
returns-in-Err c =
    promise edition32 (Take _) _
    (outcome _ _ _ _ c.refuse.ensures.0 c.refuse.ensures.1
    ∙ shut_out edition32 _ (Take _) c.test.ensures c.in-Err.is)

pub returns-in-Ok : goal.returns-in-Ok
unfolding behind
returns-in-Ok c =
    promise edition32 (Take _) _
    (let_in edition32 (Take _) _ (opened edition32 _ c.test.ensures c.in-Ok.is) c.take.ensures)
