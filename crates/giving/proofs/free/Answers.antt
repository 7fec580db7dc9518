-- Shut out by the gate, or let in. Assumes nothing.
use mathlib.Core.List.{[]}
use Rattle.ledger.specs.Calls.{HandBack}
use Rattle.tables.specs.Calls.{edition32, behind}
use Rattle.tables.proofs.Gate.{let_in}
use Rattle.tables.proofs.Promise.{promise}
use Rattle.records.specs.InWords.{words_of}
use Rattle.records.proofs.GateWalk.{shut_out, opened, has_room}
use Rattle.giving.proofs.free.Goals as goal

pub give_back-requires : goal.give_back-requires
give_back-requires c =
    let room = has_room edition32 (words_of c.args.t [] [] c.args.nodes.now c.args.free_nodes.now) c.test.ensures c.in-Ok.is in
    record { has_room = room.nodes_room; max_allocs_in_bounds = room.pile_room }

pub returns-in-Err : goal.returns-in-Err
returns-in-Err c =
    promise edition32 (HandBack _) _ (shut_out edition32 _ (HandBack _) c.test.ensures c.in-Err.is)

pub returns-in-Ok : goal.returns-in-Ok
unfolding behind
returns-in-Ok c =
    promise edition32 (HandBack _) _
    (let_in edition32 (HandBack _) _ (opened edition32 _ c.test.ensures c.in-Ok.is)
    c.give_back.ensures)
