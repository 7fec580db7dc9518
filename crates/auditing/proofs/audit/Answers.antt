-- Shut out by the gate, or let in. Assumes nothing.
use mathlib.Core.List.{[]}
use Rattle.std.proofs.lemmas.Result.{err_from_is_err_and}
use Rattle.tables.specs.Calls.{edition32}
use Rattle.records.specs.InWords.{words_of}
use Rattle.records.proofs.GateWalk.{not_0, opened, closed, has_room}
use Rattle.audit_words.proofs.Verdicts.{audit_shut, audit_let_in}
use Rattle.audit_words.proofs.Promise.{audit_promise}
use Rattle.auditing.proofs.audit.Goals as goal

pub behind_gate-requires : goal.behind_gate-requires
behind_gate-requires c =
    has_room edition32 (words_of c.args.t [] [] c.args.nodes.now c.args.free_nodes.now) c.test.ensures c.in_ok-test.was

pub returns-in_err-test : goal.returns-in_err-test
returns-in_err-test c =
    let left = err_from_is_err_and c.from_residual.result c.from_residual.ensures.1 in
    rw (left.1, left.2)
    (audit_promise edition32 _ _ (c.of_head.ensures _ _)
    (audit_shut edition32 _ _ (not_0 _) (closed edition32 _ c.test.ensures c.in_err-test.was)))

pub returns : goal.returns
returns c =
    audit_promise edition32 _ _ (c.of_head.ensures _ _)
    (audit_let_in edition32 _ _ (opened edition32 _ c.test.ensures c.in_ok-test.was) c.behind_gate.ensures)
