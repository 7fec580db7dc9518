-- Shut out by the gate, or let in. Assumes nothing.
use mathlib.Core.Path.{refl}
use Rattle.std.proofs.lemmas.Result.{err_from_is_err_and}
use Rattle.ledger.specs.Calls.{Fill, Ask}
use Rattle.tables.specs.Questions.{fill_of_words, told_by}
use Rattle.tables.specs.Calls.{edition32, behind}
use Rattle.tables.proofs.Gate.{let_in}
use Rattle.tables.proofs.Commits.{outcome_is}
use Rattle.tables.proofs.Promise.{promise}
use Rattle.records.proofs.GateWalk.{shut_out, opened}
use Rattle.asking.proofs.fill.Goals as goal

pub returns-in_err-test : goal.returns-in_err-test
returns-in_err-test c =
    let left = err_from_is_err_and c.from_residual.result c.from_residual.ensures.1 in
    rw (left.1, left.2) (promise edition32 (Ask Fill) _ (shut_out edition32 _ (Ask Fill) c.test.ensures c.in_err-test.was))

pub returns : goal.returns
unfolding behind told_by fill_of_words
returns c =
    promise edition32 (Ask Fill) _
    (let_in edition32 (Ask Fill) _ (opened edition32 _ c.test.ensures c.in_ok-test.was)
    (outcome_is c.fullness.ensures refl))
