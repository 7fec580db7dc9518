-- By the tests that the model makes too. Assumes nothing.
use borrow.Author.Tests.{eq-eqb, ne_eqb}
use Rattle.audit_words.specs.Chain.{starts_chain}
use borrow.Author.Rules.{rules}
use Rattle.audit_chain.proofs.chain.starts_chain.Goals as goal

pub returns-then-marked-ne0 : goal.returns-then-marked-ne0
unfolding starts_chain
returns-then-marked-ne0 c = rw (← c.marked.ensures, ne_eqb _ _ c.if-marked-ne0.true)

pub returns : goal.returns
unfolding starts_chain
returns c = rw (← c.marked.ensures, eq-eqb _ _ c.if-marked-ne0.false, c.word.ensures)
