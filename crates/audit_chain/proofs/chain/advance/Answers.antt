-- Free or live, as the model has it. Assumes nothing.
use borrow.Author.Tests.{eq-eqb, ne_eqb}
use Rattle.audit_words.specs.Chain.{advanced}
use borrow.Author.Rules.{rules}
use Rattle.audit_chain.proofs.chain.advance.Goals as goal

pub returns-then-used-eq0 : goal.returns-then-used-eq0
unfolding advanced
returns-then-used-eq0 c =
    rw (← c.word-size.ensures, ← c.word-used.ensures, ← c.requires.next_value, eq-eqb _ _ c.if-used-eq0.true)

pub returns : goal.returns
unfolding advanced
returns c =
    rw (← c.word-size.ensures, ← c.word-used.ensures, ← c.requires.next_value, ne_eqb _ _ c.if-used-eq0.false)
