-- Each part that is lent is within its table, as long as it is said to be; and the number is the audit's. Assumes nothing.
use Prim.Native.Nat.{ℕ}
use mathlib.Core.Path.{sym, ap, ◌∙◌}
use mathlib.Core.List.{List}
use borrow.Author.Tests.{lt-ltb, le-ltb}
use Rattle.ledger.specs.Ledger.{Answer}
use Rattle.audit_verdicts.specs.Audited.{number_in, number_with}
use lib.Seq.{length-take-le}
use native.Mathlib.Omega.{arith}
use Rattle.audit_verdicts.proofs.audit.Goals as goal

pub returns-then-nodes-n : goal.returns-then-nodes-n
unfolding number_with
returns-then-nodes-n c = rw (lt-ltb _ _ c.if-nodes-n.true)

pub returns-then-pile-p : goal.returns-then-pile-p
unfolding number_with
returns-then-pile-p c = rw (le-ltb _ _ c.if-nodes-n.false, lt-ltb _ _ c.if-pile-p.true)

pub returns-then-scratch-s : goal.returns-then-scratch-s
unfolding number_with
returns-then-scratch-s c = rw (le-ltb _ _ c.if-nodes-n.false, le-ltb _ _ c.if-pile-p.false, lt-ltb _ _ c.if-scratch-s.true)

pub slice_bounds-audit-end : goal.slice_bounds-audit-end
slice_bounds-audit-end c = sym (length-take-le _ _ (omega arith))

pub slice_bounds-audit-end-2 : goal.slice_bounds-audit-end-2
slice_bounds-audit-end-2 c = sym (length-take-le _ _ (omega arith))

pub slice_bounds-audit-end-4 : goal.slice_bounds-audit-end-4
slice_bounds-audit-end-4 c = sym (length-take-le _ _ (omega arith))

pub returns : goal.returns
unfolding number_with
returns c =
    rw (le-ltb _ _ c.if-nodes-n.false, le-ltb _ _ c.if-pile-p.false, le-ltb _ _ c.if-scratch-s.false)
    (c.number.ensures ∙ ap (λ (p : Answer × List ℕ). number_in p.0) c.audit.ensures.exact)
