-- The list so far is the model's, and its members are no more than the free regions. Assumes nothing.
use mathlib.Core.Path.{refl, sym, ap, ◌∙◌}
use Rattle.audit_words.specs.declared.Along.{Along}
use Rattle.audit_words.specs.Lists.{next_member}
use Rattle.audit_words.proofs.ListsMet.{is_good}
use Rattle.audit_words.proofs.Turns.{list_turn, list_stop, list_end}
use native.Mathlib.Omega.{arith}
use Rattle.audit_lists.proofs.lists.list_from.Goals as goal

pub loop-m-init : goal.loop-m-init
loop-m-init c = (refl, omega arith)

pub returns-then-not-good_member : goal.returns-then-not-good_member
returns-then-not-good_member c =
    record {
      value = sym (c.loop-m.invariant.0
          ∙ list_stop _ _ _ _ _ _ c.loop-m-test.true (sym c.good_member.ensures ∙ c.if-not-good_member.true));
      still_low = c.loop-m.invariant.1;
    }

pub next_member-m-requires : goal.next_member-m-requires
next_member-m-requires c =
    let good = is_good _ _ _ _ _ (sym c.good_member.ensures ∙ c.if-not-good_member.false) in
    record { in_table = omega (arith, good.member.low); listed_bound = omega (arith, good.member.low) }

pub loop-m-smaller : goal.loop-m-smaller
unfolding next_member
loop-m-smaller c = omega (arith, ap (λ (v : Along). v.listed) c.next_member-m.ensures)

pub loop-m-preserved : goal.loop-m-preserved
unfolding next_member
loop-m-preserved c =
    let good = sym c.good_member.ensures ∙ c.if-not-good_member.false in
    rw c.next_member-m.ensures (c.loop-m.invariant.0 ∙ list_turn _ _ _ _ _ _ c.loop-m-test.true good, omega arith)

pub returns : goal.returns
returns c = record { value = sym (c.loop-m.invariant.0 ∙ list_end _ _ _ _ _ _ c.loop-m-test.false); still_low = c.loop-m.invariant.1 }
