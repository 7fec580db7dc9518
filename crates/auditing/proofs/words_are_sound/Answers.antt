-- The pile, and then the rest, as the model joins them; the marks are cleared away. Assumes nothing.
use mathlib.Core.Path.{refl, sym, ap, ◌∙◌}
use Prim.Native.Nat.{◌+◌, ◌≤◌, ◌<◌}
use Rattle.tables.specs.Calls.{edition32}
use Rattle.audit_words.specs.Scratch.{cleared}
use Rattle.audit_words.specs.Audit.{records_are_sound}
use Rattle.audit_words.proofs.Cleared.{marks_cleared}
use Rattle.audit_words.proofs.Verdicts.{no_room, pile_refused, records_decide}
use native.Mathlib.Omega.{arith}
use Rattle.auditing.proofs.words_are_sound.Goals as goal

pub returns-then-t : goal.returns-then-t
returns-then-t c =
    let full : c.args.t.max_allocs ≤ c.args.t.free_offset + 1 = omega arith in
    record { value = sym (no_room edition32 _ _ full); scratch_unchanged = refl }

pub returns-then-not-mark_spares : goal.returns-then-not-mark_spares
returns-then-not-mark_spares c =
    let room : c.args.t.free_offset + 1 < c.args.t.max_allocs = omega (arith, c.if-t.false, c.requires) in record { value = sym (pile_refused edition32 _ _ room (sym c.mark_spares.ensures.value ∙ c.if-not-mark_spares.true)); scratch_unchanged = ap (cleared c.args.t.max_allocs) c.mark_spares.ensures.scratch_after ∙ (marks_cleared _ _ _ _ 0 _ c.requires.max_allocs_in_bounds).1 }

pub returns : goal.returns
returns c =
    let room : c.args.t.free_offset + 1 < c.args.t.max_allocs = omega (arith, c.if-t.false, c.requires) in record {
      value = c.records_are_sound.ensures _
          ∙ ap (records_are_sound edition32 _) c.mark_spares.ensures.scratch_after
          ∙ sym (records_decide edition32 _ _ room (sym c.mark_spares.ensures.value ∙ c.if-not-mark_spares.false));
      scratch_unchanged = ap (cleared c.args.t.max_allocs) c.mark_spares.ensures.scratch_after ∙ (marks_cleared _ _ _ _ 0 _ c.requires.max_allocs_in_bounds).1;
    }
