-- The plan of a hand-back from what lies on each side of the record, and where it starts elsewhere. Assumes nothing.
use mathlib.Core.Path.{◌≡◌}
use mathlib.Core.Bool.{true}
use Prim.Native.Nat.{ℕ}
use lib.Dec.{eqb}
use mathlib.Core.Logic.{◌≢◌}
use borrow.Author.Tests.{ne_eqb}
use Rattle.tables.specs.Layout.{data_offset, data_size, neighbor_prev, neighbor_next, word}
use Rattle.tables.specs.Words.{Words}
use Rattle.tables.specs.HandBack.{stop, is_live, merged_of, plan_merged, plan_sides, plan_neighbours, plan_back}
use Rattle.back_plan.specs.declared.Side.{Side}
use Rattle.back_plan.specs.Plan.{Beside, joined}

pub sides_planned : (w : Words) (o r : ℕ) {p x offset own : ℕ} {before after : Side} → is_live w.nodes w.count r ≡ true
    → eqb (word w.nodes data_offset r) o ≡ true
    → p ≡ word w.nodes neighbor_prev r → x ≡ word w.nodes neighbor_next r
    → offset ≡ word w.nodes data_offset r → own ≡ word w.nodes data_size r
    → Beside w.nodes w.count p neighbor_prev offset before → Beside w.nodes w.count x neighbor_next offset after
    → plan_merged w before.link.0 after.link.0 before.free after.free (joined w.free_storage own before after)
    ≡ plan_back w record { offset = o; number = r }
unfolding plan_back plan_neighbours plan_sides merged_of
sides_planned w o r live there ep ex eo el b a =
    rw (
      live,
      there,
      b.link_is,
      b.free_is,
      b.length_is,
      b.offset_is,
      b.beyond_is,
      a.link_is,
      a.free_is,
      a.length_is,
      a.beyond_is,
      ep,
      ex,
      eo,
      el,
    )

-- a live record that starts elsewhere
pub elsewhere_planned : (w : Words) (o r : ℕ) → is_live w.nodes w.count r ≡ true → word w.nodes data_offset r ≢ o
    → stop 8 ≡ plan_back w record { offset = o; number = r }
unfolding plan_back
elsewhere_planned w o r live elsewhere = rw (live, ne_eqb (word w.nodes data_offset r) o elsewhere)
