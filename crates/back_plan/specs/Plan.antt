-- A hand-back's plan as the model's. Assumes nothing.
use Rattle.std.specs.Prelude.{cond, ◌≡◌, List, ℕ, ◌+◌, Result, Ok, Err}
use Rattle.tables.specs.Layout.{data_offset, data_size, word}
use Rattle.tables.specs.HandBack.{BackPlan, stop, merge, Merged, is_free}
use Rattle.answers.specs.declared.Refusal.{Refusal}
use Rattle.answers.specs.Refusals.{number_of}
use Rattle.back_plan.specs.declared.Merged.{Merged as Joined}
use Rattle.back_plan.specs.declared.Side.{Side}
use Rattle.back_plan.specs.declared.Planned.{Planned}

abbrev pub merged_in : Joined → Merged
merged_in m = record { length = m.length.0; start = m.start; before = m.before.0; after = m.after.0; total = m.total }

abbrev pub plan_of : Result Planned Refusal → BackPlan
plan_of (Err why) = stop (number_of why)
plan_of (Ok g) = merge g.prev.link.0 g.next.link.0 g.prev.free g.next.free (merged_in g.merged)

-- a plan that goes on puts the merged region under record r
abbrev pub UnderRecord : ℕ → Result Planned Refusal → Type 0
UnderRecord r (Err why) = Unit {0}
UnderRecord r (Ok g) = g.merged.record.0 ≡ r

-- a neighbour by its link, and what it adds to a region at this offset: `outward` is the word that links on beyond it
pub record Beside (nodes : List ℕ) (count link outward offset : ℕ) (s : Side) : Type 0 where
  pub link_is : s.link.0 ≡ link
  pub free_is : s.free ≡ is_free nodes count link
  pub length_is : s.length.0 ≡ cond (is_free nodes count link) (word nodes data_size link) 0
  pub offset_is : s.offset ≡ cond (is_free nodes count link) (word nodes data_offset link) offset
  pub beyond_is : s.beyond.0 ≡ cond (is_free nodes count link) (word nodes outward link) link

-- a region of length own, joined with what lies beside it
abbrev pub joined : (total own : ℕ) → (before after : Side) → Merged
joined total own before after = record {
  length = before.length.0 + own + after.length.0;
  start = before.offset;
  before = before.beyond.0;
  after = after.beyond.0;
  total = total + own;
}
