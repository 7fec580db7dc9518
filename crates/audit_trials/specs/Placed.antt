-- Where a row puts a word. Assumes nothing.
use Rattle.std.specs.Prelude.{ℕ, Bool, cond, eqb}
use Rattle.records.specs.declared.totals.Totals.{Totals}
use Rattle.records.specs.InWords.{with_size, with_count, with_free_storage, with_free_offset, with_top_bits}
use Rattle.oracle_lists.specs.declared.tally.Verdict.{Verdict}
use Rattle.oracle_lists.specs.declared.tally.Verdict.TheVariants.{Agrees, Differs}
use Rattle.audit_verdicts.specs.declared.State.{State}

-- a word that has no place differs from every list
abbrev pub placed_if : Bool → Verdict
placed_if has_place = cond has_place Agrees Differs

-- the scalars in the order of their declaration; another index changes none
unfoldable pub total_put : Totals → (i v : ℕ) → Totals
total_put t i v =
    cond (eqb i 0) (with_size t v)
    (cond (eqb i 1) (with_count t v)
    (cond (eqb i 2) (with_free_storage t v)
    (cond (eqb i 3) (with_free_offset t v)
    (cond (eqb i 4) (with_top_bits t v) t))))

abbrev pub state_put : State → (i v : ℕ) → State
state_put s i v = record { totals = total_put s.totals i v; nodes = s.nodes; pile = s.pile; scratch = s.scratch }
