-- What the lengths for a count of records come to. Assumes nothing.
use mathlib.Core.Path.{◌≡◌, sym, ap, ◌∙◌}
use mathlib.Core.Logic.{inl, inr}
use Prim.Native.Nat.{ℕ, ◌≤◌}
use native.Mathlib.Omega.{arith}
use Rattle.tables.specs.Words.{Edition}
use Rattle.tables.specs.Claims.{BadCount}
use Rattle.std.specs.Prelude.{Result, Ok, Err}
use Rattle.answers.specs.declared.Refusal.{Refusal}
use Rattle.answers.proofs.Numbers.{number_means}
use Rattle.starting.specs.declared.lengths.Lengths.{Lengths}
use Rattle.starting.specs.Lengths.{Needed, LengthsFor, LengthFacts}

same_lengths : (count : ℕ) (l m : Lengths) → Needed count l → Needed count m → l ≡ m
same_lengths count l m N M = λ i. record {
  nodes = (N.nodes_needed_lem ∙ sym M.nodes_needed_lem) i;
  free_nodes = (N.pile_needed_lem ∙ sym M.pile_needed_lem) i;
  scratch = (N.scratch_needed ∙ sym M.scratch_needed) i;
}

module _ (E : Edition) (count : ℕ) where
  not_both : (2 ≤ count) × (count ≤ E.limit) → BadCount E count → ⊥
  not_both good (inl h) = omega (arith, good.0)
  not_both good (inr h) = omega (arith, good.1)

  one_answer : (a b : Result Lengths Refusal) → LengthsFor E count a → LengthsFor E count b → a ≡ b
  one_answer (Ok l) (Ok m) N M = ap Ok (same_lengths count l m N.1 M.1)
  one_answer (Ok l) (Err why) N M = absurd (not_both N.0 M.0)
  one_answer (Err why) (Ok m) N M = absurd (not_both M.0 N.0)
  one_answer (Err why) (Err other) N M = ap Err (number_means.none_shared why other (N.1 ∙ sym M.1))

pub length_facts : (E : Edition) → LengthFacts E
length_facts E = record {
  room_exactly = λ count l N low high nodes pile. (
    λ r. (omega (arith, N.nodes_needed_lem, r.nodes_room), omega (arith, N.pile_needed_lem, r.pile_room)),
    λ p. record {
      count_low = low;
      count_high = high;
      nodes_room = omega (arith, N.nodes_needed_lem, p.0);
      pile_room = omega (arith, N.pile_needed_lem, p.1);
    },
  );
  one_result = one_answer E;
}
