-- What stands in front of a text. Assumes nothing.
use Prim.Native.Nat.{ℕ, ◌-◌, ◌≤◌, ◌<◌}
use native.Mathlib.Omega.{arith}
use mathlib.Core.Path.{◌≡◌, refl}
use mathlib.Core.Bool.{Bool, true, false}
use mathlib.Core.List.{List, ◌∷◌}
use lib.ListN.{length, take, drop, get_or, length-drop}
use lib.Seq.{take_all}
use borrow.Author.Tests.{leb-true}
use Rattle.std.proofs.lemmas.List.Sums.{prefix_len_passes}
use Rattle.basics.proofs.Clash.{no_and_yes}
use Rattle.basics.proofs.Decided.{below, beyond, below?}
use Rattle.journal_text.specs.Words.{is_digit, leading}

-- a part of a slice up to its end
pub to_the_end : (text : List ℕ) (i : ℕ) → take (length text - i) (drop i text) ≡ drop i text
to_the_end text i = take_all (length text - i) (drop i text) (omega (arith, length-drop i text))

-- a digit is 48 to 57
pub digit_range : (b : ℕ) → is_digit b ≡ true → (48 ≤ b) × (b ≤ 57)
unfolding is_digit
digit_range b e = elim (below? b 48) [
  | below p t ↦ no_and_yes (rw t) e
  | beyond p t ↦ (p, leb-true b 57 (rw t at e))
]

-- where all are such, so is the first and so are the others
pub all_first : (such : ℕ → Bool) (b : ℕ) (bs : List ℕ) (t : Bool) → such b ≡ t → leading such (b ∷ bs) ≡ length (b ∷ bs)
    → (t ≡ true) × (leading such bs ≡ length bs)
all_first such b bs true e all = (refl, omega (arith, rw e at all))
all_first such b bs false e all = absurd (omega (arith, rw e at all))

pub each_such : (such : ℕ → Bool) (text : List ℕ) (i : ℕ) → leading such text ≡ length text → i < length text → such (get_or text i 0) ≡ true
each_such such text i all h = prefix_len_passes such text i 0 (omega arith)
