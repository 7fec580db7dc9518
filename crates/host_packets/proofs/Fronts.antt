-- What is copied where either the part or the room ends first. Assumes nothing.
use Prim.Native.Nat.{ℕ, zero, suc, min}
use native.Mathlib.Omega.{arith}
use mathlib.Core.List.{List, [], ◌∷◌, ◌++◌}
use mathlib.Core.Path.{◌≡◌, refl, sym, ap}
use lib.ListN.{length, take, drop}
use lib.Seq.{take-nil}
use Rattle.host_packets.specs.Flat.{fronted}

pub copied_front : (s d : List ℕ) (n : ℕ) → n ≡ min (length s) (length d) → take n s ++ drop n d ≡ fronted s d
unfolding fronted
copied_front [] d zero e = sym (ap (λ (r : List ℕ). r ++ d) (take-nil (length d)))
copied_front [] d (suc n) e = absurd (omega arith)
copied_front (x ∷ xs) [] zero e = refl
copied_front (x ∷ xs) [] (suc n) e = absurd (omega arith)
copied_front (x ∷ xs) (y ∷ ys) zero e = absurd (omega arith)
copied_front (x ∷ xs) (y ∷ ys) (suc n) e = ap (λ (r : List ℕ). x ∷ r) (copied_front xs ys n (omega arith))
