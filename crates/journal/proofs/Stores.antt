-- Stores in a row are one. Assumes nothing.
use Prim.Native.Nat.{ℕ, suc, ◌+◌, ◌≤◌}
use native.Mathlib.Nat.{add-zero, add-suc, suc-add}
use mathlib.Core.List.{List, [], ◌∷◌, ◌++◌, append_assoc}
use mathlib.Core.Path.{◌≡◌, sym, ap, ◌∙◌}
use lib.ListN.{length, take, drop}
use lib.Seq.{sets, sets-eq}

pub stored_on : (a b l : List ℕ) (i : ℕ) → sets (sets l i a) (i + length a) b ≡ sets l i (a ++ b)
stored_on [] b l i = ap (λ (n : ℕ). sets l n b) (add-zero i)
stored_on (x ∷ a) b l i =
    ap (λ (n : ℕ). sets (sets l i (x ∷ a)) n b) (add-suc i (length a) ∙ sym (suc-add i (length a)))
    ∙ stored_on a b (sets l i (x ∷ [])) (suc i)

-- with the second place told as a number
pub stored_after : (a b l : List ℕ) (i k : ℕ) → length a ≡ k → sets (sets l i a) (i + k) b ≡ sets l i (a ++ b)
stored_after a b l i k e = ap (λ (n : ℕ). sets (sets l i a) (i + n) b) (sym e) ∙ stored_on a b l i

-- what is left: the bytes before, what was stored, the bytes after
pub stored : (vs l : List ℕ) (i : ℕ) → i + length vs ≤ length l → sets l i vs ≡ take i l ++ (vs ++ drop (i + length vs) l)
stored vs l i h = sets-eq vs l i h ∙ append_assoc (take i l) vs (drop (i + length vs) l)

-- two stores, one behind the other
pub then_stored : (a b l u v : List ℕ) (i k : ℕ) → length a ≡ k → u ≡ sets l i a → v ≡ sets u (i + k) b → v ≡ sets l i (a ++ b)
then_stored a b l u v i k e first second = second ∙ ap (λ (x : List ℕ). sets x (i + k) b) first ∙ stored_after a b l i k e
