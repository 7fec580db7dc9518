-- Lists of one length that read alike, from some place on or up to it, are the same there. Assumes nothing.
use mathlib.Core.Path.{◌≡◌, refl, ap, ap₂, sym, ◌∙◌}
use mathlib.Core.List.{List, [], ◌∷◌}
use Prim.Native.Nat.{ℕ, zero, suc, ◌≤◌, ◌<◌}
use native.Mathlib.Omega.{arith}
use lib.ListN.{length, get_or, take, drop}

pub same_all : (a b : List ℕ) → length a ≡ length b → ((i : ℕ) → get_or a i 0 ≡ get_or b i 0) → a ≡ b
same_all [] [] e h = refl
same_all [] (y ∷ b) e h = absurd (omega arith)
same_all (x ∷ a) [] e h = absurd (omega arith)
same_all (x ∷ a) (y ∷ b) e h = ap₂ {C = List ℕ} ◌∷◌ (h 0) (same_all a b (omega arith) (λ i. h (suc i)))

-- the same of the places that there are
pub same_below : (a b : List ℕ) → length a ≡ length b → ((i : ℕ) → i < length a → get_or a i 0 ≡ get_or b i 0) → a ≡ b
same_below [] [] e h = refl
same_below [] (y ∷ b) e h = absurd (omega arith)
same_below (x ∷ a) [] e h = absurd (omega arith)
same_below (x ∷ a) (y ∷ b) e h = ap₂ {C = List ℕ} ◌∷◌ (h 0 (omega arith)) (same_below a b (omega arith) (λ i l. h (suc i) (omega arith)))

-- from place k on
pub same_beyond : (k : ℕ) (a b : List ℕ) → length a ≡ length b → ((i : ℕ) → k ≤ i → get_or a i 0 ≡ get_or b i 0) → drop k a ≡ drop k b
same_beyond zero a b e h = same_all a b e (λ i. h i (omega arith))
same_beyond (suc k) [] [] e h = refl
same_beyond (suc k) [] (y ∷ b) e h = absurd (omega arith)
same_beyond (suc k) (x ∷ a) [] e h = absurd (omega arith)
same_beyond (suc k) (x ∷ a) (y ∷ b) e h = same_beyond k a b (omega arith) (λ i l. h (suc i) (omega arith))

-- a place below k is read from the first k alone
pub read_taken : (k : ℕ) (a : List ℕ) (i : ℕ) → i < k → get_or (take k a) i 0 ≡ get_or a i 0
read_taken zero a i l = absurd (omega arith)
read_taken (suc k) [] i l = refl
read_taken (suc k) (x ∷ a) zero l = refl
read_taken (suc k) (x ∷ a) (suc i) l = read_taken k a i (omega arith)

pub read_alike : (k : ℕ) (a b : List ℕ) → take k a ≡ take k b → (i : ℕ) → i < k → get_or a i 0 ≡ get_or b i 0
read_alike k a b e i l = sym (read_taken k a i l) ∙ ap (λ (x : List ℕ). get_or x i 0) e ∙ read_taken k b i l
