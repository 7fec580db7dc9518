-- Runs of records joined both ways: taken apart, put together, and kept by writes that miss them. Assumes nothing.
use mathlib.Core.Path.{◌≡◌, refl, sym, ◌∙◌}
use mathlib.Core.Logic.{◌≢◌}
use mathlib.Core.List.{List, [], ◌∷◌, ◌++◌}
use Prim.Native.Nat.{ℕ, ◌≤◌}
use native.Mathlib.Omega.{arith}
use lib.ListN.{length}
use Rattle.basics.proofs.Sums.{held_first}
use Rattle.basics.proofs.Counts.{In, Distinct, in_tail, distinct_tail, distinct_head}
use Rattle.tables.specs.Linked.{first, Linked}

-- ---- the first and the last of a run
-- the last of a run, or what comes before it where the run is empty
abbrev pub last : ℕ → List ℕ → ℕ
last otherwise [] = otherwise
last otherwise (x ∷ xs) = last x xs

pub first_append : (xs ys : List ℕ) (y : ℕ) → first (xs ++ ys) y ≡ first xs (first ys y)
first_append [] ys y = refl
first_append (x ∷ xs) ys y = refl

pub last_append : (p : ℕ) (xs ys : List ℕ) → last p (xs ++ ys) ≡ last (last p xs) ys
last_append p [] ys = refl
last_append p (x ∷ xs) ys = last_append x xs ys

-- the run is empty, and what stands there is what comes after it; or it is one of the run
pub data FirstOf (xs : List ℕ) (y f : ℕ) : Type 0 where
  no_first : xs ≡ [] → f ≡ y → FirstOf xs y f
  has_first : 1 ≤ length xs → In f xs → FirstOf xs y f

pub first? : (xs : List ℕ) (y : ℕ) → FirstOf xs y (first xs y)
first? [] y = no_first refl refl
first? (x ∷ xs) y = has_first (omega arith) (held_first x xs)

pub data LastOf (p : ℕ) (xs : List ℕ) (l : ℕ) : Type 0 where
  no_last : xs ≡ [] → l ≡ p → LastOf p xs l
  has_last : 1 ≤ length xs → In l xs → LastOf p xs l

last_in : (x : ℕ) (xs : List ℕ) → In (last x xs) (x ∷ xs)
last_in x [] = held_first x []
last_in x (y ∷ xs) = in_tail (last y xs) x (y ∷ xs) (last_in y xs)

pub last? : (p : ℕ) (xs : List ℕ) → LastOf p xs (last p xs)
last? p [] = no_last refl refl
last? p (x ∷ xs) = has_last (omega arith) (last_in x xs)

-- ---- a run taken apart, and put together
module _ (next prev : ℕ → ℕ) where
  pub linked_split : (p : ℕ) (xs ys : List ℕ) (y : ℕ) → Linked next prev p (xs ++ ys) y
      → Linked next prev p xs (first ys y) × Linked next prev (last p xs) ys y
  linked_split p [] ys y k = (tt, k)
  linked_split p (x ∷ xs) ys y k =
      let parts = linked_split x xs ys y k.2 in
      ((k.0, k.1 ∙ first_append xs ys y, parts.0), parts.1)

  pub linked_join : (p : ℕ) (xs ys : List ℕ) (y : ℕ) → Linked next prev p xs (first ys y) → Linked next prev (last p xs) ys y
      → Linked next prev p (xs ++ ys) y
  linked_join p [] ys y j k = k
  linked_join p (x ∷ xs) ys y j k = (j.0, j.1 ∙ sym (first_append xs ys y), linked_join x xs ys y j.2 k)

-- ---- other links: g gives for the members of xs what f gave; for those other than y
abbrev pub Keeps : List ℕ → (ℕ → ℕ) → (ℕ → ℕ) → Type 0
Keeps xs f g = (q : ℕ) → In q xs → g q ≡ f q

abbrev pub KeepsBut : ℕ → List ℕ → (ℕ → ℕ) → (ℕ → ℕ) → Type 0
KeepsBut y xs f g = (q : ℕ) → In q xs → q ≢ y → g q ≡ f q

module _ (next prev next' prev' : ℕ → ℕ) where
  pub linked_kept : (p : ℕ) (xs : List ℕ) (y : ℕ) → Keeps xs next next' → Keeps xs prev prev'
      → Linked next prev p xs y → Linked next' prev' p xs y
  linked_kept p [] y f g k = tt
  linked_kept p (x ∷ xs) y f g k = (
    g x (held_first x xs) ∙ k.0,
    f x (held_first x xs) ∙ k.1,
    linked_kept x xs y (λ q m. f q (in_tail q x xs m)) (λ q m. g q (in_tail q x xs m)) k.2,
  )

  -- the first is given another before it
  pub linked_start : (p p' : ℕ) (xs : List ℕ) (y : ℕ) → Distinct xs → Keeps xs next next'
      → KeepsBut (first xs y) xs prev prev' → (1 ≤ length xs → prev' (first xs y) ≡ p')
      → Linked next prev p xs y → Linked next' prev' p' xs y
  linked_start p p' [] y u f g e k = tt
  linked_start p p' (x ∷ xs) y u f g e k = (
    e (omega arith),
    f x (held_first x xs) ∙ k.1,
    linked_kept x xs y (λ q m. f q (in_tail q x xs m)) (λ q m. g q (in_tail q x xs m) (distinct_head x xs u q m)) k.2,
  )

  -- the last is given another after it
  pub linked_end : (p : ℕ) (xs : List ℕ) (y y' : ℕ) → Distinct xs → KeepsBut (last p xs) xs next next'
      → Keeps xs prev prev' → (1 ≤ length xs → next' (last p xs) ≡ y')
      → Linked next prev p xs y → Linked next' prev' p xs y'
  linked_end p [] y y' u f g e k = tt
  linked_end p (x ∷ []) y y' u f g e k = (g x (held_first x []) ∙ k.0, e (omega arith), tt)
  linked_end p (x ∷ z ∷ zs) y y' u f g e k = (
    g x (held_first x (z ∷ zs)) ∙ k.0,
    f x (held_first x (z ∷ zs)) (λ s. distinct_head x (z ∷ zs) u (last z zs) (last_in z zs) (sym s)) ∙ k.1,
    linked_end x (z ∷ zs) y y' (distinct_tail x (z ∷ zs) u)
        (λ q m. f q (in_tail q x (z ∷ zs) m)) (λ q m. g q (in_tail q x (z ∷ zs) m)) (λ _. e (omega arith)) k.2,
  )
