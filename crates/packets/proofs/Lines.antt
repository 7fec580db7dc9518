-- The live regions of a line after a free region was cut, or a live one merged, beside those that stood there before. Assumes nothing.
use mathlib.Core.Path.{◌≡◌, refl, sym, ap, subst}
use mathlib.Core.Logic.{◌⊎◌, inl, inr}
use mathlib.Core.List.{List, [], ◌∷◌, ◌++◌}
use Prim.Native.Nat.{ℕ, ◌+◌}
use native.Mathlib.Omega.{arith}
use Rattle.basics.specs.Sum.{tally}
use Rattle.basics.proofs.Clash.{clash}
use Rattle.basics.proofs.Sums.{tally_append}
use Rattle.ledger.specs.Ledger.{Region, live, free, len}
use Rattle.ledger.specs.Spans.{At, first, later}
use Rattle.ledger.specs.Claims.{Remainder, nothing_left, next_record}
use Rattle.ledger.proofs.Places.{Where, here, further, where?}

-- ---- a region of a line that is cut in two: it stands in front, and so it stands there whatever follows, or it stands behind
data Half (x : Region) (o : ℕ) (front rest : List Region) : Type 0 where
  in_front : ((other : List Region) → At x o (front ++ other)) → Half x o front rest
  behind : (p : ℕ) → o ≡ tally len front + p → At x p rest → Half x o front rest

half : {x : Region} {o : ℕ} (front rest : List Region) → At x o (front ++ rest) → Half x o front rest
half {o = o} [] rest a = behind o (omega arith) a
half {x} {o} (y ∷ front) rest a = go (where? a) (λ p b. half front rest b)
  where
    moved : (p : ℕ) → o ≡ len y + p → Half x p front rest → Half x o (y ∷ front) rest
    moved p e (in_front stays) = in_front (λ other. rw e (later {y = y} (stays other)))
    moved p e (behind q f b) = behind q (omega arith) b

    go : Where x o y (front ++ rest) → ((p : ℕ) → At x p (front ++ rest) → Half x p front rest) → Half x o (y ∷ front) rest
    go (here e z) more = in_front (λ other. rw (e, z) first)
    go (further p e b) more = moved p e (more p b)

after_all : {x : Region} {o p : ℕ} {rest : List Region} (front : List Region) → At x p rest → o ≡ tally len front + p → At x o (front ++ rest)
after_all {x} {o} {p} {rest} [] a e = let unmoved : p ≡ o = omega arith in subst (λ i. At x i rest) unmoved a
after_all {x} {o} {p} {rest} (y ∷ front) a e =
    let sum : o ≡ len y + (tally len front + p) = omega arith in
    subst (λ i. At x i (y ∷ (front ++ rest))) (sym sum) (later {y = y} (after_all {o = tally len front + p} front a refl))

-- a live region behind what is left of a free one
past : {n r p left : ℕ} {pile spare : List ℕ} {remainder back : List Region} → Remainder left pile remainder spare
    → At (live n r) p (remainder ++ back) → (q : ℕ) × (p ≡ tally len remainder + q) × At (live n r) q back
past {p = p} (nothing_left e) a = (p, omega arith, a)
past {n} {r} {p} {left} {back = back} (next_record q rest e f) a = go (where? a)
  where
    go : Where (live n r) p (free left q) back → (k : ℕ) × (p ≡ tally len (free left q ∷ []) + k) × At (live n r) k back
    go (here e z) = clash (cc)
    go (further k z b) = (k, omega arith, b)

-- ---- a live region of the line after a cut is the one that was cut, or it stood there before
pub cut_from : {n r o left : ℕ} {pile spare : List ℕ} {line next : List Region} (front remainder back : List Region) (m q s : ℕ)
    → line ≡ front ++ (free m q ∷ back) → next ≡ front ++ (live s q ∷ (remainder ++ back)) → Remainder left pile remainder spare
    → tally len line ≡ tally len next → At (live n r) o next → ((o ≡ tally len front) × (r ≡ q)) ⊎ At (live n r) o line
cut_from {n} {r} {o} {line = line} {next} front remainder back m q s was now rem as_long a =
    go (half front (live s q ∷ (remainder ++ back)) (subst (At (live n r) o) now a))
  where
    whole : m ≡ s + tally len remainder
    whole = omega (
      arith,
      as_long,
      ap (tally len) was,
      ap (tally len) now,
      tally_append len front (free m q ∷ back),
      tally_append len front (live s q ∷ (remainder ++ back)),
      tally_append len remainder back,
    )

    placed : (p : ℕ) → o ≡ tally len front + p → Where (live n r) p (live s q) (remainder ++ back)
        → ((o ≡ tally len front) × (r ≡ q)) ⊎ At (live n r) o line
    placed p e (here f z) = let number : r ≡ q = cc in inl (omega arith, number)
    placed p e (further k z b) =
        let t = past rem b in
        inr (subst (At (live n r) o) (sym was) (after_all front (later {y = free m q} t.2) (omega (arith, whole, t.1))))

    go : Half (live n r) o front (live s q ∷ (remainder ++ back)) → ((o ≡ tally len front) × (r ≡ q)) ⊎ At (live n r) o line
    go (in_front stays) = inr (subst (At (live n r) o) (sym was) (stays (free m q ∷ back)))
    go (behind p e b) = placed p e (where? b)

-- ---- a live region of the line after a merge stood there before
pub merge_from : {n r o : ℕ} {line next : List Region} (front before after back : List Region) (m q whole : ℕ)
    → line ≡ front ++ (before ++ (live m q ∷ (after ++ back))) → next ≡ front ++ (free whole q ∷ back)
    → whole ≡ tally len before + m + tally len after → At (live n r) o next → At (live n r) o line
merge_from {n} {r} {o} front before after back m q whole was now sum a =
    subst (At (live n r) o) (sym was) (go (half front (free whole q ∷ back) (subst (At (live n r) o) now a)))
  where
    placed : (p : ℕ) → o ≡ tally len front + p → Where (live n r) p (free whole q) back
        → At (live n r) o (front ++ (before ++ (live m q ∷ (after ++ back))))
    placed p e (here f z) = clash (cc)
    placed p e (further k z b) =
        after_all front (after_all before (later {y = live m q} (after_all after b refl)) refl) (omega arith)

    go : Half (live n r) o front (free whole q ∷ back) → At (live n r) o (front ++ (before ++ (live m q ∷ (after ++ back))))
    go (in_front stays) = stays (before ++ (live m q ∷ (after ++ back)))
    go (behind p e b) = placed p e (where? b)
