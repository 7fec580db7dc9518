-- Regions cover the store from 0 to its size without gap or overlap, and no two free ones lie side by side. Assumes nothing.
use mathlib.Core.Path.{◌≡◌, refl, sym, ap, subst}
use Prim.Native.Nat.{ℕ, ◌+◌, ◌-◌, ◌≤◌, ◌<◌}
use native.Mathlib.Omega.{arith}
use mathlib.Core.Logic.{inl, inr, ◌≢◌}
use mathlib.Core.List.{List, [], ◌∷◌, ◌++◌}
use Rattle.basics.specs.Sum.{tally}
use Rattle.basics.proofs.Decided.{Below, below, beyond, below?}
use Rattle.ledger.specs.Ledger.{Engine, Ledger, Region, live, free, len, rec}
use Rattle.ledger.specs.WellFormed.{Apart, WellFormed}
use Rattle.ledger.specs.Spans.{At, first, later, Disjoint}
use Rattle.ledger.proofs.Places.{Where, here, further, where?}
use Rattle.ledger.proofs.Apart.{apart_end}

-- ---- in any line
within : {x : Region} {o : ℕ} {line : List Region} → At x o line → o + len x ≤ tally len line
within first = omega arith
within (later a) = omega (arith, within a)

pub at_disjoint : {x y : Region} {o p : ℕ} {line : List Region} → At x o line → At y p line → rec x ≢ rec y → Disjoint o (len x) p (len y)
at_disjoint {x} {y} {p = p} (first {xs = rest}) b h = go (where? b)
  where
    go : Where y p x rest → Disjoint 0 (len x) p (len y)
    go (here e z) = absurd (h (ap rec (sym e)))
    go (further q e c) = inl (omega arith)
at_disjoint {x} {y} {p = p} (later {y = z} {o = o} {xs = rest} a) b h = go (where? b) (λ q c. at_disjoint a c h)
  where
    moved : (q : ℕ) → p ≡ len z + q → Disjoint o (len x) q (len y) → Disjoint (len z + o) (len x) p (len y)
    moved q e (inl k) = inl (omega arith)
    moved q e (inr k) = inr (omega arith)

    go : Where y p z rest → ((q : ℕ) → At y q rest → Disjoint o (len x) q (len y)) → Disjoint (len z + o) (len x) p (len y)
    go (here e k) behind = inr (omega (arith, ap len e))
    go (further q e c) behind = moved q e (behind q c)

-- a region of the line holds the address a
Holding : ℕ → List Region → Type 0
Holding a line = (x : Region) × (o : ℕ) × At x o line × (o ≤ a) × (a < o + len x)

holding : (line : List Region) (a : ℕ) → a < tally len line → Holding a line
unfolding Holding
holding [] a h = absurd (omega arith)
holding (x ∷ rest) a h = go (below? a (len x)) (holding rest (a - len x))
  where
    go : Below a (len x) → (a - len x < tally len rest → Holding (a - len x) rest) → Holding a (x ∷ rest)
    go (below k e) behind = (x, 0, first, omega arith, omega arith)
    go (beyond k e) behind =
        let found = behind (omega arith) in
        (found.0, len x + found.1, later found.2, omega (arith, found.3), omega (arith, found.4))

live_between : (n q : ℕ) (between : List Region) (m p : ℕ) (after : List Region) → Apart (free n q ∷ (between ++ (free m p ∷ after)))
    → (k : ℕ) × (r : ℕ) × (rest : List Region) × (between ≡ live k r ∷ rest)
live_between n q [] m p after h = absurd h.0
live_between n q (live k r ∷ rest) m p after h = (k, r, rest, refl)
live_between n q (free k r ∷ rest) m p after h = absurd h.0

module _ (E : Engine) where
  -- ---- in the line of a ledger in order
  module _ (size count : ℕ) where
    pub inside : (l : Ledger E.Index) → WellFormed E size count l → (x : Region) (o : ℕ) → At x o l.line → o + len x ≤ size
    inside l w x o a = omega (arith, within a, w.lined.cover)

    pub disjoint : (l : Ledger E.Index) → WellFormed E size count l → (x y : Region) (o p : ℕ) → At x o l.line → At y p l.line
        → rec x ≢ rec y → Disjoint o (len x) p (len y)
    disjoint l w x y o p a b h = at_disjoint a b h

    pub filled : (l : Ledger E.Index) → WellFormed E size count l → (a : ℕ) → a < size
        → (x : Region) × (o : ℕ) × At x o l.line × (o ≤ a) × (a < o + len x)
    unfolding Holding
    filled l w a h = holding l.line a (omega (arith, w.lined.cover))

    pub separated : (l : Ledger E.Index) → WellFormed E size count l → (before between after : List Region) (n q m p : ℕ)
        → l.line ≡ before ++ (free n q ∷ (between ++ (free m p ∷ after)))
        → (k : ℕ) × (r : ℕ) × (rest : List Region) × (between ≡ live k r ∷ rest)
    separated l w before between after n q m p e =
        live_between n q between m p after (apart_end before _ (subst Apart e w.lined.apart))
