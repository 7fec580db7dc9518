-- Runs of records joined both ways, how a line of regions stands in its records, and masks of bits. Assumes nothing.
use Rattle.std.specs.Prelude.{◌≡◌, List, [], ◌∷◌, ℕ, zero, suc, ◌+◌, ◌*◌, get_or}
use Rattle.ledger.specs.Ledger.{Region, live, free, len, rec}
use Rattle.tables.specs.Layout.{data_offset, data_size, used, word}

-- the first of a run, or what comes after it where the run is empty
abbrev pub first : List ℕ → ℕ → ℕ
first [] otherwise = otherwise
first (x ∷ xs) otherwise = x

-- the records xs in order, joined both ways by two functions from record to link; p stands before the first, and y after the last
abbrev pub Linked : (next prev : ℕ → ℕ) → (p : ℕ) → List ℕ → (y : ℕ) → Type 0
Linked next prev p [] y = Unit {0}
Linked next prev p (x ∷ xs) y = (prev x ≡ p) × (next x ≡ first xs y) × Linked next prev x xs y

-- the records of a line
abbrev pub recs : List Region → List ℕ
recs [] = []
recs (x ∷ xs) = rec x ∷ recs xs

-- the used word of a region
abbrev pub mark : Region → ℕ
mark (live n r) = 1
mark (free n r) = 0

-- each region's record says what the region is: its offset, from o on, its length, and whether it is live
abbrev pub Reads : List ℕ → (o : ℕ) → List Region → Type 0
Reads nodes o [] = Unit {0}
Reads nodes o (x ∷ xs) =
    (word nodes data_offset (rec x) ≡ o) × (word nodes data_size (rec x) ≡ len x) × (word nodes used (rec x) ≡ mark x)
    × Reads nodes (o + len x) xs

-- the first k words of the pile, the last of them first: its top
abbrev pub stack_of : List ℕ → ℕ → List ℕ
stack_of pile zero = []
stack_of pile (suc k) = get_or pile k 0 ∷ stack_of pile k

-- a number of k bits, given by the bit at each place, lowest first
unfoldable pub mask : ℕ → (ℕ → ℕ) → ℕ
mask zero bit = 0
mask (suc k) bit = mask k (λ i. bit (suc i)) * 2 + bit 0

-- 1 for a list that holds something; 1 for a number that is not 0
abbrev pub full : List ℕ → ℕ
full [] = 0
full (x ∷ xs) = 1

unfoldable pub non_zero : ℕ → ℕ
non_zero zero = 0
non_zero (suc n) = 1
