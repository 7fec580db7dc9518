-- Document 01's table of sizes and their classes: the rows marked P, each a size, its class rounded down and its class rounded up. Document 02: "Up
-- entries above that size", 4,026,531,840, "in 01's table change to "none"". Assumes nothing.
use Rattle.std.specs.Prelude.{◌≡◌, ℕ, List, [], ◌∷◌, ◌++◌, map, length}
use Rattle.std.proofs.Math.Option.{Option, none, some}
use Rattle.small_float.specs.Class.{down, rounded_up}

abbrev pub Row : Type 0
Row = ℕ × ℕ × Option ℕ

abbrev pub rows_marked_p : List Row
rows_marked_p =
    (0, 0, some 0)
    ∷ (7, 7, some 7)
    ∷ (8, 8, some 8)
    ∷ (15, 15, some 15)
    ∷ (16, 16, some 16)
    ∷ (17, 16, some 17)
    ∷ (19, 17, some 18)
    ∷ (31, 23, some 24)
    ∷ (1_000, 63, some 64)
    ∷ (65_535, 111, some 112)
    ∷ (4_026_531_840, 239, some 239)
    ∷ (4_294_967_295, 239, none)
    ∷ []

-- a row made anew from its size
abbrev pub row_of : Row → Row
row_of r = (r.0, down r.0, rounded_up r.0)

-- the one claim: every row is what its size gives
abbrev pub RowsAreRight : Type 0
RowsAreRight = map row_of rows_marked_p ≡ rows_marked_p

-- told from the other side: the rows are twelve, and of each the second entry is its size's class rounded down, the third what it is rounded up to
pub record RowByRow : Type 0 where
  pub twelve : length rows_marked_p ≡ 12
  -- document 01's twelve sizes in its order: so no row can give way to another that is right too
  pub sizes : map (λ (row : Row). row.0) rows_marked_p
      ≡ 0 ∷ 7 ∷ 8 ∷ 15 ∷ 16 ∷ 17 ∷ 19 ∷ 31 ∷ 1_000 ∷ 65_535 ∷ 4_026_531_840 ∷ 4_294_967_295 ∷ []
  pub each : (before after : List Row) (size second : ℕ) (third : Option ℕ) → rows_marked_p ≡ before ++ ((size, second, third) ∷ after)
      → (second ≡ down size) × (third ≡ rounded_up size)
