-- When a row of the gauge's list agrees with what a reading answered and left. Assumes nothing.
use Rattle.std.specs.Prelude.{ℕ, ◌≡◌, ◌⊎◌, ℤ, pos, ◌-ℤ◌, Float}
use Rattle.std.specs.Float.{binary32}
use Rattle.std.specs.Float.Ieee.{to_bits}
use Rattle.oracle_lists.specs.declared.rows.Reader.{Reader}
use Rattle.oracle_lists.specs.declared.tally.Verdict.{Verdict}
use Rattle.oracle_lists.specs.declared.tally.Verdict.TheVariants.{Agrees, Differs}

-- a row agrees exactly if it holds, and differs otherwise
pub data Judged (Holds : Type 0) : Verdict → Type 0 where
  agrees : Holds → Judged Holds Agrees
  differs : (Holds → ⊥) → Judged Holds Differs

-- a float's bits; those of a not-a-number are 2143289344
abbrev pub bits : Float → ℕ
bits x = to_bits binary32 x

-- the fill, the level, the peak and the net change
abbrev pub Numbers : Reader → (fill : ℕ) (level peak : Float) (net change : ℤ) → Type 0
Numbers r fill level peak net change =
    (r.fields ≡ 4) × (r.a ≡ fill) × (r.b ≡ bits level) × (r.c ≡ bits peak) × (net ≡ change)

-- u: so many units more are live; d: so many fewer
abbrev pub ToldRow : Reader → (fill : ℕ) (level peak : Float) (net : ℤ) → Type 0
ToldRow r fill level peak net =
    ((r.letter ≡ 117) × Numbers r fill level peak net (pos r.d))
    ⊎ ((r.letter ≡ 100) × Numbers r fill level peak net (pos 0 -ℤ pos r.d))

-- x: the number of the refusal
abbrev pub RefusedRow : Reader → (number : ℕ) → Type 0
RefusedRow r number = (r.letter ≡ 120) × (r.fields ≡ 1) × (r.d ≡ number)

-- k: the level, the peak and the live units that are kept
abbrev pub KeptRow : Reader → (level peak : Float) (last : ℕ) → Type 0
KeptRow r level peak last = (r.letter ≡ 107) × (r.fields ≡ 3) × (r.b ≡ bits level) × (r.c ≡ bits peak) × (r.d ≡ last)

-- s: the level stood still
abbrev pub StillRow : Reader → (before after : Float) → Type 0
StillRow r before after = (r.letter ≡ 115) × (r.fields ≡ 1) × (r.d ≡ bits before) × (r.d ≡ bits after)
