-- What the verdict on a row of the gauge's list tells: bits are those of one float alone, so that a row agrees with one answer and one gauge. One record,
-- which proofs/Facts.antt makes. Assumes nothing.
use Rattle.std.specs.Prelude.{ℕ, ◌≡◌, T, ℤ, Float}
use Rattle.std.specs.Float.{nan, binary32}
use Rattle.std.specs.Float.Ieee.{fits}
use Rattle.oracle_lists.specs.declared.rows.Reader.{Reader}
use Rattle.gauge_verdicts.specs.Rows.{bits, ToldRow, RefusedRow, KeptRow}

pub record RowFacts : Type 0 where
  -- two floats of 32 bits with the same bits are the same, a not-a-number among them
  pub one_float : (x y : Float) → T (fits binary32 x) → T (fits binary32 y) → bits x ≡ bits y → x ≡ y
  pub not_a_number : bits nan ≡ 2143289344
  -- so a row agrees with one reading alone
  pub one_reading : (r : Reader) (fill other-fill : ℕ) (level other-level peak other-peak : Float) (net other-net : ℤ)
      → T (fits binary32 level)
      → T (fits binary32 other-level)
      → T (fits binary32 peak)
      → T (fits binary32 other-peak)
      → ToldRow r fill level peak net
      → ToldRow r other-fill other-level other-peak other-net
      → (fill ≡ other-fill) × (level ≡ other-level) × (peak ≡ other-peak) × (net ≡ other-net)
  -- a row of a reading is no row of a refusal
  pub not_both : (r : Reader) (fill number : ℕ) (level peak : Float) (net : ℤ) → ToldRow r fill level peak net → RefusedRow r number → ⊥
  -- and with one gauge alone
  pub one_gauge : (r : Reader) (level other-level peak other-peak : Float) (last other_last : ℕ)
      → T (fits binary32 level)
      → T (fits binary32 other-level)
      → T (fits binary32 peak)
      → T (fits binary32 other-peak)
      → KeptRow r level peak last
      → KeptRow r other-level other-peak other_last
      → (level ≡ other-level) × (peak ≡ other-peak) × (last ≡ other_last)
