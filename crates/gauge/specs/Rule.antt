-- Document 02's rule of the fill gauge, on numbers alone, with the library's IEEE operations, each of which rounds once. Assumes nothing.
use Rattle.std.specs.Prelude.{ℕ, ◌≤◌, false, cond, ℤ, pos, negsuc, ◌-ℤ◌, Float}
use Rattle.std.specs.Float.Ieee as ieee
use Rattle.std.specs.Float.{fin, binary32}

-- "The gauge keeps a level and a peak as 32-bit floats"; the live units at the last reading stand beside it
pub record Watch : Type 0 where
  pub level : Float
  pub peak : Float
  pub last : ℕ

abbrev pub nought : Float
nought = fin false 0 (pos 0)

-- 1 * 2 ^ -3
abbrev pub eighth : Float
eighth = fin false 1 (negsuc 2)

-- "both starting at 0"; "the first counts from 0"
abbrev pub begun : Watch
begun = record { level = nought; peak = nought; last = 0 }

-- "The new level is level + (fill - level) * 0.125, each operation rounded once in that order"
unfoldable pub level_after : Float → (fill : ℕ) → Float
level_after level fill = ieee.add binary32 level (ieee.mul binary32 (ieee.sub binary32 (ieee.of_int binary32 (pos fill)) level) eighth)

-- "peak becomes the new level if that is greater"
unfoldable pub peak_after : (peak level : Float) → Float
peak_after peak level = cond (ieee.lt peak level) level peak

-- "the net change of live units since the last reading, below zero when more came back than went out"
unfoldable pub net_change : (last units : ℕ) → ℤ
net_change last units = pos units -ℤ pos last

-- the gauge after a reading of so many live units and this fill
unfoldable pub watch_after : Watch → (units fill : ℕ) → Watch
unfolding level_after peak_after
watch_after g units fill =
    let level = level_after g.level fill in
    record { level = level; peak = peak_after g.peak level; last = units }

-- ---- "any gauge begun at 0": after any readings, each of a fill that a store can have
pub data Reached : Watch → Type 0 where
  at_first : Reached begun
  after : {g : Watch} (units fill : ℕ) → fill ≤ 256 → Reached g → Reached (watch_after g units fill)
