-- The lists below i are counted. Assumes nothing.
use Prim.Native.Nat.{ℕ, ◌-◌}
use mathlib.Core.Path.{◌≡◌}
use mathlib.Core.List.{List}
use lib.ListN.{length, replicate}
use Rattle.tables.specs.Questions.{count_from}
use Rattle.records.specs.InWords.{words_of}
use Rattle.full_report.proofs.count.Given as goal

abbrev pub invariant-loop-i : goal.invariant-loop-i
invariant-loop-i l =
    (length l.counts ≡ 256)
    × ((leaves pile : List ℕ)
    → count_from 256 (words_of l.t l.bin_indices leaves l.nodes pile) 0 (replicate 256 0)
    ≡ count_from (256 - l.i) (words_of l.t l.bin_indices leaves l.nodes pile) l.i l.counts)
