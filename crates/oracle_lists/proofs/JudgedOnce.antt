-- A row that is written is judged, once: a comparison counts nothing before the row ends. Assumes nothing.
use Prim.Native.Nat.{ℕ, ◌≤◌}
use mathlib.Core.Path.{◌≡◌, refl, ap, ◌∙◌}
use mathlib.Core.Bool.{true, false}
use mathlib.Core.List.{List, [], ◌∷◌, ◌++◌}
use lib.ListN.{length}
use Rattle.oracle_lists.specs.declared.rows.State.TheVariants.{Within}
use Rattle.oracle_lists.specs.declared.rows.Reader.{Reader}
use Rattle.oracle_lists.specs.declared.tally.Tally.{Tally}
use Rattle.oracle_lists.specs.declared.classes.Comparison.{Comparison}
use Rattle.oracle_lists.specs.Rows.{fresh, fed, fed_all, is_whole, ends_well}
use Rattle.oracle_lists.specs.Tally.{counted}
use Rattle.oracle_lists.specs.Verdicts.{row_verdict}
use Rattle.oracle_lists.specs.Comparison.{after_byte, after_bytes}
use Rattle.oracle_lists.specs.Facts.{Numbers, with_numbers, row_text, row_read}
use Rattle.oracle_lists.proofs.Reading.{Quiet, done, next, row_quiet, row_ended}

abbrev comparison : Reader → Tally → Comparison
comparison r t = record { reader = r; tally = t }

module _ (t : Tally) where
  byte_quiet : (r : Reader) {s : Reader} (byte : ℕ) → fed r byte ≡ s → is_whole s.state ≡ false → after_byte (comparison r t) byte ≡ comparison s t
  unfolding after_byte
  byte_quiet r byte e w = rw (e, w)

  bytes_quiet : {r s : Reader} {bytes : List ℕ} (byte : ℕ)
      → Quiet r bytes s
      → after_bytes (comparison r t) (bytes ++ (byte ∷ [])) ≡ after_byte (comparison s t) byte
  unfolding after_bytes
  bytes_quiet byte done = refl
  bytes_quiet byte (next {r} first {bytes} e w p) =
      ap (λ (x : Comparison). after_bytes x (bytes ++ (byte ∷ []))) (byte_quiet r first e w) ∙ bytes_quiet byte p

  byte_ended : (r : Reader) {s : Reader} (byte : ℕ)
      → fed r byte ≡ s
      → is_whole s.state ≡ true
      → after_byte (comparison r t) byte ≡ comparison s (counted t (row_verdict s))
  unfolding after_byte
  byte_ended r byte e w = rw (e, w)

pub row_judged : (p : Comparison) (letter : ℕ) {text ns : List ℕ}
    → ends_well p.reader.state ≡ true
    → 97 ≤ letter
    → letter ≤ 122
    → Numbers text ns
    → length ns ≤ 4
    → after_bytes p (row_text letter text)
    ≡ record { reader = row_read letter ns; tally = counted p.tally (row_verdict (row_read letter ns)) }
row_judged p letter {text} {ns} ready low high numbers most =
    bytes_quiet p.tally 10 (row_quiet p.reader letter ready low high numbers most)
    ∙ byte_ended p.tally (with_numbers (fresh Within letter) ns) 10 (row_ended letter ns) refl

-- the reader of a comparison reads all bytes
pub comparison_reads : (p : Comparison) (bytes : List ℕ) → (after_bytes p bytes).reader ≡ fed_all p.reader bytes
unfolding after_bytes after_byte fed_all
comparison_reads p [] = refl
comparison_reads p (byte ∷ bytes) = comparison_reads (after_byte p byte) bytes
