-- What a size query tells, by the record's words: it is not live; it starts elsewhere; it is the span that is meant. Assumes nothing.
use mathlib.Core.Path.{◌≡◌}
use mathlib.Core.Bool.{true, false}
use mathlib.Core.Logic.{◌≢◌}
use borrow.Author.Tests.{eq-eqb, ne_eqb}
use Rattle.ledger.specs.Ledger.{length_is, refused}
use Rattle.ledger.specs.Calls.{Token}
use Rattle.tables.specs.Layout.{data_offset, data_size, word}
use Rattle.tables.specs.Words.{Words}
use Rattle.tables.specs.HandBack.{is_live}
use Rattle.tables.specs.Questions.{length_of}

module _ (w : Words) (span : Token) where
  pub tells_5 : is_live w.nodes w.count span.number ≡ false → refused 5 ≡ length_of w span
  unfolding length_of
  tells_5 idle = rw idle

  pub tells_8 : is_live w.nodes w.count span.number ≡ true → word w.nodes data_offset span.number ≢ span.offset
      → refused 8 ≡ length_of w span
  unfolding length_of
  tells_8 live elsewhere = rw (live, ne_eqb (word w.nodes data_offset span.number) span.offset elsewhere)

  pub tells_length : is_live w.nodes w.count span.number ≡ true → word w.nodes data_offset span.number ≡ span.offset
      → length_is (word w.nodes data_size span.number) ≡ length_of w span
  unfolding length_of
  tells_length live there = rw (live, eq-eqb (word w.nodes data_offset span.number) span.offset there)
