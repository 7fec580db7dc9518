-- What becomes of one store of the two: its allocator's call as it is below, and its bytes. Assumes nothing.
use Rattle.std.specs.Prelude.{ℕ, ◌+◌, cond, List, [], ltb, length}
use Rattle.ledger.specs.Ledger.{Answer, granted, done, length_is, reported, classes, refused}
use Rattle.ledger.specs.Calls.{Request, Token, SizeOf, Take, HandBack, Ask}
use Rattle.tables.specs.Words.{Words, Edition}
use Rattle.tables.specs.Setup.{Lent, lent_of, zeros, setup_words}
use Rattle.tables.specs.Calls.{answer_words}
use Rattle.parts.specs.Bytes.{part_of, over, marked}
use Rattle.packets.specs.Stores.{Kept, with_words, with_bytes}

-- "Every byte of a fresh grant is set to 255": the bytes of a store after a take of s was answered so
unfoldable pub fresh_bytes : Answer → (s : ℕ) → List ℕ → List ℕ
unfolding marked
fresh_bytes (granted o r) s bytes = marked bytes o s
fresh_bytes done s bytes = bytes
fresh_bytes (length_is n) s bytes = bytes
fresh_bytes (reported n m) s bytes = bytes
fresh_bytes (classes rows) s bytes = bytes
fresh_bytes (refused k) s bytes = bytes

-- of a length that the words tell: 6 where from this offset it would pass the size, as it can on unsound tables alone
unfoldable pub inside_size : (size offset : ℕ) → Answer → Answer
inside_size size o (granted p r) = granted p r
inside_size size o done = done
inside_size size o (length_is n) = cond (ltb size (o + n)) (refused 6) (length_is n)
inside_size size o (reported n m) = reported n m
inside_size size o (classes rows) = classes rows
inside_size size o (refused k) = refused k

-- "more bytes than the span holds is 17, after all else, and fewer fill its front": by the answer to the question for the length
unfoldable pub filled_by : Answer → (offset : ℕ) → (new bytes : List ℕ) → Answer × List ℕ
unfolding over
filled_by (granted p r) o new bytes = (granted p r, bytes)
filled_by done o new bytes = (done, bytes)
filled_by (length_is n) o new bytes = cond (ltb n (length new)) (refused 17, bytes) (done, over bytes o new)
filled_by (reported n m) o new bytes = (reported n m, bytes)
filled_by (classes rows) o new bytes = (classes rows, bytes)
filled_by (refused k) o new bytes = (refused k, bytes)

-- "A read hands back the part .., and an empty part on a refusal", likewise
unfoldable pub shown_by : Answer → (offset : ℕ) → List ℕ → List ℕ
unfolding part_of
shown_by (granted p r) o bytes = []
shown_by done o bytes = []
shown_by (length_is n) o bytes = part_of bytes o n
shown_by (reported n m) o bytes = []
shown_by (classes rows) o bytes = []
shown_by (refused k) o bytes = []

module _ (E : Edition) where
  unfoldable pub take_in : Request → Kept → Answer × Kept
  unfolding fresh_bytes
  take_in asked k =
      let outcome = answer_words E (Take asked) k.words in
      (outcome.0, record { words = outcome.1; bytes = fresh_bytes outcome.0 asked.size k.bytes })

  unfoldable pub hand_back_in : Token → Kept → Answer × Kept
  hand_back_in span k = let outcome = answer_words E (HandBack span) k.words in (outcome.0, with_words k outcome.1)

  -- the length of a packet
  unfoldable pub length_in : Token → Kept → Answer
  unfolding inside_size
  length_in span k = inside_size k.words.size span.offset (answer_words E (Ask (SizeOf span)) k.words).0

  unfoldable pub fill_in : Token → List ℕ → Kept → Answer × Kept
  unfolding filled_by
  fill_in span new k = let outcome = filled_by (length_in span k) span.offset new k.bytes in (outcome.0, with_bytes k outcome.1)

  unfoldable pub read_in : Token → Kept → List ℕ
  unfolding shown_by
  read_in span k = shown_by (length_in span k) span.offset k.bytes

-- what a setup is lent of a store's words, which takes no head; and the store without one, after a refused setup
abbrev pub lent_in : Words → Lent
lent_in w = lent_of w.bin_indices w.used_bins w.nodes w.pile

abbrev pub no_store_yet : Kept → Kept
no_store_yet k = with_words k (zeros (lent_in k.words))

module _ (E : Edition) where
  unfoldable pub set_up_in : (size count : ℕ) → Kept → Answer × Kept
  set_up_in size count k = let outcome = setup_words E size count (lent_in k.words) in (outcome.0, with_words k outcome.1)
