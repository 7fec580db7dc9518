-- The audit: all its tests in order, and the call with its gate and its scratch. Assumes nothing.
use Rattle.std.specs.Prelude.{Bool, false, ◌&&◌, List, [], ◌∷◌, ℕ, ◌+◌, length}
use Rattle.std.proofs.Math.Bool.{true}
use Rattle.std.proofs.Math.Dec.{ltb}
use Rattle.ledger.specs.Ledger.{Answer, done, refused}
use Rattle.tables.specs.Words.{Words, Edition}
use Rattle.tables.specs.Gate.{short, gate_of, gated}
use Rattle.audit_words.specs.declared.Walk.{Walk}
use Rattle.audit_words.specs.Scratch.{cleared}
use Rattle.audit_words.specs.Spares.{Marked, mark_from}
use Rattle.audit_words.specs.Chain.{first_record, walk_from, started, walk_ends}
use Rattle.audit_words.specs.Lists.{lists_from}
use Rattle.audit_words.specs.Bits.{bits_agree}

-- ---- the tests
module _ (E : Edition) (w : Words) where
  -- the chain walked from its first record, the spare records being marked
  unfoldable pub chain_walk : (marks : List ℕ) → Walk
  unfolding walk_from first_record
  chain_walk marks =
      walk_from w.count w.nodes marks w.count w.size (started E (first_record E w.count w.nodes marks 0))

  -- chain, lists and bits, the walk having ended there
  unfoldable pub end_is_sound : (marks : List ℕ) → Walk → Bool
  unfolding walk_ends lists_from bits_agree
  end_is_sound marks end =
      -- "every other record .. occurs once in the neighbour chain"; "the kept free total is the true sum"
      walk_ends E w.size w.count w.free_storage (w.free_offset + 1) end
      -- "each class list holds exactly the free regions of its class"
      && lists_from E 256 w.nodes marks w.bin_indices w.count end.frees 0 0
      -- "a bit is set exactly where a list, or a leaf byte, is non-empty"
      && bits_agree E w.bin_indices w.used_bins w.used_bins_top

  -- chain, lists and bits, the spare records being marked
  unfoldable pub records_are_sound : (marks : List ℕ) → Bool
  unfolding end_is_sound chain_walk
  records_are_sound marks = end_is_sound marks (chain_walk marks)

  unfoldable pub pile_is_sound : Marked → Bool
  unfolding records_are_sound
  pile_is_sound m = m.fine && records_are_sound m.marks

  -- the scratch being clear
  unfoldable pub words_are_sound : (scratch : List ℕ) → Bool
  unfolding pile_is_sound mark_from
  words_are_sound scratch =
      -- "every other record, at least one": the pile leaves one
      ltb (w.free_offset + 1) w.count
      -- "spare record numbers are distinct, below the count, not marked live", and then the rest
      && pile_is_sound (mark_from (w.free_offset + 1) w.nodes w.pile w.count 0 scratch)

-- ---- the call
unfoldable pub verdict : Bool → Answer
verdict true = done
verdict false = refused 6

-- the scratch's length comes last of the lengths; found sound or not, its words below the count are 0 at the end
unfoldable pub behind_gate : Edition → Words → (scratch : List ℕ) → Answer × List ℕ
unfolding gated verdict words_are_sound cleared
behind_gate E w scratch =
    gated (short ((length scratch, w.count) ∷ [])) scratch
    (verdict (words_are_sound E w (cleared w.count scratch)), cleared w.count scratch)

unfoldable pub audit_words : Edition → Words → (scratch : List ℕ) → Answer × List ℕ
unfolding gated gate_of behind_gate
audit_words E w scratch = gated (gate_of E w) scratch (behind_gate E w scratch)
