-- Two stores that stand for one ledger, or of which neither is there, in tables and bytes of one length: each call below answers alike on both, and
-- leaves such stores again. Assumes nothing.
use mathlib.Core.Path.{◌≡◌, refl, sym, ap, subst, ◌∙◌}
use mathlib.Core.Logic.{inl}
use mathlib.Core.Bool.{Bool, true, false, cond}
use mathlib.Core.List.{List}
use Prim.Native.Nat.{ℕ, ◌+◌, ◌≤◌}
use native.Mathlib.Omega.{arith}
use lib.Dec.{ltb}
use lib.ListN.{length}
use Rattle.ledger.specs.Ledger.{Ledger, Answer, granted, done, length_is, reported, classes, refused, by_class, Stacks}
use Rattle.ledger.specs.Calls.{Token, SizeOf, Call, Ask, answer}
use Rattle.ledger.proofs.Records.{all_records}
use Rattle.tables.specs.Words.{Words, Edition}
use Rattle.tables.specs.Calls.{answer_words}
use Rattle.tables.specs.Sound.{Sound}
use Rattle.tables.proofs.Claims as tables
use Rattle.parts.specs.Bytes.{over}
use Rattle.parts.proofs.Meanings.{part_length}
use Rattle.packets.specs.Stores.{Kept}
use Rattle.packets.specs.OneStore.{inside_size, filled_by, shown_by, length_in, read_in}
use Rattle.packets.proofs.Steps.{length_in_size}

-- ---- words that stand for one ledger, or for none
pub data OneLedger (E : Edition) (w v : Words) : Type 0 where
  stand : (l : Ledger Stacks) → Sound E w l → Sound E v l → OneLedger E w v
  neither : w.count ≡ 0 → v.count ≡ 0 → OneLedger E w v

-- and no size passes so many bytes
pub record Alike (E : Edition) (bytes : ℕ) (w v : Words) : Type 0 where
  pub ledgers : OneLedger E w v
  pub fits : w.size ≤ bytes
  pub fits_too : v.size ≤ bytes

pub record Twin (E : Edition) (k m : Kept) : Type 0 where
  pub nodes_are : length k.words.nodes ≡ length m.words.nodes
  pub pile_are : length k.words.pile ≡ length m.words.pile
  pub bytes_are : length k.bytes ≡ length m.bytes
  pub alike : Alike E (length k.bytes) k.words m.words

module _ {E : Edition} {w v : Words} {l : Ledger Stacks} (S : Sound E w l) (T : Sound E v l) where
  pub same_size : v.size ≡ w.size
  same_size = sym T.well.lined.cover ∙ S.well.lined.cover

  pub same_count : v.count ≡ w.count
  same_count = sym (all_records T.well.lined) ∙ all_records S.well.lined

module _ (E : Edition) where
  -- ---- a call below: on one ledger it is the ledger's, and on no store it is refused as 6
  call_alike : {w v : Words} → OneLedger E w v → (c : Call)
      → ((answer_words E c w).0 ≡ (answer_words E c v).0) × OneLedger E (answer_words E c w).1 (answer_words E c v).1
  call_alike {w} {v} (stand l S T) c =
      let this = (tables.claims E).call_sound w l S c in
      let that : ((answer_words E c v).0 ≡ (answer by_class w.size w.count c l).0)
      × Sound E (answer_words E c v).1 (answer by_class w.size w.count c l).1 =
      subst (λ (n : ℕ). ((answer_words E c v).0 ≡ (answer by_class w.size n c l).0)
      × Sound E (answer_words E c v).1 (answer by_class w.size n c l).1) (same_count S T)
      (subst (λ (n : ℕ). ((answer_words E c v).0 ≡ (answer by_class n v.count c l).0)
      × Sound E (answer_words E c v).1 (answer by_class n v.count c l).1) (same_size S T) ((tables.claims E).call_sound v l T c)) in
      (this.0 ∙ sym that.0, stand (answer by_class w.size w.count c l).1 this.1 that.1)
  call_alike {w} {v} (neither e f) c =
      let this = (tables.claims E).call_6 c w (inl (omega (arith, e))) in
      let that = (tables.claims E).call_6 c v (inl (omega (arith, f))) in (
        ap (λ (x : Answer × Words). x.0) this ∙ sym (ap (λ (x : Answer × Words). x.0) that),
        neither (ap (λ (x : Answer × Words). x.1.count) this ∙ e) (ap (λ (x : Answer × Words). x.1.count) that ∙ f),
      )

  pub answers_alike : {n : ℕ} {w v : Words} → Alike E n w v → (c : Call) → (answer_words E c w).0 ≡ (answer_words E c v).0
  answers_alike a c = (call_alike a.ledgers c).0

  pub words_alike : {n : ℕ} {w v : Words} → Alike E n w v → (c : Call) → Alike E n (answer_words E c w).1 (answer_words E c v).1
  words_alike {n} {w} {v} a c = record {
    ledgers = (call_alike a.ledgers c).1;
    fits = omega (arith, a.fits, ((tables.claims E).not_written c w).size_is);
    fits_too = omega (arith, a.fits_too, ((tables.claims E).not_written c v).size_is);
  }

  -- ---- a packet's length: on one ledger the sizes are one
  inside_refused : (size o n : ℕ) → inside_size size o (refused n) ≡ refused n
  unfolding inside_size
  inside_refused size o n = refl

  pub lengths_alike : {k m : Kept} → Twin E k m → (span : Token) → length_in E span k ≡ length_in E span m
  unfolding length_in
  lengths_alike {k} {m} t span = go t.alike.ledgers
    where
      told : (answer_words E (Ask (SizeOf span)) k.words).0 ≡ (answer_words E (Ask (SizeOf span)) m.words).0
      told = answers_alike t.alike (Ask (SizeOf span))

      six : (w : Words) → w.count ≡ 0 → inside_size w.size span.offset (answer_words E (Ask (SizeOf span)) w).0 ≡ refused 6
      six w e =
          ap (λ (x : Answer × Words). inside_size w.size span.offset x.0)
          ((tables.claims E).call_6 (Ask (SizeOf span)) w (inl (omega (arith, e))))
          ∙ inside_refused w.size span.offset 6

      go : OneLedger E k.words m.words
          → inside_size k.words.size span.offset (answer_words E (Ask (SizeOf span)) k.words).0
          ≡ inside_size m.words.size span.offset (answer_words E (Ask (SizeOf span)) m.words).0
      go (stand l S T) = λ i. inside_size (sym (same_size S T) i) span.offset (told i)
      go (neither e f) = six k.words e ∙ sym (six m.words f)

  -- what is filled in is answered by the length alone
  pub fills_alike : (a : Answer) (o : ℕ) (new bytes others : List ℕ) → (filled_by a o new bytes).0 ≡ (filled_by a o new others).0
  unfolding filled_by
  fills_alike (granted p r) o new bytes others = refl
  fills_alike done o new bytes others = refl
  fills_alike (length_is n) o new bytes others = go (ltb n (length new))
    where
      go : (b : Bool)
          → (cond {A = Answer × List ℕ} b (refused 17, bytes) (done, over bytes o new)).0
          ≡ (cond {A = Answer × List ℕ} b (refused 17, others) (done, over others o new)).0
      go true = refl
      go false = refl
  fills_alike (reported n m) o new bytes others = refl
  fills_alike (classes rows) o new bytes others = refl
  fills_alike (refused k) o new bytes others = refl

  -- and so is how many bytes a read shows
  shown_length : (a : Answer) (o : ℕ) (bytes others : List ℕ) → ((n : ℕ) → a ≡ length_is n → (o + n ≤ length bytes) × (o + n ≤ length others))
      → length (shown_by a o bytes) ≡ length (shown_by a o others)
  unfolding shown_by
  shown_length (granted p r) o bytes others h = refl
  shown_length done o bytes others h = refl
  shown_length (length_is n) o bytes others h = part_length bytes o n (h n refl).0 ∙ sym (part_length others o n (h n refl).1)
  shown_length (reported n m) o bytes others h = refl
  shown_length (classes rows) o bytes others h = refl
  shown_length (refused k) o bytes others h = refl

  pub reads_alike : {k m : Kept} → Twin E k m → (span : Token) → length (read_in E span k) ≡ length (read_in E span m)
  unfolding read_in
  reads_alike {k} {m} t span =
      let told = lengths_alike t span in
      shown_length (length_in E span k) span.offset k.bytes m.bytes
      (λ n e. (
        omega (arith, length_in_size E span k n e, t.alike.fits),
        omega (arith, length_in_size E span m n (sym told ∙ e), t.alike.fits_too, t.bytes_are),
      ))
      ∙ ap (λ (a : Answer). length (shown_by a span.offset m.bytes)) told
