-- What the walks of the code go by, under any edition: each step of a call on one store, from what the call below promises. Assumes nothing.
use mathlib.Core.Path.{◌≡◌, refl, sym, ap, ◌∙◌}
use mathlib.Core.Bool.{Bool, false, ◌||◌, cond}
use mathlib.Core.List.{List, []}
use Prim.Native.Nat.{ℕ, ◌+◌, ◌≤◌, ◌<◌}
use native.Mathlib.Omega.{arith}
use lib.Dec.{ltb}
use lib.ListN.{length}
use borrow.Author.Tests.{lt-ltb, le-ltb}
use Rattle.basics.proofs.Clash.{clash}
use Rattle.basics.proofs.Decided.{Below, below, beyond, below?}
use Rattle.ledger.specs.Ledger.{Answer, granted, done, length_is, reported, classes, refused}
use Rattle.ledger.specs.Calls.{Request, Token, SizeOf, Take, Ask}
use Rattle.tables.specs.Words.{Words, Edition}
use Rattle.tables.specs.Calls.{answer_words}
use Rattle.tables.specs.Promise.{Promise}
use Rattle.parts.specs.Bytes.{part_of, over, marked}
use Rattle.packets.specs.Stores.{Kept, with_bytes}
use Rattle.packets.specs.OneStore.{fresh_bytes, inside_size, filled_by, shown_by, take_in, length_in, fill_in, read_in}
use Rattle.packets.specs.Calls.{Answered, plain, plainly}

-- ---- the test for 9: told no, both are long enough
pub both_long : (a b c d : ℕ) → (ltb a b || ltb c d) ≡ false → (b ≤ a) × (d ≤ c)
both_long a b c d e = go (below? a b) (below? c d)
  where
    go : Below a b → Below c d → (b ≤ a) × (d ≤ c)
    go (below h z) q = clash (cc)
    go (beyond h z) (below g y) = clash (cc)
    go (beyond h z) (beyond g y) = (h, g)

-- ---- a take
module _ (E : Edition) where
  pub took : (asked : Request) (w v : Words) (a : Answer) (before after : List ℕ) → Promise E (Take asked) w v a
      → after ≡ fresh_bytes a asked.size before
      → ◌≡◌ {A = Answer × Kept} (a, record { words = v; bytes = after }) (take_in E asked record { words = w; bytes = before })
  unfolding take_in
  took asked w v a before after p e =
      let bytes_are : after ≡ fresh_bytes (answer_words E (Take asked) w).0 asked.size before =
      e ∙ ap (λ (x : Answer × Words). fresh_bytes x.0 asked.size before) p.exact in
      λ i. ((p.exact i).0, record { words = (p.exact i).1; bytes = bytes_are i })

pub fresh_granted : (o r s : ℕ) (bytes : List ℕ) → marked bytes o s ≡ fresh_bytes (granted o r) s bytes
unfolding fresh_bytes
fresh_granted o r s bytes = refl

pub fresh_refused : (k s : ℕ) (bytes : List ℕ) → bytes ≡ fresh_bytes (refused k) s bytes
unfolding fresh_bytes
fresh_refused k s bytes = refl

-- ---- a length
pub passes : (size o n : ℕ) → size < o + n → refused 6 ≡ inside_size size o (length_is n)
unfolding inside_size
passes size o n h = sym (ap (λ (t : Bool). cond t (refused 6) (length_is n)) (lt-ltb size (o + n) h))

pub stays_inside : (size o n : ℕ) → o + n ≤ size → length_is n ≡ inside_size size o (length_is n)
unfolding inside_size
stays_inside size o n h = sym (ap (λ (t : Bool). cond t (refused 6) (length_is n)) (le-ltb size (o + n) h))

-- a length that is told passes no size
told_inside : (size o n : ℕ) (a : Answer) → inside_size size o a ≡ length_is n → o + n ≤ size
unfolding inside_size
told_inside size o n (granted p r) e = clash (cc)
told_inside size o n done e = clash (cc)
told_inside size o n (length_is m) e = go (below? size (o + m))
  where
    go : Below size (o + m) → o + n ≤ size
    go (below h z) = clash (cc)
    go (beyond h z) =
        let same : length_is m ≡ length_is n = sym (ap (λ (t : Bool). cond t (refused 6) (length_is m)) z) ∙ e in
        let m_is : m ≡ n = cc in omega (arith, h, m_is)
told_inside size o n (reported m k) e = clash (cc)
told_inside size o n (classes rows) e = clash (cc)
told_inside size o n (refused k) e = clash (cc)

module _ (E : Edition) where
  -- what the question below answered, held to the size
  asked_length : (span : Token) (k : Kept) (a : Answer) → ◌≡◌ {A = Answer × Words} (a, k.words) (answer_words E (Ask (SizeOf span)) k.words)
      → inside_size k.words.size span.offset a ≡ length_in E span k
  unfolding length_in
  asked_length span k a e = ap (λ (x : Answer × Words). inside_size k.words.size span.offset x.0) e

  pub length_refused : (span : Token) (k : Kept) (n : ℕ)
      → ◌≡◌ {A = Answer × Words} (refused n, k.words) (answer_words E (Ask (SizeOf span)) k.words) → refused n ≡ length_in E span k
  unfolding inside_size
  length_refused span k n e = asked_length span k (refused n) e

  pub length_held : (span : Token) (k : Kept) (n : ℕ) (a : Answer)
      → ◌≡◌ {A = Answer × Words} (length_is n, k.words) (answer_words E (Ask (SizeOf span)) k.words)
      → a ≡ inside_size k.words.size span.offset (length_is n) → a ≡ length_in E span k
  length_held span k n a e f = f ∙ asked_length span k (length_is n) e

  pub length_in_size : (span : Token) (k : Kept) (n : ℕ) → length_in E span k ≡ length_is n → span.offset + n ≤ k.words.size
  unfolding length_in
  length_in_size span k n e = told_inside k.words.size span.offset n (answer_words E (Ask (SizeOf span)) k.words).0 e

  pub length_in_bytes : (span : Token) (k : Kept) (n : ℕ) → length_is n ≡ length_in E span k → k.words.size ≤ length k.bytes
      → span.offset + n ≤ length k.bytes
  length_in_bytes span k n e h = omega (arith, length_in_size span k n (sym e), h)

  -- ---- a fill
  pub fill_refused : (span : Token) (new : List ℕ) (k : Kept) (n : ℕ) → refused n ≡ length_in E span k
      → ◌≡◌ {A = Answered × Kept} (plain (refused n), k) (plainly (fill_in E span new k))
  unfolding fill_in filled_by
  fill_refused span new k n e =
      ap (λ (a : Answer). plainly {Left = Kept}
      ((filled_by a span.offset new k.bytes).0, with_bytes k (filled_by a span.offset new k.bytes).1)) e

  pub fill_goes_on : (span : Token) (new : List ℕ) (k : Kept) (n : ℕ) (a : Answered) (after : List ℕ) → length_is n ≡ length_in E span k
      → ◌≡◌ {A = Answered × List ℕ} (a, after) (plainly (filled_by (length_is n) span.offset new k.bytes))
      → ◌≡◌ {A = Answered × Kept} (a, with_bytes k after) (plainly (fill_in E span new k))
  unfolding fill_in
  fill_goes_on span new k n a after e f =
      let so_far : ◌≡◌ {A = Answered × Kept} (a, with_bytes k after)
      (plain (filled_by (length_is n) span.offset new k.bytes).0, with_bytes k (filled_by (length_is n) span.offset new k.bytes).1) =
      ap (λ (x : Answered × List ℕ). (x.0, with_bytes k x.1)) f in
      so_far ∙ ap (λ (b : Answer). plainly {Left = Kept}
      ((filled_by b span.offset new k.bytes).0, with_bytes k (filled_by b span.offset new k.bytes).1)) e

pub too_many : (n o : ℕ) (new bytes : List ℕ) → n < length new
    → ◌≡◌ {A = Answered × List ℕ} (plain (refused 17), bytes) (plainly (filled_by (length_is n) o new bytes))
unfolding filled_by
too_many n o new bytes h =
    sym (ap (λ (t : Bool). plainly {Left = List ℕ} (cond t (refused 17, bytes) (done, over bytes o new))) (lt-ltb n (length new) h))

pub enough : (n o : ℕ) (new bytes after : List ℕ) → length new ≤ n → after ≡ over bytes o new
    → ◌≡◌ {A = Answered × List ℕ} (plain done, after) (plainly (filled_by (length_is n) o new bytes))
unfolding filled_by
enough n o new bytes after h e =
    let so_far : ◌≡◌ {A = Answered × List ℕ} (plain done, after) (plain done, over bytes o new) = ap (λ (x : List ℕ). (plain done, x)) e in
    so_far ∙ sym (ap (λ (t : Bool). plainly {Left = List ℕ} (cond t (refused 17, bytes) (done, over bytes o new))) (le-ltb n (length new) h))

-- ---- a read
module _ (E : Edition) where
  pub shows_nothing : (span : Token) (k : Kept) (n : ℕ) → refused n ≡ length_in E span k → [] ≡ read_in E span k
  unfolding read_in shown_by
  shows_nothing span k n e = ap (λ (a : Answer). shown_by a span.offset k.bytes) e

  pub shows_part : (span : Token) (k : Kept) (n : ℕ) → length_is n ≡ length_in E span k → part_of k.bytes span.offset n ≡ read_in E span k
  unfolding read_in shown_by
  shows_part span k n e = ap (λ (a : Answer). shown_by a span.offset k.bytes) e
