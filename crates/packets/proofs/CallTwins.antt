-- A packet call on two stores and on their twins: what it tells is the same, and it leaves twins. Assumes nothing.
use mathlib.Core.Path.{◌≡◌, refl, sym, ap, subst, ◌∙◌}
use mathlib.Core.Bool.{Bool, true, false, cond}
use mathlib.Core.List.{List, []}
use Prim.Native.Nat.{ℕ}
use native.Mathlib.Omega.{arith}
use lib.ListN.{length}
use borrow.Author.Tests.{le-ltb}
use Rattle.ledger.specs.Ledger.{Answer, granted, done, length_is, reported, classes, refused}
use Rattle.ledger.specs.Calls.{Request, Token, Report, Ask}
use Rattle.ledger.specs.Calls as ledger
use Rattle.tables.specs.Words.{Edition}
use Rattle.tables.specs.Calls.{answer_words}
use Rattle.demands.proofs.Twins as below
use Rattle.packets.specs.declared.Store.{Store}
use Rattle.packets.specs.declared.Store.TheVariants.{OnChip, External}
use Rattle.packets.specs.Stores.{Kept, Two, two, at}
use Rattle.packets.specs.OneStore.{filled_by, take_in, hand_back_in, length_in, fill_in, read_in}
use Rattle.packets.specs.Calls.{PacketCall, Take, HandBack, Fill, Read, LengthOf, ReportOf, Answered, packet, plain}
use Rattle.packets.specs.Calls.{too_short, nine, goes_on, from_external, after_first, on, take_from, packet_words}
use Rattle.packets.specs.Promise.{PacketPromise}
use Rattle.packets.specs.Stretch.{told_of}
use Rattle.packets.proofs.StoreTwins.{Alike, Twin, answers_alike, words_alike, lengths_alike, fills_alike, reads_alike}

pub record Twins (E : Edition) (t u : Two) : Type 0 where
  pub on_chip_twins : Twin E t.on_chip u.on_chip
  pub external_twins : Twin E t.external u.external

pub twins_at : {E : Edition} {t u : Two} → Twins E t u → (s : Store) → Twin E (at s t) (at s u)
twins_at h OnChip = h.on_chip_twins
twins_at h External = h.external_twins

-- ---- no twin is too short
pub one_long : {E : Edition} {t u : Two} → Twins E t u → too_short t ≡ false
one_long {t = t} h = rw (
  le-ltb (length t.on_chip.bytes) t.on_chip.words.size h.on_chip_twins.alike.fits,
  le-ltb (length t.external.bytes) t.external.words.size h.external_twins.alike.fits,
) refl

pub other_long : {E : Edition} {t u : Two} → Twins E t u → too_short u ≡ false
other_long {u = u} h = rw (
  le-ltb (length u.on_chip.bytes) u.on_chip.words.size (omega (arith, h.on_chip_twins.alike.fits_too, h.on_chip_twins.bytes_are)),
  le-ltb (length u.external.bytes) u.external.words.size (omega (arith, h.external_twins.alike.fits_too, h.external_twins.bytes_are)),
) refl

-- ---- two outcomes that tell the same, of stores of so many bytes
record Same (E : Edition) (many others : ℕ) (x y : Answered × Two) : Type 0 where
  told : told_of x.0 ≡ told_of y.0
  here : Alike E many x.1.on_chip.words y.1.on_chip.words
  there : Alike E others x.1.external.words y.1.external.words

module _ (E : Edition) where
  moved : {many others : ℕ} {x y x' y' : Answered × Two} → x ≡ x' → y ≡ y' → Same E many others x' y' → Same E many others x y
  moved {many} {others} {x} {y} {x'} {y'} e f s =
      subst (λ (z : Answered × Two). Same E many others z y) (sym e) (subst (λ (z : Answered × Two). Same E many others x' z) (sym f) s)

  past : (t : Two) (outcome : Answered × Two) → too_short t ≡ false → nine (too_short t) t outcome ≡ outcome
  past t outcome e = ap (λ (b : Bool). nine b t outcome) e

  -- ---- a take
  outside_told : (b : Answer) {p q : Two} {many others : ℕ} → Alike E many p.on_chip.words q.on_chip.words
      → Alike E others p.external.words q.external.words → Same E many others (from_external b, p) (from_external b, q)
  outside_told b h g = record { told = refl; here = h; there = g }

  module _ {many others : ℕ} (first first' beside beside' : Kept) (h : Alike E many first.words first'.words)
      (g : Alike E others beside.words beside'.words) where
    ends_here : (a : Answered) → Same E many others (a, two first beside) (a, two first' beside')
    ends_here a = record { told = refl; here = h; there = g }

    first_then : (a b : Answer) (left left' : Kept) → Alike E others left.words left'.words
        → Same E many others (after_first a first beside (b, left)) (after_first a first' beside' (b, left'))
    first_then (granted o r) b left left' f = ends_here (packet OnChip o r)
    first_then done b left left' f = ends_here (plain done)
    first_then (length_is n) b left left' f = ends_here (plain (length_is n))
    first_then (reported n m) b left left' f = ends_here (plain (reported n m))
    first_then (classes rows) b left left' f = ends_here (plain (classes rows))
    first_then (refused k) b left left' f = go (goes_on k)
      where
        go : (goes : Bool)
            → Same E many others
            (cond goes (from_external b, two first left) (plain (refused k), two first beside))
            (cond goes (from_external b, two first' left') (plain (refused k), two first' beside'))
        go true = outside_told b h f
        go false = ends_here (plain (refused k))

  module _ {t u : Two} (h : Twins E t u) where
    abbrev SameOf : Answered × Two → Answered × Two → Type 0
    SameOf x y = Same E (length t.on_chip.bytes) (length t.external.bytes) x y

    past_both : (x y : Answered × Two) → SameOf x y → SameOf (nine (too_short t) t x) (nine (too_short u) u y)
    past_both x y s = moved (past t x (one_long h)) (past u y (other_long h)) s

    take_same : (asked : Request) → SameOf (take_from E asked t) (take_from E asked u)
    unfolding take_from take_in
    take_same asked =
        let on_chip = h.on_chip_twins.alike in
        let external = h.external_twins.alike in
        let c : ledger.Call = ledger.Take asked in
        moved refl
        (sym (λ i. after_first (answers_alike E on_chip c i) (take_in E asked u.on_chip).1 u.external
        (answers_alike E external c i, (take_in E asked u.external).1)))
        (first_then (take_in E asked t.on_chip).1 (take_in E asked u.on_chip).1 t.external u.external (words_alike E on_chip c) external
        (answer_words E c t.on_chip.words).0 (answer_words E c t.external.words).0
        (take_in E asked t.external).1 (take_in E asked u.external).1 (words_alike E external c))

    -- ---- a call on the store that is named
    named_same : (s : Store) (x y : Answer × Kept) → x.0 ≡ y.0 → Alike E (length (at s t).bytes) x.1.words y.1.words
        → SameOf (on s t x) (on s u y)
    named_same OnChip x y e f = record { told = ap plain e; here = f; there = h.external_twins.alike }
    named_same External x y e f = record { told = ap plain e; here = h.on_chip_twins.alike; there = f }

    back_same : (s : Store) (span : Token) → SameOf (on s t (hand_back_in E span (at s t))) (on s u (hand_back_in E span (at s u)))
    unfolding hand_back_in
    back_same s span =
        let alike = (twins_at h s).alike in
        named_same s _ _ (answers_alike E alike (ledger.HandBack span)) (words_alike E alike (ledger.HandBack span))

    fill_same : (s : Store) (span : Token) (new : List ℕ) → SameOf (on s t (fill_in E span new (at s t))) (on s u (fill_in E span new (at s u)))
    unfolding fill_in
    fill_same s span new =
        named_same s _ _
        (fills_alike E (length_in E span (at s t)) span.offset new (at s t).bytes (at s u).bytes
        ∙ ap (λ (a : Answer). (filled_by a span.offset new (at s u).bytes).0) (lengths_alike E (twins_at h s) span))
        (twins_at h s).alike

    -- ---- a question leaves both
    question_same : (a b : Answered) → told_of a ≡ told_of b → SameOf (a, t) (b, u)
    question_same a b e = record { told = e; here = h.on_chip_twins.alike; there = h.external_twins.alike }

    read_same : (s : Store) (span : Token) → SameOf (packet_words E (Read s span) t) (packet_words E (Read s span) u)
    unfolding packet_words
    read_same s span =
        let many = reads_alike E (twins_at h s) span in
        question_same _ _
        (ap (λ (b : Bool). plain (length_is (length (cond b [] (read_in E span (at s t)))))) (one_long h)
        ∙ ap (λ (n : ℕ). plain (length_is n)) many
        ∙ sym (ap (λ (b : Bool). plain (length_is (length (cond b [] (read_in E span (at s u)))))) (other_long h)))

    every_same : (c : PacketCall) → SameOf (packet_words E c t) (packet_words E c u)
    unfolding packet_words
    every_same (Take asked) = past_both _ _ (take_same asked)
    every_same (HandBack s span) = past_both _ _ (back_same s span)
    every_same (Fill s span new) = past_both _ _ (fill_same s span new)
    every_same (Read s span) = read_same s span
    every_same (LengthOf s span) = past_both _ _ (question_same _ _ (ap plain (lengths_alike E (twins_at h s) span)))
    every_same (ReportOf s) = past_both _ _ (question_same _ _ (ap plain (answers_alike E (twins_at h s).alike (Ask Report))))

  -- ---- a store that a call leaves has tables and bytes of the length that it had
  twin_after : {k m k' m' : Kept} → Twin E k m → below.OneLength k'.words k.words → below.OneLength m'.words m.words
      → length k'.bytes ≡ length k.bytes → length m'.bytes ≡ length m.bytes → Alike E (length k.bytes) k'.words m'.words
      → Twin E k' m'
  twin_after {k' = k'} {m'} h one other bytes bytes-too alike = record {
    nodes_are = one.nodes_are ∙ h.nodes_are ∙ sym other.nodes_are;
    pile_are = one.pile_are ∙ h.pile_are ∙ sym other.pile_are;
    bytes_are = bytes ∙ h.bytes_are ∙ sym bytes-too;
    alike = subst (λ (n : ℕ). Alike E n k'.words m'.words) (sym bytes) alike;
  }

  pub call_twins : {t u t' u' : Two} {c : PacketCall} {a b : Answered} → Twins E t u → PacketPromise E c t t' a → PacketPromise E c u u' b
      → (told_of a ≡ told_of b) × Twins E t' u'
  call_twins {c = c} h p q =
      let same = moved p.exact q.exact (every_same h c) in (
        same.told,
        record {
          on_chip_twins =
              twin_after h.on_chip_twins (below.run_lengths E (p.made OnChip)) (below.run_lengths E (q.made OnChip)) (p.lengths OnChip)
              (q.lengths OnChip) same.here;
          external_twins =
              twin_after h.external_twins (below.run_lengths E (p.made External)) (below.run_lengths E (q.made External)) (p.lengths External)
              (q.lengths External) same.there;
        },
      )
