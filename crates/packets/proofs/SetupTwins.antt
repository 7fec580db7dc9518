-- A setup of one store or of both, on two stores and on their twins: it is accepted on both sides or refused on both, and leaves twins. Assumes nothing.
use mathlib.Core.Path.{◌≡◌, refl, sym, ap, subst, ◌∙◌}
use mathlib.Core.Bool.{Bool, true, false, ◌||◌, cond}
use Prim.Native.Nat.{ℕ, zero, suc, ◌≤◌}
use native.Mathlib.Omega.{arith}
use lib.Dec.{ltb}
use lib.ListN.{length}
use borrow.Author.Tests.{le-ltb}
use Rattle.ledger.specs.Ledger.{Answer, done, refused, setup, by_class}
use Rattle.tables.specs.Words.{Words, Edition}
use Rattle.tables.specs.Gate.{gated, setup_gate}
use Rattle.tables.specs.Setup.{setup_words}
use Rattle.tables.proofs.Claims as tables
use Rattle.packets.specs.declared.Store.{Store}
use Rattle.packets.specs.declared.Store.TheVariants.{OnChip, External}
use Rattle.packets.specs.Stores.{Kept, Two, two, at, put, other}
use Rattle.packets.specs.OneStore.{lent_in, no_store_yet, set_up_in}
use Rattle.packets.specs.Calls.{Answered, plain, shorter, either_shorter, nine, on, gate_in, neither, refused_by, set_up_words, set_up_both_words}
use Rattle.packets.specs.Promise.{PacketSetup, PacketSetupBoth}
use Rattle.packets.specs.Runs.{SameLent}
use Rattle.packets.specs.Claims.{Bare}
use Rattle.packets.proofs.Setups.{at_put}
use Rattle.packets.proofs.Stood.{never_short, bare_stands}
use Rattle.packets.proofs.BareSetups.{set_up_bare, set_up_both_bare}
use Rattle.packets.proofs.StoreTwins as store
use Rattle.packets.proofs.StoreTwins.{OneLedger, Twin}
use Rattle.packets.proofs.CallTwins.{Twins, twins_at}

-- ---- the answer that a number gives: 0 accepts
said : ℕ → Answer
said zero = done
said (suc k) = refused (suc k)

-- the first of two numbers that refuses
first_of : ℕ → ℕ → ℕ
first_of zero n = n
first_of (suc k) n = suc k

gated_says : (g : ℕ) (x y : Words) → (gated g x (done, y)).0 ≡ said g
unfolding gated said
gated_says zero x y = refl
gated_says (suc k) x y = refl

-- ---- a store that is set up, as it was found and as it is left: it is no store, or what the setup below makes of it
data LeftBy (E : Edition) (size count : ℕ) (k left : Kept) : Type 0 where
  none_left : left ≡ no_store_yet k → LeftBy E size count k left
  made_left : left ≡ (set_up_in E size count k).1 → LeftBy E size count k left

module _ (E : Edition) where
  setup_says : (size count : ℕ) (k : Kept) → (set_up_in E size count k).0 ≡ said (gate_in E size count k)
  unfolding set_up_in setup_words
  setup_says size count k = gated_says _ _ _

  record Lengths (k left : Kept) : Type 0 where
    nodes_are : length left.words.nodes ≡ length k.words.nodes
    pile_are : length left.words.pile ≡ length k.words.pile

  left_lengths : {size count : ℕ} {k left : Kept} → LeftBy E size count k left → Lengths k left
  left_lengths (none_left e) = record {
    nodes_are = ap (λ (x : Kept). length x.words.nodes) e;
    pile_are = ap (λ (x : Kept). length x.words.pile) e;
  }
  left_lengths {size} {count} {k} (made_left e) =
      let kept = (tables.claims E).setup_lengths size count (lent_in k.words) in
      record {
        nodes_are = ap (λ (x : Kept). length x.words.nodes) e ∙ (unfold set_up_in in kept.0);
        pile_are = ap (λ (x : Kept). length x.words.pile) e ∙ (unfold set_up_in in kept.1);
      }

  -- ---- one store on each side
  -- what was lent of it, and of its twin
  record Lent (k m lent lent-too : Kept) : Type 0 where
    of_one : SameLent k lent
    of_other : SameLent m lent-too
    twin : Twin E k m

  module _ {k m lent lent-too : Kept} (h : Lent k m lent lent-too) where
    nodes_same : length lent.words.nodes ≡ length lent-too.words.nodes
    nodes_same = ap length h.of_one.nodes_are ∙ h.twin.nodes_are ∙ sym (ap length h.of_other.nodes_are)

    pile_same : length lent.words.pile ≡ length lent-too.words.pile
    pile_same = ap length h.of_one.pile_are ∙ h.twin.pile_are ∙ sym (ap length h.of_other.pile_are)

    bytes_same : length lent.bytes ≡ length lent-too.bytes
    bytes_same = ap length h.of_one.bytes_are ∙ h.twin.bytes_are ∙ sym (ap length h.of_other.bytes_are)

    gates_same : (size count : ℕ) → gate_in E size count lent ≡ gate_in E size count lent-too
    gates_same size count = λ i. setup_gate E size count (nodes_same i) (pile_same i)

    shorter_same : (size : ℕ) → shorter size lent ≡ shorter size lent-too
    shorter_same size = ap (λ (n : ℕ). ltb n size) bytes_same

    -- the stores that are left, if they stand for one ledger or for none, and begin bare
    twin_left : {size count : ℕ} {left left-too : Kept} → LeftBy E size count lent left → LeftBy E size count lent-too left-too
        → left.bytes ≡ lent.bytes → left-too.bytes ≡ lent-too.bytes → Bare E left → Bare E left-too
        → OneLedger E left.words left-too.words → Twin E left left-too
    twin_left {left = left} {left-too} l m bytes bytes-too bare bare-too ledgers =
        let one = left_lengths l in
        let other = left_lengths m in
        let many : length left.bytes ≡ length left-too.bytes = ap length bytes ∙ bytes_same ∙ sym (ap length bytes-too) in
        record {
          nodes_are = one.nodes_are ∙ nodes_same ∙ sym other.nodes_are;
          pile_are = one.pile_are ∙ pile_same ∙ sym other.pile_are;
          bytes_are = many;
          alike = record {
            ledgers = ledgers;
            fits = never_short (bare_stands bare);
            fits_too = omega (arith, never_short (bare_stands bare-too), many);
          };
        }

  no_ledger : (k m left left-too : Kept) → left ≡ no_store_yet k → left-too ≡ no_store_yet m → OneLedger E left.words left-too.words
  no_ledger k m left left-too e f = store.neither (ap (λ (x : Kept). x.words.count) e) (ap (λ (x : Kept). x.words.count) f)

  -- ---- setup of one store
  module _ (s : Store) (size count : ℕ) where
    short_in : Two → Bool
    short_in t = shorter size (at s t) || shorter (at (other s) t).words.size (at (other s) t)

    number_for : Two → ℕ
    number_for t = cond (short_in t) 9 (gate_in E size count (at s t))

    one_said : (t : Two) → (set_up_words E s size count t).0 ≡ plain (said (number_for t))
    unfolding set_up_words number_for short_in
    one_said t = go (short_in t)
      where
        go : (b : Bool)
            → (nine b (put s (no_store_yet (at s t)) t) (on s t (set_up_in E size count (at s t)))).0 ≡ plain (said (cond b 9 (gate_in E size count (at s t))))
        go true = unfold said in refl
        go false = ap plain (setup_says size count (at s t))

    one_left : (t : Two) → LeftBy E size count (at s t) (at s (set_up_words E s size count t).1)
    unfolding set_up_words
    one_left t = go (shorter size (at s t) || shorter (at (other s) t).words.size (at (other s) t))
      where
        go : (b : Bool)
            → LeftBy E size count (at s t) (at s (nine b (put s (no_store_yet (at s t)) t) (on s t (set_up_in E size count (at s t)))).1)
        go true = none_left (at_put s (no_store_yet (at s t)) t)
        go false = made_left (at_put s (set_up_in E size count (at s t)).1 t)

    -- the other store is not too short
    beside_long : (t : Two) (k : Kept) → at (other s) t ≡ k → k.words.size ≤ length k.bytes → short_in t ≡ (shorter size (at s t) || false)
    unfolding short_in
    beside_long t k e long =
        ap (λ (x : Kept). shorter size (at s t) || shorter x.words.size x) e
        ∙ ap (λ (b : Bool). shorter size (at s t) || b) (le-ltb (length k.bytes) k.words.size long)

    module _ {t u lent lent-too t' u' : Two} {a b : Answered} (h : Twins E t u)
        (l : SameLent (at s t) (at s lent)) (l' : SameLent (at s u) (at s lent-too))
        (beside : at (other s) lent ≡ at (other s) t) (beside' : at (other s) lent-too ≡ at (other s) u)
        (p : PacketSetup E s size count lent t' a) (q : PacketSetup E s size count lent-too u' b) where
      lent_there : Lent (at s t) (at s u) (at s lent) (at s lent-too)
      lent_there = record { of_one = l; of_other = l'; twin = twins_at h s }

      one_number : number_for lent ≡ number_for lent-too
      unfolding number_for
      one_number =
          let o = twins_at h (other s) in
          let short : short_in lent ≡ short_in lent-too =
          beside_long lent (at (other s) t) beside o.alike.fits
          ∙ ap (λ (x : Bool). x || false) (shorter_same lent_there size)
          ∙ sym (beside_long lent-too (at (other s) u) beside' (omega (arith, o.alike.fits_too, o.bytes_are))) in
          λ i. cond (short i) 9 (gates_same lent_there size count i)

      a_is : a ≡ plain (said (number_for lent))
      a_is = ap (λ (x : Answered × Two). x.0) p.exact ∙ one_said lent

      b_is : b ≡ plain (said (number_for lent))
      b_is = ap (λ (x : Answered × Two). x.0) q.exact ∙ one_said lent-too ∙ ap (λ (n : ℕ). plain (said n)) (sym one_number)

      one_ledger : (n : ℕ) → a ≡ plain (said n) → b ≡ plain (said n) → OneLedger E (at s t').words (at s u').words
      unfolding said
      one_ledger zero e f = store.stand (setup by_class size count) (p.begins e).0 (q.begins f).0
      one_ledger (suc k) e f =
          no_ledger (at s lent) (at s lent-too) (at s t') (at s u')
          (ap (λ (x : Two). at s x) (p.refused_none (suc k) e) ∙ at_put s (no_store_yet (at s lent)) lent)
          (ap (λ (x : Two). at s x) (q.refused_none (suc k) f) ∙ at_put s (no_store_yet (at s lent-too)) lent-too)

      twin_there : Twin E (at s t') (at s u')
      twin_there =
          twin_left lent_there
          (subst (λ (x : Answered × Two). LeftBy E size count (at s lent) (at s x.1)) (sym p.exact) (one_left lent))
          (subst (λ (x : Answered × Two). LeftBy E size count (at s lent-too) (at s x.1)) (sym q.exact) (one_left lent-too))
          p.bytes_kept q.bytes_kept (set_up_bare E p) (set_up_bare E q) (one_ledger (number_for lent) a_is b_is)

      twin_beside : Twin E (at (other s) t') (at (other s) u')
      twin_beside =
          subst (λ (x : Kept). Twin E x (at (other s) u')) (sym (p.other_kept ∙ beside))
          (subst (λ (x : Kept). Twin E (at (other s) t) x) (sym (q.other_kept ∙ beside')) (twins_at h (other s)))

  twins_of : {t u : Two} (s : Store) → Twin E (at s t) (at s u) → Twin E (at (other s) t) (at (other s) u) → Twins E t u
  twins_of OnChip h g = record { on_chip_twins = h; external_twins = g }
  twins_of External h g = record { on_chip_twins = g; external_twins = h }

  pub setup_twins : {s : Store} {size count : ℕ} {t u lent lent-too t' u' : Two} {a b : Answered} → Twins E t u
      → SameLent (at s t) (at s lent) → SameLent (at s u) (at s lent-too)
      → at (other s) lent ≡ at (other s) t → at (other s) lent-too ≡ at (other s) u
      → PacketSetup E s size count lent t' a → PacketSetup E s size count lent-too u' b → (a ≡ b) × Twins E t' u'
  setup_twins {s} {size} {count} h l l' beside beside' p q = (
    a_is s size count h l l' beside beside' p q ∙ sym (b_is s size count h l l' beside beside' p q),
    twins_of s (twin_there s size count h l l' beside beside' p q) (twin_beside s size count h l l' beside beside' p q),
  )

  -- ---- setup of both
  module _ (size count other-size other-count : ℕ) where
    both_number : Two → ℕ
    both_number t =
        cond (either_shorter size other-size t) 9 (first_of (gate_in E size count t.on_chip) (gate_in E other-size other-count t.external))

    abbrev made : Two → Answered × Two
    made t = (plain done, two (set_up_in E size count t.on_chip).1 (set_up_in E other-size other-count t.external).1)

    both_said : (t : Two) → (set_up_both_words E size count other-size other-count t).0 ≡ plain (said (both_number t))
    unfolding set_up_both_words both_number
    both_said t =
        go (either_shorter size other-size t) (gate_in E size count t.on_chip) (gate_in E other-size other-count t.external)
      where
        go : (b : Bool) (g n : ℕ)
            → (nine b (neither t) (refused_by g (neither t) (refused_by n (neither t) (made t)))).0 ≡ plain (said (cond b 9 (first_of g n)))
        go true g n = unfold said in refl
        go false zero zero = unfold said first_of in refl
        go false zero (suc n) = unfold said first_of in refl
        go false (suc g) n = unfold said first_of in refl

    both_left : (t : Two) → LeftBy E size count t.on_chip (set_up_both_words E size count other-size other-count t).1.on_chip
        × LeftBy E other-size other-count t.external (set_up_both_words E size count other-size other-count t).1.external
    unfolding set_up_both_words
    both_left t =
        go (either_shorter size other-size t) (gate_in E size count t.on_chip) (gate_in E other-size other-count t.external)
      where
        outcome : Bool → ℕ → ℕ → Two
        outcome b g n = (nine b (neither t) (refused_by g (neither t) (refused_by n (neither t) (made t)))).1

        go : (b : Bool) (g n : ℕ) → LeftBy E size count t.on_chip (outcome b g n).on_chip
            × LeftBy E other-size other-count t.external (outcome b g n).external
        go true g n = (none_left refl, none_left refl)
        go false zero zero = (made_left refl, made_left refl)
        go false zero (suc n) = (none_left refl, none_left refl)
        go false (suc g) n = (none_left refl, none_left refl)

    module _ {t u lent lent-too t' u' : Two} {a b : Answered} (h : Twins E t u)
        (l : SameLent t.on_chip lent.on_chip) (m : SameLent t.external lent.external)
        (l' : SameLent u.on_chip lent-too.on_chip) (m' : SameLent u.external lent-too.external)
        (p : PacketSetupBoth E size count other-size other-count lent t' a) (q : PacketSetupBoth E size count other-size other-count lent-too u' b) where
      lent_here : Lent t.on_chip u.on_chip lent.on_chip lent-too.on_chip
      lent_here = record { of_one = l; of_other = l'; twin = h.on_chip_twins }

      lent_outside : Lent t.external u.external lent.external lent-too.external
      lent_outside = record { of_one = m; of_other = m'; twin = h.external_twins }

      both_one_number : both_number lent ≡ both_number lent-too
      unfolding both_number
      both_one_number =
          λ i. cond (shorter_same lent_here size i || shorter_same lent_outside other-size i) 9
          (first_of (gates_same lent_here size count i) (gates_same lent_outside other-size other-count i))

      both_a_is : a ≡ plain (said (both_number lent))
      both_a_is = ap (λ (x : Answered × Two). x.0) p.exact ∙ both_said lent

      both_b_is : b ≡ plain (said (both_number lent))
      both_b_is = ap (λ (x : Answered × Two). x.0) q.exact ∙ both_said lent-too ∙ ap (λ (n : ℕ). plain (said n)) (sym both_one_number)

      both_ledgers : (n : ℕ) → a ≡ plain (said n) → b ≡ plain (said n)
          → OneLedger E t'.on_chip.words u'.on_chip.words × OneLedger E t'.external.words u'.external.words
      unfolding said
      both_ledgers zero e f = (
        store.stand (setup by_class size count) (p.begins e).0.0 (q.begins f).0.0,
        store.stand (setup by_class other-size other-count) (p.begins e).1.0 (q.begins f).1.0,
      )
      both_ledgers (suc k) e f = (
        no_ledger lent.on_chip lent-too.on_chip t'.on_chip u'.on_chip
            (ap (λ (x : Two). x.on_chip) (p.refused_none (suc k) e)) (ap (λ (x : Two). x.on_chip) (q.refused_none (suc k) f)),
        no_ledger lent.external lent-too.external t'.external u'.external
            (ap (λ (x : Two). x.external) (p.refused_none (suc k) e)) (ap (λ (x : Two). x.external) (q.refused_none (suc k) f)),
      )

      both_twins : Twins E t' u'
      both_twins =
          let ledgers = both_ledgers (both_number lent) both_a_is both_b_is in
          let bare = set_up_both_bare E p in
          let bare-too = set_up_both_bare E q in
          let left : LeftBy E size count lent.on_chip t'.on_chip × LeftBy E other-size other-count lent.external t'.external =
          subst (λ (x : Answered × Two). LeftBy E size count lent.on_chip x.1.on_chip
          × LeftBy E other-size other-count lent.external x.1.external) (sym p.exact) (both_left lent) in
          let left-too : LeftBy E size count lent-too.on_chip u'.on_chip × LeftBy E other-size other-count lent-too.external u'.external =
          subst (λ (x : Answered × Two). LeftBy E size count lent-too.on_chip x.1.on_chip
          × LeftBy E other-size other-count lent-too.external x.1.external) (sym q.exact) (both_left lent-too) in
          record {
            on_chip_twins =
                twin_left lent_here left.0 left-too.0 (p.bytes_kept OnChip) (q.bytes_kept OnChip) (bare.each OnChip) (bare-too.each OnChip)
                ledgers.0;
            external_twins =
                twin_left lent_outside left.1 left-too.1 (p.bytes_kept External) (q.bytes_kept External) (bare.each External)
                (bare-too.each External) ledgers.1;
          }

  pub setup_both_twins : {size count other-size other-count : ℕ} {t u lent lent-too t' u' : Two} {a b : Answered} → Twins E t u
      → SameLent t.on_chip lent.on_chip → SameLent t.external lent.external
      → SameLent u.on_chip lent-too.on_chip → SameLent u.external lent-too.external
      → PacketSetupBoth E size count other-size other-count lent t' a → PacketSetupBoth E size count other-size other-count lent-too u' b
      → (a ≡ b) × Twins E t' u'
  setup_both_twins {size} {count} {other-size} {other-count} h l m l' m' p q = (
    both_a_is size count other-size other-count h l m l' m' p q ∙ sym (both_b_is size count other-size other-count h l m l' m' p q),
    both_twins size count other-size other-count h l m l' m' p q,
  )
