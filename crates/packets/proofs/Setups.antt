-- A setup whose answer and words are the model's keeps all that it promises. Assumes nothing.
use mathlib.Core.Path.{◌≡◌, refl, sym, ap, subst, ◌∙◌}
use mathlib.Core.Bool.{Bool, true, false, ◌||◌}
use Prim.Native.Nat.{ℕ, zero, suc, ◌^◌, ◌≤◌, ◌<◌}
use native.Mathlib.Omega.{arith}
use lib.ListN.{length}
use Rattle.basics.proofs.Clash.{clash}
use Rattle.ledger.specs.Ledger.{Answer, done, refused, setup, by_class}
use Rattle.tables.specs.Words.{Words, Edition}
use Rattle.tables.specs.Gate.{gated}
use Rattle.tables.specs.Setup.{zeros, setup_words, fresh}
use Rattle.tables.specs.Sound.{Sound}
use Rattle.tables.specs.Promise.{SetupPromise}
use Rattle.tables.proofs.Promise.{setup_promise}
use Rattle.packets.specs.declared.Store.{Store}
use Rattle.packets.specs.declared.Store.TheVariants.{OnChip, External}
use Rattle.packets.specs.Stores.{Kept, Two, two, at, put, other, placed, with_words}
use Rattle.packets.specs.OneStore.{lent_in, no_store_yet, set_up_in}
use Rattle.packets.specs.Calls.{Answered, plain, shorter, either_shorter, nine, on, gate_in, neither, refused_by, set_up_words, set_up_both_words}
use Rattle.packets.specs.Promise.{PacketSetup, PacketSetupBoth}
use Rattle.packets.proofs.Steps.{both_long}

-- ---- what is put, and where
pub at_put : (s : Store) (k : Kept) (t : Two) → at s (put s k t) ≡ k
at_put OnChip k t = refl
at_put External k t = refl

pub beside_put : (s : Store) (k : Kept) (t : Two) → at (other s) (put s k t) ≡ at (other s) t
beside_put OnChip k t = refl
beside_put External k t = refl

module _ (E : Edition) (s : Store) (size count : ℕ) (t : Two) (small : size < 2 ^ 32) where
  abbrev Is : Answered × Two → Type 0
  Is x = (x ≡ set_up_words E s size count t) → PacketSetup E s size count t x.1 x.0

  short_in : Bool
  short_in = shorter size (at s t) || shorter (at (other s) t).words.size (at (other s) t)

  -- the setup below
  below_is : SetupPromise E size count (lent_in (at s t).words) (set_up_in E size count (at s t)).1.words (set_up_in E size count (at s t)).0
  unfolding set_up_in
  below_is = setup_promise E size count (lent_in (at s t).words) small refl

  short_promised : short_in ≡ true → Is (plain (refused 9), put s (no_store_yet (at s t)) t)
  unfolding short_in
  short_promised short e = record {
    exact = e;
    size_fits = small;
    made = λ long. clash (cc);
    begins = λ f. clash (cc);
    refused_none = λ k f. refl;
    other_kept = beside_put s (no_store_yet (at s t)) t;
    bytes_kept = ap (λ (k : Kept). k.bytes) (at_put s (no_store_yet (at s t)) t);
  }

  long_promised : short_in ≡ false → Is (on s t (set_up_in E size count (at s t)))
  unfolding short_in set_up_in
  long_promised long e = record {
    exact = e;
    size_fits = small;
    made = λ again. (_, refl, subst (λ (k : Kept). SetupPromise E size count (lent_in (at s t).words) k.words answer) (sym there) below_is);
    begins = λ f.
        let accepted : answer ≡ done = cc in (
          subst (λ (k : Kept). Sound E k.words (setup by_class size count)) (sym there) (below_is.ledger accepted),
          subst (λ (k : Kept). size ≤ length k.bytes) (sym there)
              (both_long (length (at s t).bytes) size (length (at (other s) t).bytes) (at (other s) t).words.size long).0,
        );
    refused_none = λ k f.
        let shut : answer ≡ refused k = cc in
        ap (λ (w : Words). put s (with_words (at s t) w) t) (below_is.kept k shut);
    other_kept = beside_put s left t;
    bytes_kept = ap (λ (k : Kept). k.bytes) there;
  }
    where
      answer : Answer
      answer = (setup_words E size count (lent_in (at s t).words)).0

      left : Kept
      left = with_words (at s t) (setup_words E size count (lent_in (at s t).words)).1

      there : at s (put s left t) ≡ left
      there = at_put s left t

  every_setup : PacketSetup E s size count t (set_up_words E s size count t).1 (set_up_words E s size count t).0
  unfolding set_up_words short_in
  every_setup = go short_in refl
    where
      go : (short : Bool) → short_in ≡ short
          → PacketSetup E s size count t
          (nine short (put s (no_store_yet (at s t)) t) (on s t (set_up_in E size count (at s t)))).1
          (nine short (put s (no_store_yet (at s t)) t) (on s t (set_up_in E size count (at s t)))).0
      go true e = short_promised e (sym (ap (λ (b : Bool). nine b (put s (no_store_yet (at s t)) t) (on s t (set_up_in E size count (at s t)))) e))
      go false e = long_promised e (sym (ap (λ (b : Bool). nine b (put s (no_store_yet (at s t)) t) (on s t (set_up_in E size count (at s t)))) e))

pub setup_promised : (E : Edition) (s : Store) (size count : ℕ) (t u : Two) (a : Answered) → size < 2 ^ 32 → (a, u) ≡ set_up_words E s size count t
    → PacketSetup E s size count t u a
setup_promised E s size count t u a small e =
    subst (λ (x : Answered × Two). PacketSetup E s size count t x.1 x.0) (sym e) (every_setup E s size count t small)

-- ---- both
-- a setup whose gate is open is accepted
open_gate : (E : Edition) (size count : ℕ) (k : Kept) → gate_in E size count k ≡ 0 → (set_up_in E size count k).0 ≡ done
unfolding set_up_in setup_words gated
open_gate E size count k e =
    ap (λ (n : ℕ). (gated n (zeros (lent_in k.words)) (done, fresh E size count k.words.nodes k.words.pile)).0) e

module _ (E : Edition) (size count other-size other-count : ℕ) (t : Two) (small : size < 2 ^ 32) (small-too : other-size < 2 ^ 32) where
  abbrev both : Answered × Two
  both = (plain done, two (set_up_in E size count t.on_chip).1 (set_up_in E other-size other-count t.external).1)

  -- refused, whatever for
  refuses_both : (k : ℕ) → (plain (refused k), neither t) ≡ set_up_both_words E size count other-size other-count t
      → PacketSetupBoth E size count other-size other-count t (neither t) (plain (refused k))
  refuses_both k e = record {
    exact = e;
    size_fits = small;
    other_size_fits = small-too;
    made = λ f. clash (cc);
    begins = λ f. clash (cc);
    refused_none = λ n f. refl;
    bytes_kept = elim [ OnChip ↦ refl | External ↦ refl ];
  }

  accepts_both : either_shorter size other-size t ≡ false → gate_in E size count t.on_chip ≡ 0 → gate_in E other-size other-count t.external ≡ 0
      → both ≡ set_up_both_words E size count other-size other-count t → PacketSetupBoth E size count other-size other-count t both.1 both.0
  unfolding set_up_in
  accepts_both long g h e = record {
    exact = e;
    size_fits = small;
    other_size_fits = small-too;
    made = λ f. (here, there);
    begins = λ f. ((here.ledger refl, enough.0), (there.ledger refl, enough.1));
    refused_none = λ n f. clash (cc);
    bytes_kept = elim [ OnChip ↦ refl | External ↦ refl ];
  }
    where
      enough : (size ≤ length t.on_chip.bytes) × (other-size ≤ length t.external.bytes)
      enough = both_long (length t.on_chip.bytes) size (length t.external.bytes) other-size long

      here : SetupPromise E size count (lent_in t.on_chip.words) (set_up_in E size count t.on_chip).1.words done
      here =
          subst (SetupPromise E size count (lent_in t.on_chip.words) (setup_words E size count (lent_in t.on_chip.words)).1)
          (open_gate E size count t.on_chip g) (setup_promise E size count (lent_in t.on_chip.words) small refl)

      there : SetupPromise E other-size other-count (lent_in t.external.words) (set_up_in E other-size other-count t.external).1.words done
      there =
          subst (SetupPromise E other-size other-count (lent_in t.external.words) (setup_words E other-size other-count (lent_in t.external.words)).1)
          (open_gate E other-size other-count t.external h) (setup_promise E other-size other-count (lent_in t.external.words) small-too refl)

  every_both : PacketSetupBoth E size count other-size other-count t
      (set_up_both_words E size count other-size other-count t).1 (set_up_both_words E size count other-size other-count t).0
  unfolding set_up_both_words
  every_both = by_length (either_shorter size other-size t) refl
    where
      k : ℕ
      k = gate_in E size count t.on_chip

      n : ℕ
      n = gate_in E other-size other-count t.external

      by_second : (m : ℕ) → n ≡ m → either_shorter size other-size t ≡ false → k ≡ 0
          → PacketSetupBoth E size count other-size other-count t (refused_by m (neither t) both).1 (refused_by m (neither t) both).0
      by_second zero g long f = accepts_both long f g (sym (λ i. nine (long i) (neither t) (refused_by (f i) (neither t) (refused_by (g i) (neither t) both))))
      by_second (suc m) g long f =
          refuses_both (suc m) (sym (λ i. nine (long i) (neither t) (refused_by (f i) (neither t) (refused_by (g i) (neither t) both))))

      by_first : (m : ℕ) → k ≡ m → either_shorter size other-size t ≡ false
          → PacketSetupBoth E size count other-size other-count t
          (refused_by m (neither t) (refused_by n (neither t) both)).1 (refused_by m (neither t) (refused_by n (neither t) both)).0
      by_first zero f long = by_second n refl long f
      by_first (suc m) f long = refuses_both (suc m) (sym (λ i. nine (long i) (neither t) (refused_by (f i) (neither t) (refused_by n (neither t) both))))

      by_length : (short : Bool) → either_shorter size other-size t ≡ short
          → PacketSetupBoth E size count other-size other-count t
          (nine short (neither t) (refused_by k (neither t) (refused_by n (neither t) both))).1
          (nine short (neither t) (refused_by k (neither t) (refused_by n (neither t) both))).0
      by_length true e = refuses_both 9 (sym (λ i. nine (e i) (neither t) (refused_by k (neither t) (refused_by n (neither t) both))))
      by_length false e = by_first k refl e

pub both_promised : (E : Edition) (size count other-size other-count : ℕ) (t u : Two) (a : Answered) → size < 2 ^ 32 → other-size < 2 ^ 32
    → (a, u) ≡ set_up_both_words E size count other-size other-count t → PacketSetupBoth E size count other-size other-count t u a
both_promised E size count other-size other-count t u a small small-too e =
    subst (λ (x : Answered × Two). PacketSetupBoth E size count other-size other-count t x.1 x.0) (sym e)
    (every_both E size count other-size other-count t small small-too)

-- ---- what the walks go by
-- 9: the store that was to be set up is not there
pub setup_9 : (E : Edition) (s : Store) (size count : ℕ) (meant beside : Kept) → size < 2 ^ 32
    → (shorter size meant || shorter beside.words.size beside) ≡ true
    → PacketSetup E s size count (placed s meant beside) (placed s (no_store_yet meant) beside) (plain (refused 9))
unfolding set_up_words
setup_9 E OnChip size count meant beside small e =
    setup_promised E OnChip size count (two meant beside) (two (no_store_yet meant) beside) (plain (refused 9)) small
    (sym (ap (λ (b : Bool). nine b (two (no_store_yet meant) beside) (on OnChip (two meant beside) (set_up_in E size count meant))) e))
setup_9 E External size count meant beside small e =
    setup_promised E External size count (two beside meant) (two beside (no_store_yet meant)) (plain (refused 9)) small
    (sym (ap (λ (b : Bool). nine b (two beside (no_store_yet meant)) (on External (two beside meant) (set_up_in E size count meant))) e))

-- the setup below
set_up_words_lem : (E : Edition) (size count : ℕ) (k : Kept) (v : Words) (a : Answer) (b : Answered) → SetupPromise E size count (lent_in k.words) v a
    → b ≡ plain a → ◌≡◌ {A = Answered × Kept} (b, with_words k v) (plain (set_up_in E size count k).0, (set_up_in E size count k).1)
unfolding set_up_in
set_up_words_lem E size count k v a b p e =
    let so_far : ◌≡◌ {A = Answered × Kept} (b, with_words k v) (plain a, with_words k v) = ap (λ (x : Answered). (x, with_words k v)) e in
    so_far ∙ ap (λ (x : Answer × Words). (plain x.0, with_words k x.1)) p.exact

pub setup_below : (E : Edition) (s : Store) (size count : ℕ) (meant beside : Kept) (v : Words) (a : Answer) (b : Answered)
    → (shorter size meant || shorter beside.words.size beside) ≡ false → SetupPromise E size count (lent_in meant.words) v a → b ≡ plain a
    → PacketSetup E s size count (placed s meant beside) (placed s (with_words meant v) beside) b
unfolding set_up_words
setup_below E OnChip size count meant beside v a b long p e =
    setup_promised E OnChip size count (two meant beside) (two (with_words meant v) beside) b p.size_fits
    (ap (λ (x : Answered × Kept). (x.0, two x.1 beside)) (set_up_words_lem E size count meant v a b p e)
    ∙ sym (ap (λ (c : Bool). nine c (two (no_store_yet meant) beside) (on OnChip (two meant beside) (set_up_in E size count meant))) long))
setup_below E External size count meant beside v a b long p e =
    setup_promised E External size count (two beside meant) (two beside (with_words meant v)) b p.size_fits
    (ap (λ (x : Answered × Kept). (x.0, two beside x.1)) (set_up_words_lem E size count meant v a b p e)
    ∙ sym (ap (λ (c : Bool). nine c (two beside (no_store_yet meant)) (on External (two beside meant) (set_up_in E size count meant))) long))

-- a number but 0 refuses
shut_by : (k : ℕ) (left : Two) (outcome : Answered × Two) → 1 ≤ k → refused_by k left outcome ≡ (plain (refused k), left)
shut_by zero left outcome f = absurd (omega (arith, f))
shut_by (suc k) left outcome f = refl

module _ (E : Edition) (size count other-size other-count : ℕ) (t : Two) (small : size < 2 ^ 32) (small-too : other-size < 2 ^ 32) where
  abbrev accepted : Answered × Two
  accepted = (plain done, two (set_up_in E size count t.on_chip).1 (set_up_in E other-size other-count t.external).1)

  -- the outcome, with each of its tests told
  told : (short : Bool) (k m : ℕ) → either_shorter size other-size t ≡ short → gate_in E size count t.on_chip ≡ k
      → gate_in E other-size other-count t.external ≡ m
      → set_up_both_words E size count other-size other-count t ≡ nine short (neither t) (refused_by k (neither t) (refused_by m (neither t) accepted))
  unfolding set_up_both_words
  told short k m e f g = λ i. nine (e i) (neither t) (refused_by (f i) (neither t) (refused_by (g i) (neither t) accepted))

  promised_both : (u : Two) (a : Answered) → set_up_both_words E size count other-size other-count t ≡ (a, u)
      → PacketSetupBoth E size count other-size other-count t u a
  promised_both u a e = both_promised E size count other-size other-count t u a small small-too (sym e)

  pub both_9 : either_shorter size other-size t ≡ true → PacketSetupBoth E size count other-size other-count t (neither t) (plain (refused 9))
  both_9 e = promised_both (neither t) (plain (refused 9)) (told true _ _ e refl refl)

  pub shut_here : (k : ℕ) → either_shorter size other-size t ≡ false → gate_in E size count t.on_chip ≡ k → 1 ≤ k
      → PacketSetupBoth E size count other-size other-count t (neither t) (plain (refused k))
  shut_here k e f g = promised_both (neither t) (plain (refused k)) (told false k _ e f refl ∙ shut_by k (neither t) _ g)

  pub shut_there : (k : ℕ) → either_shorter size other-size t ≡ false → gate_in E size count t.on_chip ≡ 0
      → gate_in E other-size other-count t.external ≡ k → 1 ≤ k
      → PacketSetupBoth E size count other-size other-count t (neither t) (plain (refused k))
  shut_there k e f g h = promised_both (neither t) (plain (refused k)) (told false 0 k e f g ∙ shut_by k (neither t) accepted h)

  pub both_open : (v w : Words) (a b : Answer) → either_shorter size other-size t ≡ false → gate_in E size count t.on_chip ≡ 0
      → gate_in E other-size other-count t.external ≡ 0
      → SetupPromise E size count (lent_in t.on_chip.words) v a → SetupPromise E other-size other-count (lent_in t.external.words) w b
      → PacketSetupBoth E size count other-size other-count t (two (with_words t.on_chip v) (with_words t.external w)) (plain done)
  unfolding set_up_in
  both_open v w a b e f g p q =
      let here : v ≡ (setup_words E size count (lent_in t.on_chip.words)).1 = ap (λ (x : Answer × Words). x.1) p.exact in
      let there : w ≡ (setup_words E other-size other-count (lent_in t.external.words)).1 = ap (λ (x : Answer × Words). x.1) q.exact in
      promised_both (two (with_words t.on_chip v) (with_words t.external w)) (plain done)
      (told false 0 0 e f g ∙ sym (λ i. (plain done, two (with_words t.on_chip (here i)) (with_words t.external (there i)))))
