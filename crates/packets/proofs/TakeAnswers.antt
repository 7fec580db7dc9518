-- What the answer of a take over both stores says of the take on each. Assumes nothing.
use mathlib.Core.Path.{◌≡◌, refl, sym, ap, ◌∙◌}
use mathlib.Core.Logic.{inl, inr, ◌≢◌}
use mathlib.Core.Bool.{Bool, true, false, cond}
use mathlib.Core.List.{[], ◌∷◌}
use Prim.Native.Nat.{ℕ}
use Rattle.basics.proofs.Clash.{clash}
use Rattle.basics.proofs.Decided.{Same, same, differ, same?}
use Rattle.ledger.specs.Ledger.{Answer, granted, done, length_is, reported, classes, refused}
use Rattle.ledger.specs.Calls.{Request}
use Rattle.ledger.specs.Calls as ledger
use Rattle.tables.specs.Words.{Words, Edition}
use Rattle.tables.specs.Calls.{answer_words}
use Rattle.tables.specs.Claims.{OneOf}
use Rattle.tables.specs.Promise.{Promise}
use Rattle.tables.proofs.Promise.{promise}
use Rattle.packets.specs.declared.Store.TheVariants.{OnChip, External}
use Rattle.packets.specs.Stores.{Kept, Two, two}
use Rattle.packets.specs.OneStore.{take_in}
use Rattle.packets.specs.Calls.{Take, Answered, packet, plain, too_short, nine, goes_on, from_external, externally, after_first, take_from, packet_words}
use Rattle.packets.specs.Promise.{PacketPromise}

-- ---- what the take on the external store came to
outside_granted : {o r : ℕ} (b : Answer) → packet External o r ≡ from_external b → b ≡ granted o r
outside_granted (granted p q) e = cc
outside_granted done e = clash (cc)
outside_granted (length_is n) e = clash (cc)
outside_granted (reported n m) e = clash (cc)
outside_granted (classes rows) e = clash (cc)
outside_granted (refused k) e = clash (cc)

never_on_chip : {o r : ℕ} {A : Type 0} (b : Answer) → packet OnChip o r ≡ from_external b → A
never_on_chip (granted p q) e = clash (cc)
never_on_chip done e = clash (cc)
never_on_chip (length_is n) e = clash (cc)
never_on_chip (reported n m) e = clash (cc)
never_on_chip (classes rows) e = clash (cc)
never_on_chip (refused k) e = clash (cc)

outside_refused : {n : ℕ} (b : Answer) → plain (refused n) ≡ from_external b → b ≡ refused n
outside_refused (granted p q) e = clash (cc)
outside_refused done e = clash (cc)
outside_refused (length_is m) e = clash (cc)
outside_refused (reported m j) e = clash (cc)
outside_refused (classes rows) e = clash (cc)
outside_refused (refused k) e = cc

-- ---- a packet on the chip: the first take granted it
pub first_granted : {o r : ℕ} (a : Answer) (first beside : Kept) (second : Answer × Kept) → packet OnChip o r ≡ (after_first a first beside second).0
    → a ≡ granted o r
first_granted (granted p q) first beside second e = cc
first_granted done first beside second e = clash (cc)
first_granted (length_is n) first beside second e = clash (cc)
first_granted (reported n m) first beside second e = clash (cc)
first_granted (classes rows) first beside second e = clash (cc)
first_granted {o} {r} (refused k) first beside second e = go (goes_on k) e
  where
    go : (goes : Bool)
        → packet OnChip o r
        ≡ (cond {A = Answered × Two} goes ((externally second).0, two first (externally second).1) (plain (refused k), two first beside)).0
        → refused k ≡ granted o r
    go true f = never_on_chip second.0 f
    go false f = clash (cc)

-- ---- a packet outside it: the first take was refused with a number after which it goes on, and the second granted it
pub record WentOn (a : Answer) (first beside : Kept) (second : Answer × Kept) (o r : ℕ) : Type 0 where
  pub number : ℕ
  pub first_refused : a ≡ refused number
  pub goes : goes_on number ≡ true
  pub second_granted : second.0 ≡ granted o r
  pub on_chip_left : (after_first a first beside second).1.on_chip ≡ first

pub went_on : {o r : ℕ} (a : Answer) (first beside : Kept) (second : Answer × Kept) → packet External o r ≡ (after_first a first beside second).0
    → WentOn a first beside second o r
went_on (granted p q) first beside second e = clash (cc)
went_on done first beside second e = clash (cc)
went_on (length_is n) first beside second e = clash (cc)
went_on (reported n m) first beside second e = clash (cc)
went_on (classes rows) first beside second e = clash (cc)
went_on {o} {r} (refused k) first beside second e = go (goes_on k) refl e
  where
    outcome : Bool → Answered × Two
    outcome goes = cond goes ((externally second).0, two first (externally second).1) (plain (refused k), two first beside)

    go : (goes : Bool) → goes_on k ≡ goes → packet External o r ≡ (outcome goes).0 → WentOn (refused k) first beside second o r
    go true z f = record {
      number = k;
      first_refused = refl;
      goes = z;
      second_granted = outside_granted second.0 f;
      on_chip_left = ap (λ (b : Bool). (outcome b).1.on_chip) z;
    }
    go false z f = clash (cc)

-- ---- a refusal: the first take was refused, and so was the second if there was one
pub record BothRefused (a : Answer) (second : Answer × Kept) : Type 0 where
  pub number : ℕ
  pub first_refused : a ≡ refused number
  pub then_refused : goes_on number ≡ true → (n : ℕ) × (second.0 ≡ refused n)

pub both_refused : {n : ℕ} (a : Answer) (first beside : Kept) (second : Answer × Kept) → plain (refused n) ≡ (after_first a first beside second).0
    → BothRefused a second
both_refused (granted p q) first beside second e = clash (cc)
both_refused done first beside second e = clash (cc)
both_refused (length_is m) first beside second e = clash (cc)
both_refused (reported m j) first beside second e = clash (cc)
both_refused (classes rows) first beside second e = clash (cc)
both_refused {n} (refused k) first beside second e = go (goes_on k) refl e
  where
    go : (goes : Bool) → goes_on k ≡ goes
        → plain (refused n)
        ≡ (cond {A = Answered × Two} goes ((externally second).0, two first (externally second).1) (plain (refused k), two first beside)).0
        → BothRefused (refused k) second
    go true z f = record { number = k; first_refused = refl; then_refused = λ g. (n, outside_refused second.0 f) }
    go false z f = record { number = k; first_refused = refl; then_refused = λ g. clash (cc) }

-- ---- after which numbers it goes on
goes_after : (k : ℕ) → goes_on k ≡ true → OneOf (3 ∷ 4 ∷ []) k
goes_after k e = go (same? k 3) (same? k 4)
  where
    go : Same k 3 → Same k 4 → OneOf (3 ∷ 4 ∷ []) k
    go (same h z) q = inl h
    go (differ h z) (same g y) = inr (inl g)
    go (differ h z) (differ g y) = clash (cc)

module _ (E : Edition) where
  -- not refused as 9, so that no store was too short
  pub take_past : {asked : Request} {t u : Two} {a : Answered} → a ≢ plain (refused 9) → PacketPromise E (Take asked) t u a
      → (too_short t ≡ false) × (◌≡◌ {A = Answered × Two} (a, u) (take_from E asked t))
  unfolding packet_words
  take_past {asked} {t} {u} {a} h p = go (too_short t) refl p.exact
    where
      go : (b : Bool) → too_short t ≡ b → (a, u) ≡ nine b t (take_from E asked t) → (too_short t ≡ false) × (◌≡◌ {A = Answered × Two} (a, u) (take_from E asked t))
      go true z e = absurd (h (ap (λ (x : Answered × Two). x.0) e))
      go false z e = (z, e)

  pub first_try : {t u : Two} {asked : Request} {o r : ℕ} → PacketPromise E (Take asked) t u (packet External o r)
      → (k : ℕ) × OneOf (3 ∷ 4 ∷ []) k × Promise E (ledger.Take asked) t.on_chip.words u.on_chip.words (refused k)
  unfolding take_from take_in
  first_try {t} {u} {asked} {o} {r} p =
      let so = take_past (λ e. clash (cc)) p in
      let w : Words = t.on_chip.words in
      let first = take_in E asked t.on_chip in
      let there = went_on first.0 first.1 t.external (take_in E asked t.external) (ap (λ (x : Answered × Two). x.0) so.1) in
      let left : u.on_chip ≡ first.1 = ap (λ (x : Answered × Two). x.1.on_chip) so.1 ∙ there.on_chip_left in
      let outcome : ◌≡◌ {A = Answer × Words} (refused there.number, u.on_chip.words) (answer_words E (ledger.Take asked) w) =
      λ i. (sym there.first_refused i, (left i).words) in
      (there.number, goes_after there.number there.goes, promise E (ledger.Take asked) w outcome)
