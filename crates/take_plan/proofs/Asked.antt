-- What a take comes to before it looks at a region is what the model's plan comes to: spares asked for first, then fit. Assumes nothing.
use mathlib.Core.Path.{◌≡◌, refl, sym, ap, subst, ◌∙◌}
use mathlib.Core.Bool.{Bool, true, false, cond}
use mathlib.Core.List.{List}
use mathlib.Core.Option.{Option, none, some}
use Prim.Native.Nat.{ℕ, ◌≤◌, ◌<◌}
use native.Mathlib.Omega.{arith}
use lib.Dec.{eqb}
use lib.ListN.{get_or}
use borrow.Author.Tests.{lt-ltb, eq-eqb, ne_eqb}
use Rattle.std.specs.Prelude.{Result, Ok, Err}
use Rattle.small_float.specs.Class.{rounded_up}
use Rattle.small_float.specs.declared.Class.{Class}
use Rattle.tables.specs.Words.{Words}
use Rattle.tables.specs.Search.{Found, class_is, no_class, bad_bits, find_class, find_for}
use Rattle.tables.specs.Take.{stop, plan_record, plan_class, plan_take}
use Rattle.answers.specs.declared.Refusal.{Refusal}
use Rattle.answers.specs.declared.Refusal.TheVariants.{NoSpareRecord, NoRegion, Unsound}
use Rattle.answers.specs.Refusals.{number_of}
use Rattle.bitmap.specs.declared.search.NotFound.{NotFound}
use Rattle.bitmap.specs.declared.search.NotFound.TheVariants.{NoClass, BadBits}
use Rattle.bitmap.specs.InBits.{Tells}
use Rattle.take_plan.specs.Plan.{Seeks, SeeksMean}

spare : (n : ℕ) → 1 ≤ n → eqb n 0 ≡ false
spare n h = ne_eqb n 0 (λ e. absurd (omega (arith, e, h)))

-- what was found, from what the code was told
none_told : (f : Found) → Tells f (Err NoClass) → f ≡ no_class
none_told no_class t = refl
none_told (class_is c) t = elim t [ ]
none_told bad_bits t = elim t [ ]

bits_told : (f : Found) → Tells f (Err BadBits) → f ≡ bad_bits
bits_told bad_bits t = refl
bits_told (class_is c) t = elim t [ ]
bits_told no_class t = elim t [ ]

class_told : (f : Found) (c : Class) → Tells f (Ok c) → (f ≡ class_is c.0) × (c.0 < 256)
class_told (class_is k) c t = (ap class_is (sym t.0), t.1)
class_told no_class c t = elim t [ ]
class_told bad_bits c t = elim t [ ]

-- where it goes on, the class is one of the head's
pub class_low : (f : Found) (spares : ℕ) (found : Result Class NotFound) (sought : Result Class Refusal) {c : Class} → Tells f found → Seeks spares found sought
    → sought ≡ Ok c → c.0 < 256
class_low f spares found sought {c} told seeks e =
    let h = subst (λ (x : Result Class Refusal). Seeks spares found x) e seeks in
    (class_told f c (subst (λ (x : Result Class NotFound). Tells f x) h.1 told)).1

-- a search told as `found`, and what comes of it
module _ (w : Words) (s : ℕ) (found : Result Class NotFound) (sought : Result Class Refusal)
    (told : Tells (find_for w.used_bins w.used_bins_top (rounded_up s)) found) (seeks : Seeks w.free_offset found sought) where
  told_as_lem : {other : Result Class NotFound} → found ≡ other → Tells (find_for w.used_bins w.used_bins_top (rounded_up s)) other
  told_as_lem e = subst (λ (x : Result Class NotFound). Tells (find_for w.used_bins w.used_bins_top (rounded_up s)) x) e told

  by_number : (why : Refusal) → Seeks w.free_offset found (Err why) → stop (number_of why) ≡ plan_take w s
  unfolding plan_take plan_class
  by_number NoSpareRecord h = rw (eq-eqb _ _ h)
  by_number NoRegion h = rw (spare _ h.0, none_told (find_for w.used_bins w.used_bins_top (rounded_up s)) (told_as_lem h.1))
  by_number Unsound h = rw (spare _ h.0, bits_told (find_for w.used_bins w.used_bins_top (rounded_up s)) (told_as_lem h.1))
  by_number Rattle.answers.specs.declared.Refusal.TheVariants.BadCount h = elim h [ ]
  by_number Rattle.answers.specs.declared.Refusal.TheVariants.TableTooShort h = elim h [ ]
  by_number Rattle.answers.specs.declared.Refusal.TheVariants.NotLive h = elim h [ ]
  by_number Rattle.answers.specs.declared.Refusal.TheVariants.StartsElsewhere h = elim h [ ]

  pub stopped_plan : {why : Refusal} → sought ≡ Err why → stop (number_of why) ≡ plan_take w s
  stopped_plan {why} e = by_number why (subst (λ (x : Result Class Refusal). Seeks w.free_offset found x) e seeks)

  pub record_plan : {c : Class} → sought ≡ Ok c → plan_record w s c.0 (get_or w.bin_indices c.0 0) ≡ plan_take w s
  unfolding plan_take plan_class
  record_plan {c} e =
      let h = subst (λ (x : Result Class Refusal). Seeks w.free_offset found x) e seeks in
      let its = class_told (find_for w.used_bins w.used_bins_top (rounded_up s)) c (told_as_lem h.1) in
      rw (spare _ h.0, its.0, lt-ltb _ _ its.1)

-- ---- from what the size is rounded up to
-- a class: what is told of the search from it is told of the take's
pub found_from : (leaves : List ℕ) (top c : ℕ) (wanted : Option ℕ) (found : Result Class NotFound) → wanted ≡ some c → Tells (find_class leaves top c) found
    → Tells (find_for leaves top wanted) found
unfolding find_for
found_from leaves top c wanted found e told = subst (λ (x : Option ℕ). Tells (find_for leaves top x) found) (sym e) told

-- none: by the spares alone
by_spares : (few : Bool) → stop (cond few 3 4) ≡ cond few (stop 3) (stop 4)
by_spares true = refl
by_spares false = refl

pub plan_without : (w : Words) (s : ℕ) → rounded_up s ≡ none → stop (cond (eqb w.free_offset 0) 3 4) ≡ plan_take w s
unfolding plan_take plan_class find_for
plan_without w s e = rw e (by_spares (eqb w.free_offset 0))

-- ---- one outcome
tag : Result Class NotFound → ℕ
tag (Ok c) = 0
tag (Err NoClass) = 1
tag (Err BadBits) = 2

class_in_lem : Class → Result Class NotFound → Class
class_in_lem e (Ok c) = c
class_in_lem e (Err why) = e

one_outcome : (spares : ℕ) (found : Result Class NotFound) (s t : Result Class Refusal) → Seeks spares found s → Seeks spares found t → s ≡ t
unfolding tag class_in_lem
one_outcome n f (Ok c) (Ok d) p q = ap Ok (ap (class_in_lem c) (sym p.1 ∙ q.1))
one_outcome n f (Ok c) (Err NoSpareRecord) p q = absurd (omega (arith, p.0, q))
one_outcome n f (Ok c) (Err NoRegion) p q = absurd (omega (arith, ap tag (sym p.1 ∙ q.1)))
one_outcome n f (Ok c) (Err Unsound) p q = absurd (omega (arith, ap tag (sym p.1 ∙ q.1)))
one_outcome n f (Err NoSpareRecord) (Ok c) p q = absurd (omega (arith, p, q.0))
one_outcome n f (Err NoSpareRecord) (Err NoSpareRecord) p q = refl
one_outcome n f (Err NoSpareRecord) (Err NoRegion) p q = absurd (omega (arith, p, q.0))
one_outcome n f (Err NoSpareRecord) (Err Unsound) p q = absurd (omega (arith, p, q.0))
one_outcome n f (Err NoRegion) (Ok c) p q = absurd (omega (arith, ap tag (sym p.1 ∙ q.1)))
one_outcome n f (Err NoRegion) (Err NoSpareRecord) p q = absurd (omega (arith, p.0, q))
one_outcome n f (Err NoRegion) (Err NoRegion) p q = refl
one_outcome n f (Err NoRegion) (Err Unsound) p q = absurd (omega (arith, ap tag (sym p.1 ∙ q.1)))
one_outcome n f (Err Unsound) (Ok c) p q = absurd (omega (arith, ap tag (sym p.1 ∙ q.1)))
one_outcome n f (Err Unsound) (Err NoSpareRecord) p q = absurd (omega (arith, p.0, q))
one_outcome n f (Err Unsound) (Err NoRegion) p q = absurd (omega (arith, ap tag (sym p.1 ∙ q.1)))
one_outcome n f (Err Unsound) (Err Unsound) p q = refl
one_outcome n f (Err Rattle.answers.specs.declared.Refusal.TheVariants.BadCount) t p q = elim p [ ]
one_outcome n f (Err Rattle.answers.specs.declared.Refusal.TheVariants.TableTooShort) t p q = elim p [ ]
one_outcome n f (Err NoSpareRecord) (Err Rattle.answers.specs.declared.Refusal.TheVariants.BadCount) p q = elim q [ ]
one_outcome n f (Err NoSpareRecord) (Err Rattle.answers.specs.declared.Refusal.TheVariants.TableTooShort) p q = elim q [ ]
one_outcome n f (Err NoSpareRecord) (Err Rattle.answers.specs.declared.Refusal.TheVariants.NotLive) p q = elim q [ ]
one_outcome n f (Err NoSpareRecord) (Err Rattle.answers.specs.declared.Refusal.TheVariants.StartsElsewhere) p q = elim q [ ]
one_outcome n f (Err NoRegion) (Err Rattle.answers.specs.declared.Refusal.TheVariants.BadCount) p q = elim q [ ]
one_outcome n f (Err NoRegion) (Err Rattle.answers.specs.declared.Refusal.TheVariants.TableTooShort) p q = elim q [ ]
one_outcome n f (Err NoRegion) (Err Rattle.answers.specs.declared.Refusal.TheVariants.NotLive) p q = elim q [ ]
one_outcome n f (Err NoRegion) (Err Rattle.answers.specs.declared.Refusal.TheVariants.StartsElsewhere) p q = elim q [ ]
one_outcome n f (Err Rattle.answers.specs.declared.Refusal.TheVariants.NotLive) t p q = elim p [ ]
one_outcome n f (Err Unsound) (Err Rattle.answers.specs.declared.Refusal.TheVariants.BadCount) p q = elim q [ ]
one_outcome n f (Err Unsound) (Err Rattle.answers.specs.declared.Refusal.TheVariants.TableTooShort) p q = elim q [ ]
one_outcome n f (Err Unsound) (Err Rattle.answers.specs.declared.Refusal.TheVariants.NotLive) p q = elim q [ ]
one_outcome n f (Err Unsound) (Err Rattle.answers.specs.declared.Refusal.TheVariants.StartsElsewhere) p q = elim q [ ]
one_outcome n f (Err Rattle.answers.specs.declared.Refusal.TheVariants.StartsElsewhere) t p q = elim p [ ]
one_outcome n f (Ok c) (Err Rattle.answers.specs.declared.Refusal.TheVariants.BadCount) p q = elim q [ ]
one_outcome n f (Ok c) (Err Rattle.answers.specs.declared.Refusal.TheVariants.TableTooShort) p q = elim q [ ]
one_outcome n f (Ok c) (Err Rattle.answers.specs.declared.Refusal.TheVariants.NotLive) p q = elim q [ ]
one_outcome n f (Ok c) (Err Rattle.answers.specs.declared.Refusal.TheVariants.StartsElsewhere) p q = elim q [ ]

pub seeks_mean : SeeksMean
seeks_mean = record { one_outcome = one_outcome }
