-- What a take by classes does on a ledger in order, with the stack that serves it. Assumes nothing.
use mathlib.Core.Path.{◌≡◌, refl}
use Prim.Native.Nat.{ℕ, ◌-◌, ◌≤◌, ◌<◌}
use native.Mathlib.Omega.{arith}
use mathlib.Core.Option.{some}
use mathlib.Core.List.{List, [], ◌∷◌}
use lib.ListN.{length}
use Rattle.basics.specs.Sum.{is, tally}
use Rattle.basics.proofs.Clash.{clash}
use Rattle.small_float.specs.Class.{down, up, classes_in_use}
use Rattle.ledger.specs.Ledger.{Ledger, Stacks, by_class, Region, free, len, find, cut, take, granted, refused}
use Rattle.ledger.specs.WellFormed.{has, WellFormed}
use Rattle.ledger.proofs.Places.{Between, between_at, same_region}
use Rattle.ledger.proofs.Records.{once_in_line}
use Rattle.ledger.proofs.Searches.{Lowest, all_empty, lowest_is, lowest?}
use Rattle.ledger.proofs.ByClass.{class_laws, standing, held, from_number}
use Rattle.ledger.proofs.Cases as over
use Rattle.ledger.proofs.Cases.{placed}

-- ---- a record that a stack holds is that of a free region of its class, and find finds it
pub record FreeOf (c r : ℕ) (l : Ledger Stacks) : Type 0 where
  pub n : ℕ
  pub before : List Region
  pub after : List Region
  pub class_is : down n ≡ c
  pub place : Between before (free n r) after l.line
  pub first_there : tally (has r) before ≡ 0
  pub found_there : find r [] l.line ≡ some record { before = before; here = free n r; after = after }

pub free_of : {size count : ℕ} {l : Ledger Stacks} → WellFormed by_class size count l → (c r : ℕ) → 1 ≤ tally (is r) (l.index c) → FreeOf c r l
free_of {l = l} w c r h =
    let t = standing c r l.line (omega (arith, w.kept.exactly c r)) in
    let p = placed t.there (once_in_line w.lined r) in
    record {
      n = t.n;
      before = p.before;
      after = p.after;
      class_is = t.class_is;
      place = p.place;
      first_there = p.first_there;
      found_there = p.found_there;
    }

-- ---- take
pub record Serving (s : ℕ) (l : Ledger Stacks) : Type 0 where
  pub n : ℕ
  pub r : ℕ
  pub before : List Region
  pub after : List Region
  pub under : List ℕ
  pub place : Between before (free n r) after l.line
  pub first_there : tally (has r) before ≡ 0
  pub two_spare : 2 ≤ length l.pile
  pub long_enough : s ≤ n
  pub reaching : up s ≤ down n
  pub in_use : down n < classes_in_use
  pub on_top_lem : l.index (down n) ≡ r ∷ under
  pub none_lower : (c : ℕ) → up s ≤ c → c < down n → l.index c ≡ []
  pub outcome : take by_class s l ≡ (granted (tally len before) r, cut by_class s (n - s) before n r after l)

pub data TakeCase (s : ℕ) (l : Ledger Stacks) : Type 0 where
  few_spares : length l.pile ≤ 1 → take by_class s l ≡ (refused 3, l) → TakeCase s l
  no_region : 2 ≤ length l.pile → ((c : ℕ) → up s ≤ c → c < classes_in_use → l.index c ≡ []) → take by_class s l ≡ (refused 4, l) → TakeCase s l
  serves : Serving s l → TakeCase s l

pub take_case : {size count : ℕ} {l : Ledger Stacks} → WellFormed by_class size count l → (s : ℕ) → TakeCase s l
take_case {l = l} w s = go (over.take_case by_class class_laws w s) (lowest? l.index (classes_in_use - up s) (up s))
  where
    go : over.TakeCase by_class s l → Lowest l.index (classes_in_use - up s) (up s) → TakeCase s l
    go (over.few_spares h e) x = few_spares h e
    go (over.no_region h m e) (all_empty k empty) = no_region h (λ c a b. empty c a (omega arith)) e
    go (over.no_region h m e) (lowest_is d q under k a b top empty) = clash (cc (from_number s l.index))
    go (over.serves t) (all_empty k empty) = clash (cc (t.chosen, from_number s l.index))
    go (over.serves t) (lowest_is d q under k a b top empty) =
        let number : q ≡ t.r = cc (t.chosen, from_number s l.index) in
        let top_is : l.index d ≡ t.r ∷ under = rw number at top in
        let h = held l.line l.index w.kept d t.r under top_is in
        let both : free h.n t.r ≡ free t.n t.r
        = same_region h.there (between_at t.place) t.r refl refl (once_in_line w.lined t.r) in
        let lengths : h.n ≡ t.n = cc in
        let class_is : down t.n ≡ d = rw lengths at h.class_is in
        serves record {
          n = t.n;
          r = t.r;
          before = t.before;
          after = t.after;
          under = under;
          place = t.place;
          first_there = t.first_there;
          two_spare = t.two_spare;
          long_enough = t.long_enough;
          reaching = omega arith;
          in_use = omega arith;
          on_top_lem = rw class_is top_is;
          none_lower = λ c i j. empty c i (omega arith);
          outcome = t.outcome;
        }
