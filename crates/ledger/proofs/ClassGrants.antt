-- A grant by classes: of the lowest non-empty class at or above up(s), the region put there last; its remainder goes on top of its class.
-- Assumes nothing.
use mathlib.Core.Path.{◌≡◌, refl, ap, sym, subst}
use Prim.Native.Nat.{ℕ, zero, suc, ◌-◌, ◌≤◌}
use native.Mathlib.Omega.{arith}
use mathlib.Core.Logic.{◌≢◌}
use mathlib.Core.List.{List, ◌∷◌}
use lib.ListN.{get_or}
use Rattle.basics.proofs.Clash.{clash}
use Rattle.basics.proofs.Decided.{same, differ, same?, eqb_same, below, beyond, below?}
use Rattle.small_float.specs.Class.{down, up, classes_in_use, rounded_up, Reaches}
use Rattle.small_float.proofs.Rounding.{reaches_number}
use Rattle.ledger.specs.Ledger.{Ledger, Stacks, by_class, Region, free, on_top, remove, without, cut, take, granted}
use Rattle.ledger.specs.WellFormed.{WellFormed}
use Rattle.ledger.specs.Claims.{Grant, Remainder, nothing_left, next_record, OnTop, ClassGrant}
use Rattle.ledger.proofs.Places.{between_at, same_region}
use Rattle.ledger.proofs.Records.{once_in_line}
use Rattle.ledger.proofs.Searches.{Lowest, all_empty, lowest_is, lowest?}
use Rattle.ledger.proofs.ByClass.{class_laws, held, from_number}
use Rattle.ledger.proofs.Cases.{Serving, TakeCase, few_spares, no_region, serves, take_case}
use Rattle.ledger.proofs.Grants.{the_grant}

-- ---- the stacks
top_leaves : (c r : ℕ) (stacks : Stacks) (under : List ℕ) → stacks c ≡ r ∷ under → without c r stacks c ≡ under
unfolding without remove
top_leaves c r stacks under e = rw (eqb_same c, e, eqb_same r)

others_stay : (c r : ℕ) (stacks : Stacks) (d : ℕ) → d ≢ c → without c r stacks d ≡ stacks d
unfolding without
others_stay c r stacks d h = elim (same? d c) [ same p e ↦ absurd (h p) | differ p e ↦ rw e ]

on_top_lem : (c r : ℕ) (stacks : Stacks) → on_top c r stacks c ≡ r ∷ stacks c
unfolding on_top
on_top_lem c r stacks = rw (eqb_same c)

no_other : (c r : ℕ) (stacks : Stacks) (d : ℕ) → d ≢ c → on_top c r stacks d ≡ stacks d
unfolding on_top
no_other c r stacks d h = elim (same? d c) [ same p e ↦ absurd (h p) | differ p e ↦ rw e ]

cut_on_top : (s k : ℕ) (before after : List Region) (n r : ℕ) (l : Ledger Stacks) (remainder : List Region) (left : List ℕ)
    → Remainder k l.pile remainder left
    → OnTop remainder (without (down n) r l.index) (cut by_class s k before n r after l).index
unfolding cut
cut_on_top s zero before after n r l remainder left (nothing_left e) = λ c. refl
cut_on_top s zero before after n r l remainder left (next_record q rest h e) = absurd (omega arith)
cut_on_top s (suc k) before after n r l remainder left (nothing_left e) = absurd (omega arith)
cut_on_top s (suc k) before after n r l remainder left (next_record q rest h e) =
    let next : get_or l.pile 0 0 ≡ q = rw e in
    rw next (on_top_lem (down (suc k)) q (without (down n) r l.index), no_other (down (suc k)) q (without (down n) r l.index))

topped : (s o r : ℕ) (l : Ledger Stacks) (g : Grant by_class s o r l) (t : Serving by_class s l) → t.n ≡ g.length_before → t.r ≡ r
    → OnTop g.remainder (without (down g.length_before) r l.index) (take by_class s l).1.index
topped s o r l g t lengths numbers =
    subst (OnTop g.remainder (without (down g.length_before) r l.index)) (sym (ap (λ a. a.1.index) t.outcome))
    (subst (λ q. OnTop g.remainder (without (down g.length_before) q l.index) after_cut) numbers
    (subst (λ n. OnTop g.remainder (without (down n) t.r l.index) after_cut) lengths
    (cut_on_top s (t.n - s) t.before t.after t.n t.r l g.remainder (take by_class s l).1.pile of_its_length)))
  where
    after_cut : Stacks
    after_cut = (cut by_class s (t.n - s) t.before t.n t.r t.after l).index

    of_its_length : Remainder (t.n - s) l.pile g.remainder (take by_class s l).1.pile
    of_its_length = subst (λ n. Remainder (n - s) l.pile g.remainder (take by_class s l).1.pile) (sym lengths) g.remainder_is

pub class_grant : (size count s o r : ℕ) (l : Ledger Stacks) → WellFormed by_class size count l → (take by_class s l).0 ≡ granted o r
    → ClassGrant s o r l
class_grant size count s o r l w e = go (lowest? l.index (classes_in_use - up s) (up s)) (take_case by_class class_laws w s)
  where
    g : Grant by_class s o r l
    g = the_grant by_class class_laws size count s o r l w e

    go : Lowest l.index (classes_in_use - up s) (up s) → TakeCase by_class s l → ClassGrant s o r l
    go (all_empty m empty) c = clash (cc (g.chosen, from_number s l.index))
    go (lowest_is d q under m h k top empty) (few_spares j f) = clash (cc)
    go (lowest_is d q under m h k top empty) (no_region j i f) = clash (cc)
    go (lowest_is d q under m h k top empty) (serves x) =
        let number : q ≡ r = cc (g.chosen, from_number s l.index) in
        let top_is : l.index d ≡ r ∷ under = rw number at top in
        let t = held l.line l.index w.kept d r under top_is in
        let both : free g.length_before r ≡ free t.n r = same_region g.was_free t.there r refl refl (once_in_line w.lined r) in
        let lengths : g.length_before ≡ t.n = cc in
        let class_is : down g.length_before ≡ d = rw lengths t.class_is in
        let its-number : x.r ≡ r = cc in
        let one-region : free x.n x.r ≡ free g.length_before r
        = same_region (between_at x.place) g.was_free r its-number refl (once_in_line w.lined r) in
        let one-length : x.n ≡ g.length_before = cc in
        let number-reached : (c : ℕ) → c ≤ d → Reaches c (rounded_up s) → up s ≤ c = λ c j z. (reaches_number s c (omega arith)).0 z in
        record {
          of_grant = g;
          class = d;
          below = under;
          lowest_class = (
            ((reaches_number s d (omega arith)).1 h, λ z. clash (cc)),
            λ c z. elim (below? c d) [ below j f ↦ absurd (z.1 (empty c (number-reached c (omega arith) z.0) j)) | beyond j f ↦ j ],
          );
          none_lower = λ c z j. empty c (number-reached c (omega arith) z) j;
          put_last = top_is;
          of_class = class_is;
          stacks_between = without (down g.length_before) r l.index;
          left_its_top = rw class_is (top_leaves d r l.index under top_is);
          left_no_other = rw class_is (others_stay d r l.index);
          remainder_on_top = topped s o r l g x one-length its-number;
        }
