-- A grant: which region it is, where it lies, and that nothing live overlaps it then or later. Assumes nothing.
use Rattle.ledger.specs.Ledger.{Engine, Ledger, cut, take, Region, live, free, len, granted}
use Rattle.ledger.specs.Laws.{Laws}
use mathlib.Core.Path.{◌≡◌, refl, sym, ap, ◌∙◌, subst}
use Prim.Native.Nat.{ℕ, zero, suc, ◌-◌, ◌≤◌}
use native.Mathlib.Omega.{arith}
use mathlib.Core.Logic.{inl, inr, ◌≢◌}
use mathlib.Core.List.{List, [], ◌∷◌, ◌++◌, reverse, reverse_aux-eq}
use lib.ListN.{length, get_or, drop}
use lib.Seq.{drop-cons}
use Rattle.basics.specs.Sum.{tally}
use Rattle.basics.proofs.Clash.{clash}
use Rattle.basics.proofs.Sums.{tally_reverse_aux}
use Rattle.ledger.specs.Calls.{span_of, end, Call, answer}
use Rattle.ledger.specs.WellFormed.{WellFormed}
use Rattle.ledger.specs.Spans.{At, first, Disjoint, AllLeave}
use Rattle.ledger.specs.Claims.{Grant, Remainder, nothing_left, next_record}
use Rattle.ledger.proofs.Places.{between_at, at_behind, same_region}
use Rattle.ledger.proofs.Records.{once_in_line}
use Rattle.ledger.proofs.Cases.{Serving, TakeCase, few_spares, no_region, serves, take_case}
use Rattle.ledger.proofs.CallsWell.{take_well}
use Rattle.ledger.proofs.Spans.{at_disjoint}
use Rattle.ledger.proofs.Stays.{calls_leave}

module _ (E : Engine) (laws : Laws E) where
  -- where a cut is made the live region stands
  pub cut_at : (s k : ℕ) (before after : List Region) (n r : ℕ) (l : Ledger E.Index)
      → At (live s r) (tally len before) (cut E s k before n r after l).line
  unfolding cut
  cut_at s zero before after n r l = at_behind before first (omega arith)
  cut_at s (suc k) before after n r l = at_behind before first (omega arith)

  -- what a cut leaves of the region, of the line and of the pile
  record Cut (s k : ℕ) (before after : List Region) (n r : ℕ) (l : Ledger E.Index) : Type 0 where
    remainder : List Region
    line_is : (cut E s k before n r after l).line ≡ reverse before ++ (live s r ∷ (remainder ++ after))
    remainder_is : Remainder k l.pile remainder (cut E s k before n r after l).pile

  cut_is : (s k : ℕ) (before after : List Region) (n r : ℕ) (l : Ledger E.Index) → 2 ≤ length l.pile → Cut s k before after n r l
  unfolding cut
  cut_is s zero before after n r l two = record {
    remainder = [];
    line_is = reverse_aux-eq before (live s r ∷ after);
    remainder_is = nothing_left refl;
  }
  cut_is s (suc k) before after n r l two = record {
    remainder = free (suc k) (get_or l.pile 0 0) ∷ [];
    line_is = reverse_aux-eq before (live s r ∷ free (suc k) (get_or l.pile 0 0) ∷ after);
    remainder_is = next_record (get_or l.pile 0 0) (drop 1 l.pile) (omega arith) (drop-cons l.pile 0 0 (omega arith));
  }

  module _ (size count : ℕ) where
    pub the_grant : (s o r : ℕ) (l : Ledger E.Index) → WellFormed E size count l → (take E s l).0 ≡ granted o r → Grant E s o r l
    the_grant s o r l w g = go (take_case E laws w s)
      where
        of_serving : (t : Serving E s l) → Grant E s (tally len t.before) t.r l
        of_serving t =
            let parts = cut_is s (t.n - s) t.before t.after t.n t.r l t.two_spare in
            record {
              length_before = t.n;
              was_free = between_at t.place;
              chosen = t.chosen;
              reaching = t.reaching;
              is_live = rw t.outcome (cut_at s (t.n - s) t.before t.after t.n t.r l);
              front = reverse t.before;
              back = t.after;
              remainder = parts.remainder;
              line_was = t.place.line_is ∙ reverse_aux-eq t.before (free t.n t.r ∷ t.after);
              place_was = omega (arith, tally_reverse_aux len t.before []);
              line_is = ap (λ a. a.1.line) t.outcome ∙ parts.line_is;
              remainder_is = subst (λ a. Remainder (t.n - s) l.pile parts.remainder a.1.pile) (sym t.outcome) parts.remainder_is;
            }

        go : TakeCase E s l → Grant E s o r l
        go (few_spares h e) = clash (cc)
        go (no_region h empty e) = clash (cc)
        go (serves t) =
            let offset : tally len t.before ≡ o = cc t.outcome in
            let number : t.r ≡ r = cc t.outcome in
            subst (λ p. Grant E s p r l) offset (subst (λ q. Grant E s (tally len t.before) q l) number (of_serving t))

    pub grant_alone : (s o r : ℕ) (l : Ledger E.Index) → WellFormed E size count l → (take E s l).0 ≡ granted o r
        → (n q p : ℕ) → At (live n q) p l.line → Disjoint o s p n
    grant_alone s o r l w g n q p a = go (at_disjoint t.was_free a different)
      where
        t : Grant E s o r l
        t = the_grant s o r l w g

        different : r ≢ q
        different e = let both : free t.length_before r ≡ live n q = same_region t.was_free a q e refl (once_in_line w.lined q) in clash (cc)

        long_enough : s ≤ t.length_before
        long_enough = laws.fits s t.length_before t.reaching

        go : Disjoint o t.length_before p n → Disjoint o s p n
        go (inl h) = inl (omega (arith, long_enough))
        go (inr h) = inr h

  module _ (size count : ℕ) (two : 2 ≤ count) where
    pub grant_lasts : (s o r : ℕ) (l : Ledger E.Index) → WellFormed E size count l → (take E s l).0 ≡ granted o r
        → (cs : List Call) → AllLeave (span_of o r) cs → At (live s r) o (end (answer E size count) cs (take E s l).1).line
    grant_lasts s o r l w g cs h =
        calls_leave E laws size count two cs s r o (take E s l).1 (take_well E laws size count s l w) h (the_grant size count s o r l w g).is_live

    pub grant_stays_alone : (s o r : ℕ) (l : Ledger E.Index) → WellFormed E size count l → (take E s l).0 ≡ granted o r
        → (cs : List Call) → AllLeave (span_of o r) cs
        → (n q p : ℕ) → At (live n q) p (end (answer E size count) cs (take E s l).1).line → q ≢ r → Disjoint o s p n
    grant_stays_alone s o r l w g cs h n q p a different = at_disjoint (grant_lasts s o r l w g cs h) a (λ e. different (sym e))
