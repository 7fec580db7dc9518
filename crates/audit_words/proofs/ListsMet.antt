-- The class lists: where the walk along each ends at an absent link, a run of good members stands there, and where such runs stand the walks
-- end, their members counted. Assumes nothing.
use mathlib.Core.Path.{◌≡◌, refl, ap, sym, ◌∙◌}
use mathlib.Core.Bool.{Bool, true, false, cond}
use mathlib.Core.List.{List, [], ◌∷◌}
use Prim.Native.Nat.{ℕ, zero, suc, ◌+◌, ◌-◌, ◌≤◌, ◌<◌}
use native.Mathlib.Omega.{arith}
use native.Mathlib.Numerals.{add-one}
use lib.Dec.{ltb, eqb}
use lib.ListN.{length, get_or}
use borrow.Author.Tests.{ltb-true, eqb-true, lt-ltb, le-ltb, eq-eqb, ne_eqb}
use Rattle.basics.proofs.Decided.{same, differ, same?}
use Rattle.basics.proofs.Counts.{In, hit, miss, match?, in_tail}
use Rattle.basics.proofs.Pigeons.{sum_below, sum_same, sum_part}
use Rattle.basics.proofs.Sums.{held_first}
use Rattle.small_float.specs.Class.{down}
use Rattle.tables.specs.Layout.{data_size, bin_prev, bin_next, used, word}
use Rattle.tables.specs.Words.{Edition}
use Rattle.tables.specs.Linked.{first, Linked}
use Rattle.audit_words.specs.declared.Along.{Along}
use Rattle.audit_words.specs.Lists.{good_member, next_member, list_from, at_head, ended, lists_from}
use Rattle.audit_words.proofs.Tests.{both}

module _ (nodes marks : List ℕ) (count : ℕ) where
  -- ---- one member, and one joined to the record before it
  pub record Member (c r : ℕ) : Type 0 where
    pub low : r < count
    pub unmarked : get_or marks r 0 ≡ 0
    pub dead : word nodes used r ≡ 0
    pub class_is : down (word nodes data_size r) ≡ c

  pub record Good (c : ℕ) (m : Along) : Type 0 where
    pub member : Member c m.here
    pub joined : word nodes bin_prev m.here ≡ m.prev

  pub is_good : (c : ℕ) (m : Along) → good_member nodes marks count c m ≡ true → Good c m
  unfolding good_member
  is_good c m e =
      let t4 = both _ (eqb (down (word nodes data_size m.here)) c) e in
      let t3 = both _ (eqb (word nodes used m.here) 0) t4.0 in
      let t2 = both _ (eqb (word nodes bin_prev m.here) m.prev) t3.0 in
      let t1 = both (ltb m.here count) (eqb (get_or marks m.here 0) 0) t2.0 in
      record {
        member = record {
          low = ltb-true _ _ t1.0;
          unmarked = eqb-true _ _ t1.1;
          dead = eqb-true _ _ t3.1;
          class_is = eqb-true _ _ t4.1;
        };
        joined = eqb-true _ _ t2.1;
      }

  good_is : (c : ℕ) (m : Along) → Good c m → good_member nodes marks count c m ≡ true
  unfolding good_member
  good_is c m g = rw (
    lt-ltb _ _ g.member.low,
    eq-eqb _ _ g.member.unmarked,
    eq-eqb _ _ g.joined,
    eq-eqb _ _ g.member.dead,
    eq-eqb _ _ g.member.class_is,
  )

module _ (E : Edition) (nodes marks : List ℕ) (count : ℕ) (small : count ≤ E.none) where
  end_bad : (c : ℕ) (m : Along) → m.here ≡ E.none → good_member nodes marks count c m ≡ false
  unfolding good_member
  end_bad c m e = rw (le-ltb m.here count (omega arith))

  -- ---- one list: the run of records from a on, with p before it
  pub record Run (c p a : ℕ) (xs : List ℕ) : Type 0 where
    pub links : Linked (word nodes bin_next) (word nodes bin_prev) p xs E.none
    pub start : first xs E.none ≡ a
    pub members : (q : ℕ) → In q xs → Member nodes marks count c q

  run_none : (c p a : ℕ) → a ≡ E.none → Run c p a []
  run_none c p a e = record { links = tt; start = sym e; members = λ q m. absurd (omega arith) }

  record Found (c : ℕ) (m e : Along) : Type 0 where
    pub run : List ℕ
    pub stands : Run c m.prev m.here run
    pub listed_is : e.listed ≡ m.listed + length run

  found_none : (c : ℕ) (m : Along) → m.here ≡ E.none → Found c m m
  found_none c m e = record { run = []; stands = run_none c m.prev m.here e; listed_is = omega arith }

  found_more : (c : ℕ) (m e : Along) → Good nodes marks count c m → Found c (next_member nodes m) e → Found c m e
  unfolding next_member
  found_more c m e g f = record {
    run = m.here ∷ f.run;
    stands = record {
      links = (g.joined, sym f.stands.start, f.stands.links);
      start = refl;
      members = λ q h. elim (match? q m.here) [ hit s o ↦ rw s g.member | miss d o ↦ f.stands.members q (omega arith) ];
    };
    listed_is = omega (arith, f.listed_is);
  }

  list_found : (k c : ℕ) (m : Along) → (list_from k nodes marks count c m).here ≡ E.none → Found c m (list_from k nodes marks count c m)
  unfolding list_from
  list_found zero c m e = found_none c m e
  list_found (suc k) c m e = go (good_member nodes marks count c m) refl e (list_found k c (next_member nodes m))
    where
      go : (t : Bool) → good_member nodes marks count c m ≡ t
          → (cond t (list_from k nodes marks count c (next_member nodes m)) m).here ≡ E.none
          → ((list_from k nodes marks count c (next_member nodes m)).here ≡ E.none
          → Found c (next_member nodes m) (list_from k nodes marks count c (next_member nodes m)))
          → Found c m (cond t (list_from k nodes marks count c (next_member nodes m)) m)
      go true g ends further = found_more c m _ (is_good nodes marks count c m g) (further ends)
      go false g ends further = found_none c m ends

  record Ended (m e : Along) (n : ℕ) : Type 0 where
    pub ends : e.here ≡ E.none
    pub listed_is : e.listed ≡ m.listed + n

  list_ends : (k c : ℕ) (m : Along) (xs : List ℕ) → length xs ≤ k → Run c m.prev m.here xs
      → Ended m (list_from k nodes marks count c m) (length xs)
  unfolding list_from
  list_ends zero c m [] l r = record { ends = sym r.start; listed_is = omega arith }
  list_ends zero c m (x ∷ xs) l r = absurd (omega arith)
  list_ends (suc k) c m [] l r = rw (end_bad c m (sym r.start)) record { ends = sym r.start; listed_is = omega arith }
  list_ends (suc k) c m (x ∷ xs) l r =
      let g : Good nodes marks count c m = record {
        member = rw (← r.start) (r.members x (held_first x xs));
        joined = sym (ap (word nodes bin_prev) r.start) ∙ r.links.0;
      } in
      rw (good_is nodes marks count c m g) (more (list_ends k c (next_member nodes m) xs (omega arith) (unfold next_member in record {
        links = rw (← r.start) r.links.2;
        start = sym r.links.1 ∙ ap (word nodes bin_next) r.start;
        members = λ q h. r.members q (in_tail q x xs h);
      })))
    where
      more : Ended (next_member nodes m) (list_from k nodes marks count c (next_member nodes m)) (length xs)
          → Ended m (list_from k nodes marks count c (next_member nodes m)) (suc (length xs))
      more e = record { ends = e.ends; listed_is = unfold next_member in omega (arith, e.listed_is) }

  -- ---- all lists
  module _ (heads : List ℕ) where
    abbrev pub Lists : ℕ → (ℕ → List ℕ) → Type 0
    Lists n stacks = (c : ℕ) → c < n → Run c E.none (get_or heads c 0) (stacks c)

    -- those below c, with `listed` members
    pub record SoFar (c listed : ℕ) : Type 0 where
      pub stacks : ℕ → List ℕ
      pub runs : Lists c stacks
      pub beyond : (d : ℕ) → c ≤ d → stacks d ≡ []
      pub sum_is : sum_below c (λ d. length (stacks d)) ≡ listed

    pub none_yet : SoFar 0 0
    unfolding sum_below
    none_yet = record { stacks = λ d. []; runs = λ c l. absurd (omega arith); beyond = λ d l. refl; sum_is = refl }

    one_more : (c listed : ℕ) (e : Along) → SoFar c listed → Found c (at_head E heads c listed) e → SoFar (c + 1) e.listed
    unfolding sum_below
    one_more c listed e s f = rw add-one record {
      stacks = more;
      runs = λ d l. elim (same? d c) [
        | same h t ↦ rw (t, h) f.stands
        | differ h t ↦ rw t (s.runs d (omega arith))
      ];
      beyond = λ d l. rw (ne_eqb d c (omega arith)) (s.beyond d (omega arith));
      sum_is = omega (
        arith,
        s.sum_is,
        f.listed_is,
        sum_same c (λ d. length (more d)) (λ d. length (s.stacks d)) (λ d l. ap (length {A = ℕ}) (other d (omega arith))),
        ap (length {A = ℕ}) own,
      );
    }
      where
        more : ℕ → List ℕ
        more d = cond (eqb d c) f.run (s.stacks d)

        other : (d : ℕ) → (d ≡ c → ⊥) → more d ≡ s.stacks d
        other d h = rw (ne_eqb d c h)

        own : more c ≡ f.run
        own = rw (eq-eqb c c refl)

    pub lists_found : (frees k c listed : ℕ) → SoFar c listed → lists_from E k nodes marks heads count frees c listed ≡ true → SoFar (c + k) frees
    unfolding lists_from ended
    lists_found frees zero c listed s e =
        let here : c + 0 ≡ c = omega arith in
        rw (here, ← (eqb-true listed frees e)) s
    lists_found frees (suc k) c listed s e =
        let m = list_from (frees - listed) nodes marks count c (at_head E heads c listed) in
        let t = both (eqb m.here E.none) _ e in
        let there : c + suc k ≡ c + 1 + k = omega arith in
        rw there (lists_found frees k (c + 1) m.listed
        (one_more c listed m s (list_found (frees - listed) c (at_head E heads c listed) (eqb-true _ _ t.0))) t.1)

    -- stacks that stand there and have as many members as there are free regions
    pub lists_end : (frees : ℕ) (stacks : ℕ → List ℕ) → Lists 256 stacks → sum_below 256 (λ c. length (stacks c)) ≡ frees
        → (k c listed : ℕ) → c + k ≡ 256 → sum_below c (λ d. length (stacks d)) ≡ listed
        → lists_from E k nodes marks heads count frees c listed ≡ true
    unfolding lists_from ended
    lists_end frees stacks runs all zero c listed l e =
        let whole : c ≡ 256 = omega arith in
        eq-eqb listed frees (sym e ∙ ap (λ (n : ℕ). sum_below n (λ d. length (stacks d))) whole ∙ all)
    lists_end frees stacks runs all (suc k) c listed l e =
        let room = sum_part 256 (λ d. length (stacks d)) c (omega arith) in
        let end = list_ends (frees - listed) c (at_head E heads c listed) (stacks c) (omega arith) (runs c (omega arith)) in
        rw (eq-eqb _ _ end.ends) (lists_end frees stacks runs all k (c + 1) _ (omega arith) (next end))
      where
        next : Ended (at_head E heads c listed) (list_from (frees - listed) nodes marks count c (at_head E heads c listed)) (length (stacks c))
            → sum_below (c + 1) (λ d. length (stacks d))
            ≡ (list_from (frees - listed) nodes marks count c (at_head E heads c listed)).listed
        next end = rw add-one (unfold sum_below in omega (arith, e, end.listed_is))
