-- The walk along the chain: where it ends at an absent link, a line of regions stands in the records that it met, and where such a line
-- stands the walk ends there, with the line's counts. Assumes nothing.
use mathlib.Core.Path.{◌≡◌, refl, ap, sym, ◌∙◌, subst}
use mathlib.Core.Logic.{◌≢◌}
use mathlib.Core.Bool.{Bool, true, false, not, cond}
use mathlib.Core.List.{List, [], ◌∷◌}
use Prim.Native.Nat.{ℕ, zero, suc, ◌+◌, ◌≤◌, ◌<◌}
use native.Mathlib.Omega.{arith}
use lib.Dec.{ltb, eqb}
use lib.ListN.{length, get_or}
use borrow.Author.Tests.{ltb-true, ltb-false, eqb-true, eqb-false, not-true, lt-ltb, le-ltb, eq-eqb, ne_eqb}
use Rattle.basics.specs.Sum.{tally}
use Rattle.basics.proofs.Decided.{Same, same, differ, same?}
use Rattle.basics.proofs.Counts.{In, hit, miss, match?, in_tail}
use Rattle.basics.proofs.Sums.{held_first}
use Rattle.ledger.specs.Ledger.{Region, live, free, len, rec, free_len}
use Rattle.ledger.specs.WellFormed.{Abut, Apart}
use Rattle.tables.specs.Layout.{data_offset, data_size, neighbor_prev, neighbor_next, used, word}
use Rattle.tables.specs.Words.{Edition}
use Rattle.tables.specs.Linked.{first, Linked, recs, mark, Reads}
use Rattle.audit_words.specs.declared.Walk.{Walk}
use Rattle.audit_words.specs.Chain.{good_used, good_region, advanced, walk_from}
use Rattle.audit_words.proofs.Tests.{both}

-- 1 for a free region
abbrev pub free_one : Region → ℕ
free_one (live n r) = 0
free_one (free n r) = 1

-- a free region may stand before the line, whatever its length and record
abut_any : (n r m q : ℕ) (xs : List Region) → Abut (free n r) xs → Abut (free m q) xs
abut_any n r m q [] h = tt
abut_any n r m q (live z s ∷ xs) h = tt
abut_any n r m q (free z s ∷ xs) h = h

-- ---- the used words of a region and of the one before it
data UsedIs (before this : ℕ) : Type 0 where
  is_free : this ≡ 0 → before ≢ 0 → UsedIs before this
  is_live : this ≡ 1 → UsedIs before this

used_is : (before this : ℕ) → good_used before this ≡ true → UsedIs before this
unfolding good_used
used_is before this e = go (same? this 0)
  where
    go : Same this 0 → UsedIs before this
    go (same z t) = is_free z (eqb-false before 0 (not-true _ (rw t at e)))
    go (differ d t) = is_live (eqb-true this 1 (both _ true (rw t at e)).0)

module _ (nodes marks : List ℕ) (count size : ℕ) where
  -- ---- one region, in the words of the record at which the walk stands
  pub record Good (w : Walk) : Type 0 where
    pub low : w.here < count
    pub unmarked : get_or marks w.here 0 ≡ 0
    pub joined : word nodes neighbor_prev w.here ≡ w.prev
    pub begins : word nodes data_offset w.here ≡ w.offset
    pub inside : w.offset + word nodes data_size w.here ≤ size
    pub used_good : good_used w.used (word nodes used w.here) ≡ true

  pub is_good : (w : Walk) → good_region nodes marks count size w ≡ true → Good w
  unfolding good_region
  is_good w e =
      let t5 = both _ (good_used w.used (word nodes used w.here)) e in
      let t4 = both _ (not (ltb size (w.offset + word nodes data_size w.here))) t5.0 in
      let t3 = both _ (eqb (word nodes data_offset w.here) w.offset) t4.0 in
      let t2 = both _ (eqb (word nodes neighbor_prev w.here) w.prev) t3.0 in
      let t1 = both (ltb w.here count) (eqb (get_or marks w.here 0) 0) t2.0 in
      record {
        low = ltb-true _ _ t1.0;
        unmarked = eqb-true _ _ t1.1;
        joined = eqb-true _ _ t2.1;
        begins = eqb-true _ _ t3.1;
        inside = ltb-false _ _ (not-true _ t4.1);
        used_good = t5.1;
      }

  good_is : (w : Walk) → Good w → good_region nodes marks count size w ≡ true
  unfolding good_region
  good_is w g = rw (
    lt-ltb _ _ g.low,
    eq-eqb _ _ g.unmarked,
    eq-eqb _ _ g.joined,
    eq-eqb _ _ g.begins,
    le-ltb _ _ g.inside,
  ) g.used_good

module _ (E : Edition) (nodes marks : List ℕ) (count size : ℕ) (small : count ≤ E.none) where
  -- past the end nothing is good
  end_bad : (w : Walk) → w.here ≡ E.none → good_region nodes marks count size w ≡ false
  unfolding good_region
  end_bad w e = rw (le-ltb w.here count (omega arith))

  -- ---- the line that stands from there on
  pub record Stands (w : Walk) (line : List Region) : Type 0 where
    pub reads : Reads nodes w.offset line
    pub chain : Linked (word nodes neighbor_next) (word nodes neighbor_prev) w.prev (recs line) E.none
    pub start : first (recs line) E.none ≡ w.here
    pub low : (q : ℕ) → In q (recs line) → q < count
    pub unmarked : (q : ℕ) → In q (recs line) → get_or marks q 0 ≡ 0
    pub apart : Apart line
    pub after : w.used ≡ 0 → Abut (free 0 0) line

  -- the walk from w to e met this line
  pub record Met (w : Walk) (line : List Region) (e : Walk) : Type 0 where
    pub ends : e.here ≡ E.none
    pub offset_is : e.offset ≡ w.offset + tally len line
    pub records_is : e.records ≡ w.records + length line
    pub frees_is : e.frees ≡ w.frees + tally free_one line
    pub total_is : e.total ≡ w.total + tally free_len line

  met_none : (w : Walk) → w.here ≡ E.none → Met w [] w
  met_none w e = record { ends = e; offset_is = omega arith; records_is = omega arith; frees_is = omega arith; total_is = omega arith }

  stands_none : (w : Walk) → w.here ≡ E.none → Stands w []
  stands_none w e = record {
    reads = tt;
    chain = tt;
    start = sym e;
    low = λ q m. absurd (omega arith);
    unmarked = λ q m. absurd (omega arith);
    apart = tt;
    after = λ z. tt;
  }

  -- ---- one region more: x is what the record at w says
  record Here (w : Walk) (x : Region) : Type 0 where
    pub rec_is : rec x ≡ w.here
    pub len_is : word nodes data_size w.here ≡ len x
    pub mark_is : word nodes used w.here ≡ mark x

  met_more : (w : Walk) (x : Region) (line : List Region) (e : Walk) → Here w x → Met (advanced nodes w) line e → Met w (x ∷ line) e
  unfolding advanced
  met_more w (live n r) line e h m =
      let u = ne_eqb (word nodes used w.here) 0 (omega (arith, h.mark_is)) in
      record {
        ends = m.ends;
        offset_is = omega (arith, m.offset_is, h.len_is);
        records_is = omega (arith, m.records_is);
        frees_is = m.frees_is ∙ rw u (omega arith);
        total_is = m.total_is ∙ rw u (omega arith);
      }
  met_more w (free n r) line e h m =
      let u = eq-eqb (word nodes used w.here) 0 h.mark_is in
      record {
        ends = m.ends;
        offset_is = omega (arith, m.offset_is, h.len_is);
        records_is = omega (arith, m.records_is);
        frees_is = m.frees_is ∙ rw u (omega arith);
        total_is = m.total_is ∙ rw u (omega (arith, h.len_is));
      }

  -- ---- yes: a line stands there
  pub record Found (w e : Walk) : Type 0 where
    pub line : List Region
    pub stands : Stands w line
    pub met : Met w line e

  stands_more : (w : Walk) (x : Region) (line : List Region) → Good nodes marks count size w → Here w x → (mark x ≡ 0 → w.used ≢ 0)
      → Stands (advanced nodes w) line → Stands w (x ∷ line)
  unfolding advanced
  stands_more w x line g h u s = record {
    reads = (
      ap (word nodes data_offset) h.rec_is ∙ g.begins,
      ap (word nodes data_size) h.rec_is ∙ h.len_is,
      ap (word nodes used) h.rec_is ∙ h.mark_is,
      subst (λ (n : ℕ). Reads nodes (w.offset + n) line) h.len_is s.reads,
    );
    chain = (
      ap (word nodes neighbor_prev) h.rec_is ∙ g.joined,
      ap (word nodes neighbor_next) h.rec_is ∙ sym s.start,
      rw h.rec_is s.chain,
    );
    start = h.rec_is;
    low = λ q m. elim (match? q (rec x)) [ hit e o ↦ rw (e, h.rec_is) g.low | miss d o ↦ s.low q (omega arith) ];
    unmarked = λ q m. elim (match? q (rec x)) [ hit e o ↦ rw (e, h.rec_is) g.unmarked | miss d o ↦ s.unmarked q (omega arith) ];
    apart = (abut x h s.after, s.apart);
    after = λ z. no_two x u z;
  }
    where
      abut : (x : Region) → Here w x → (word nodes used w.here ≡ 0 → Abut (free 0 0) line) → Abut x line
      abut (live n r) h f = tt
      abut (free n r) h f = abut_any 0 0 n r line (f h.mark_is)

      no_two : (x : Region) → (mark x ≡ 0 → w.used ≢ 0) → w.used ≡ 0 → Abut (free 0 0) (x ∷ line)
      no_two (live n r) u z = tt
      no_two (free n r) u z = u refl z

  found_more : (w e : Walk) → Good nodes marks count size w → Found (advanced nodes w) e → Found w e
  found_more w e g f = go (used_is w.used (word nodes used w.here) g.used_good)
    where
      n : ℕ
      n = word nodes data_size w.here

      with_region : (x : Region) → Here w x → (mark x ≡ 0 → w.used ≢ 0) → Found w e
      with_region x h u = record {
        line = x ∷ f.line;
        stands = stands_more w x f.line g h u f.stands;
        met = met_more w x f.line e h f.met;
      }

      go : UsedIs w.used (word nodes used w.here) → Found w e
      go (is_free z d) = with_region (free n w.here) record { rec_is = refl; len_is = refl; mark_is = z } (λ _. d)
      go (is_live o) = with_region (live n w.here) record { rec_is = refl; len_is = refl; mark_is = o } (λ z. absurd (omega arith))

  pub walk_found : (k : ℕ) (w : Walk) → (walk_from k nodes marks count size w).here ≡ E.none → Found w (walk_from k nodes marks count size w)
  unfolding walk_from
  walk_found zero w e = record { line = []; stands = stands_none w e; met = met_none w e }
  walk_found (suc k) w e = go (good_region nodes marks count size w) refl e (walk_found k (advanced nodes w))
    where
      go : (t : Bool) → good_region nodes marks count size w ≡ t
          → (cond t (walk_from k nodes marks count size (advanced nodes w)) w).here ≡ E.none
          → ((walk_from k nodes marks count size (advanced nodes w)).here ≡ E.none
          → Found (advanced nodes w) (walk_from k nodes marks count size (advanced nodes w)))
          → Found w (cond t (walk_from k nodes marks count size (advanced nodes w)) w)
      go true g ends further = found_more w _ (is_good nodes marks count size w g) (further ends)
      go false g ends further = record { line = []; stands = stands_none w ends; met = met_none w ends }

  -- ---- a line stands there: the walk meets it
  here_of : (w : Walk) (x : Region) (line : List Region) → Stands w (x ∷ line) → Here w x
  here_of w x line s = record {
    rec_is = s.start;
    len_is = sym (ap (word nodes data_size) s.start) ∙ s.reads.1;
    mark_is = sym (ap (word nodes used) s.start) ∙ s.reads.2;
  }

  good_of : (w : Walk) (x : Region) (line : List Region) → w.offset + (len x + tally len line) ≤ size → Stands w (x ∷ line) → Good nodes marks count size w
  unfolding good_used
  good_of w x line fits s =
      let h = here_of w x line s in
      record {
        low = rw (← s.start) (s.low (rec x) (held_first (rec x) (recs line)));
        unmarked = rw (← s.start) (s.unmarked (rec x) (held_first (rec x) (recs line)));
        joined = sym (ap (word nodes neighbor_prev) s.start) ∙ s.chain.0;
        begins = sym (ap (word nodes data_offset) s.start) ∙ s.reads.0;
        inside = omega (arith, h.len_is);
        used_good = used_good x h s.after;
      }
    where
      used_good : (x : Region) → Here w x → (w.used ≡ 0 → Abut (free 0 0) (x ∷ line)) → good_used w.used (word nodes used w.here) ≡ true
      used_good (live n r) h f = rw h.mark_is
      used_good (free n r) h f = rw (h.mark_is, ne_eqb w.used 0 (λ z. f z))

  next_stands : (w : Walk) (x : Region) (line : List Region) → Stands w (x ∷ line) → Stands (advanced nodes w) line
  unfolding advanced
  next_stands w x line s =
      let h = here_of w x line s in
      record {
        reads = subst (λ (n : ℕ). Reads nodes (w.offset + n) line) (sym h.len_is) s.reads.3;
        chain = rw (← s.start) s.chain.2;
        start = sym s.chain.1 ∙ ap (word nodes neighbor_next) s.start;
        low = λ q m. s.low q (in_tail q (rec x) (recs line) m);
        unmarked = λ q m. s.unmarked q (in_tail q (rec x) (recs line) m);
        apart = s.apart.1;
        after = λ z. abut x h s.apart.0 z;
      }
    where
      abut : (x : Region) → Here w x → Abut x line → word nodes used w.here ≡ 0 → Abut (free 0 0) line
      abut (live n r) h a z = absurd (omega (arith, h.mark_is))
      abut (free n r) h a z = abut_any n r 0 0 line a

  pub walk_meets : (k : ℕ) (w : Walk) (line : List Region) → length line ≤ k → w.offset + tally len line ≤ size → Stands w line
      → Met w line (walk_from k nodes marks count size w)
  unfolding walk_from
  walk_meets zero w [] l fits s = met_none w (sym s.start)
  walk_meets zero w (x ∷ line) l fits s = absurd (omega arith)
  walk_meets (suc k) w [] l fits s = rw (end_bad w (sym s.start)) (met_none w (sym s.start))
  walk_meets (suc k) w (x ∷ line) l fits s =
      let h = here_of w x line s in
      rw (good_is nodes marks count size w (good_of w x line fits s))
      (met_more w x line _ h (walk_meets k (advanced nodes w) line (omega arith) (further h) (next_stands w x line s)))
    where
      further : Here w x → (advanced nodes w).offset + tally len line ≤ size
      further h = unfold advanced in omega (arith, h.len_is)
