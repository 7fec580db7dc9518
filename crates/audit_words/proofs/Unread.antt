-- The audit reads no word beyond those that its count of records needs: on tables and marks that agree up to there every test says the same,
-- sound or not. Assumes nothing.
use mathlib.Core.Path.{◌≡◌, refl, ap, ◌∙◌}
use mathlib.Core.Bool.{Bool, true, false, ◌&&◌, cond}
use mathlib.Core.List.{List}
use Prim.Native.Nat.{ℕ, zero, suc, ◌+◌, ◌-◌, ◌≤◌, ◌<◌}
use native.Mathlib.Omega.{arith}
use lib.ListN.{get_or, set}
use Rattle.basics.proofs.Decided.{below, beyond, below?}
use Rattle.tables.specs.Layout.{data_offset, data_size, bin_prev, bin_next, neighbor_prev, neighbor_next, used, word, nodes_needed, pile_needed}
use Rattle.tables.specs.Words.{Words, Edition, with_tables}
use Rattle.tables.specs.Reach.{AgreeOn}
use Rattle.tables.proofs.Agreeing.{set_agree, word_agree}
use Rattle.audit_words.specs.declared.Walk.{Walk}
use Rattle.audit_words.specs.declared.Along.{Along}
use Rattle.audit_words.specs.Spares.{Marked, good_spare, mark_from}
use Rattle.audit_words.specs.Chain.{starts_chain, first_record, good_region, advanced, walk_from, started, walk_ends}
use Rattle.audit_words.specs.Lists.{good_member, next_member, list_from, at_head, ended, lists_from}
use Rattle.audit_words.specs.Bits.{bits_agree}
use Rattle.audit_words.specs.Audit.{chain_walk, end_is_sound, records_are_sound, pile_is_sound, words_are_sound}
use Rattle.audit_words.proofs.ChainMet.{is_good}
use Rattle.audit_words.proofs.ListsMet as lists

-- ---- nodes a and b that agree for n records
module _ (n : ℕ) (a b : List ℕ) (N : AgreeOn (nodes_needed n) a b) where
  reads : (f r : ℕ) → f < 8 → r < n → word a f r ≡ word b f r
  reads f r f8 l = word_agree n N f r f8 l

  -- ---- the pile, marks p and q agreeing
  spare_same : (p q : List ℕ) → AgreeOn n p q → (r : ℕ) → good_spare a p n r ≡ good_spare b q n r
  unfolding good_spare
  spare_same p q M r = elim (below? r n) [
    | below l e ↦ rw (M.same r l, reads used r (omega arith) l) refl
    | beyond l e ↦ rw e refl
  ]

  abbrev Alike : Marked → Marked → Type 0
  Alike x y = (x.fine ≡ y.fine) × AgreeOn n x.marks y.marks

  module _ (pile other : List ℕ) (P : AgreeOn (pile_needed n) pile other) where
    marks_same : (k i : ℕ) (p q : List ℕ) → AgreeOn n p q → i + k ≤ n → Alike (mark_from k a pile n i p) (mark_from k b other n i q)
    unfolding mark_from
    marks_same zero i p q M h = (refl, M)
    marks_same (suc k) i p q M h =
        let same-spare = P.same i (omega arith) in
        rw (← same-spare, ← (spare_same p q M (get_or pile i 0)))
        (choose (good_spare a p n (get_or pile i 0)) (marks_same k (i + 1) (set p (get_or pile i 0) 1) (set q (get_or pile i 0) 1)
        (set_agree n (get_or pile i 0) 1 M) (omega arith)))
      where
        r : ℕ
        r = get_or pile i 0

        choose : (t : Bool) → Alike (mark_from k a pile n (i + 1) (set p r 1)) (mark_from k b other n (i + 1) (set q r 1))
            → Alike (cond t (mark_from k a pile n (i + 1) (set p r 1)) record { fine = false; marks = p })
            (cond t (mark_from k b other n (i + 1) (set q r 1)) record { fine = false; marks = q })
        choose true further = further
        choose false further = (refl, M)

  -- ---- behind the pile
  module _ (E : Edition) (p q : List ℕ) (M : AgreeOn n p q) where
    -- ---- the chain
    starts_same : (r : ℕ) → r < n → starts_chain E a p r ≡ starts_chain E b q r
    unfolding starts_chain
    starts_same r l = rw (M.same r l, reads neighbor_prev r (omega arith) l) refl

    first_same : (k i : ℕ) → i + k ≤ n → first_record E k a p i ≡ first_record E k b q i
    unfolding first_record
    first_same zero i h = refl
    first_same (suc k) i h = rw (starts_same i (omega arith), first_same k (i + 1) (omega arith)) refl

    region_same : (size : ℕ) (w : Walk) → good_region a p n size w ≡ good_region b q n size w
    unfolding good_region
    region_same size w = elim (below? w.here n) [
      | below l e ↦ rw (
        M.same w.here l,
        reads neighbor_prev w.here (omega arith) l,
        reads data_offset w.here (omega arith) l,
        reads data_size w.here (omega arith) l,
        reads used w.here (omega arith) l,
      ) refl
      | beyond l e ↦ rw e refl
    ]

    advanced_same : (w : Walk) → w.here < n → advanced a w ≡ advanced b w
    unfolding advanced
    advanced_same w l = rw (
      reads neighbor_next w.here (omega arith) l,
      reads data_size w.here (omega arith) l,
      reads used w.here (omega arith) l,
    ) refl

    walk_same : (size k : ℕ) (w : Walk) → walk_from k a p n size w ≡ walk_from k b q n size w
    unfolding walk_from
    walk_same size zero w = refl
    walk_same size (suc k) w = rw (region_same size w) (choose (good_region b q n size w) refl (walk_same size k))
      where
        choose : (t : Bool) → good_region b q n size w ≡ t → ((v : Walk) → walk_from k a p n size v ≡ walk_from k b q n size v)
            → cond t (walk_from k a p n size (advanced a w)) w ≡ cond t (walk_from k b q n size (advanced b w)) w
        choose true g further = rw (advanced_same w (is_good b q n size w g).low) (further (advanced b w))
        choose false g further = refl

    -- ---- the lists
    member_same : (c : ℕ) (m : Along) → good_member a p n c m ≡ good_member b q n c m
    unfolding good_member
    member_same c m = elim (below? m.here n) [
      | below l e ↦ rw (
        M.same m.here l,
        reads bin_prev m.here (omega arith) l,
        reads used m.here (omega arith) l,
        reads data_size m.here (omega arith) l,
      ) refl
      | beyond l e ↦ rw e refl
    ]

    next_same : (m : Along) → m.here < n → next_member a m ≡ next_member b m
    unfolding next_member
    next_same m l = rw (reads bin_next m.here (omega arith) l) refl

    list_same : (c k : ℕ) (m : Along) → list_from k a p n c m ≡ list_from k b q n c m
    unfolding list_from
    list_same c zero m = refl
    list_same c (suc k) m = rw (member_same c m) (choose (good_member b q n c m) refl (list_same c k))
      where
        choose : (t : Bool) → good_member b q n c m ≡ t → ((x : Along) → list_from k a p n c x ≡ list_from k b q n c x)
            → cond t (list_from k a p n c (next_member a m)) m ≡ cond t (list_from k b q n c (next_member b m)) m
        choose true g further = rw (next_same m (lists.is_good b q n c m g).member.low) (further (next_member b m))
        choose false g further = refl

    lists_same : (heads : List ℕ) (frees k c listed : ℕ) → lists_from E k a p heads n frees c listed ≡ lists_from E k b q heads n frees c listed
    unfolding lists_from ended
    lists_same heads frees zero c listed = refl
    lists_same heads frees (suc k) c listed =
        let end = list_from (frees - listed) b q n c (at_head E heads c listed) in
        rw (list_same c (frees - listed) (at_head E heads c listed), lists_same heads frees k (c + 1) end.listed) refl

-- ---- the words w, and w with other tables that agree with its own
module _ (E : Edition) (w : Words) (nodes pile : List ℕ) (N : AgreeOn (nodes_needed w.count) w.nodes nodes)
    (P : AgreeOn (pile_needed w.count) w.pile pile) where
  chain_same : (p q : List ℕ) → AgreeOn w.count p q → chain_walk E w p ≡ chain_walk E (with_tables w nodes pile) q
  unfolding chain_walk
  chain_same p q M =
      ap (λ (r : ℕ). walk_from w.count w.nodes p w.count w.size (started E r))
      (first_same w.count w.nodes nodes N E p q M w.count 0 (omega arith))
      ∙ walk_same w.count w.nodes nodes N E p q M w.size w.count (started E (first_record E w.count nodes q 0))

  end_same : (p q : List ℕ) → AgreeOn w.count p q → (end : Walk) → end_is_sound E w p end ≡ end_is_sound E (with_tables w nodes pile) q end
  unfolding end_is_sound
  end_same p q M end =
      ap (λ (t : Bool). walk_ends E w.size w.count w.free_storage (w.free_offset + 1) end && t && bits_agree E w.bin_indices w.used_bins w.used_bins_top)
      (lists_same w.count w.nodes nodes N E p q M w.bin_indices end.frees 256 0 0)

  records_same : (p q : List ℕ) → AgreeOn w.count p q → records_are_sound E w p ≡ records_are_sound E (with_tables w nodes pile) q
  unfolding records_are_sound
  records_same p q M =
      ap (end_is_sound E w p) (chain_same p q M) ∙ end_same p q M (chain_walk E (with_tables w nodes pile) q)

  pub tests_same : (p q : List ℕ) → AgreeOn w.count p q → words_are_sound E w p ≡ words_are_sound E (with_tables w nodes pile) q
  unfolding words_are_sound pile_is_sound
  tests_same p q M = elim (below? (w.free_offset + 1) w.count) [
    | below l e ↦
        let marked = marks_same w.count w.nodes nodes N w.pile pile P (w.free_offset + 1) 0 p q M (omega arith) in
        rw (marked.0, records_same _ _ marked.1) refl
    | beyond l e ↦ rw e refl
  ]
