-- No call reads a word beyond those that its count of records needs: on words that agree up to there it gives one answer and leaves words
-- that agree, sound or not. Assumes nothing.
use mathlib.Core.Path.{◌≡◌, refl, ap, ap₂, ◌∙◌, subst}
use mathlib.Core.Bool.{Bool, true, false, cond}
use mathlib.Core.List.{List}
use Prim.Native.Nat.{ℕ, ◌+◌, ◌-◌, ◌≤◌, ◌<◌}
use native.Mathlib.Omega.{arith}
use lib.Dec.{ltb, eqb}
use lib.ListN.{length, get_or}
use Rattle.basics.specs.Sum.{one}
use Rattle.basics.proofs.Decided.{below, beyond, below?}
use Rattle.small_float.specs.Class.{rounded_up}
use Rattle.ledger.specs.Ledger.{Answer}
use Rattle.ledger.specs.Calls.{Token, Call, Take, HandBack, Reset, Ask}
use Rattle.tables.specs.Layout.{data_offset, data_size, bin_next, neighbor_prev, neighbor_next, used, word, nodes_needed, pile_needed}
use Rattle.tables.specs.Words.{Words, Edition, Bounds, bounds, with_tables}
use Rattle.tables.specs.Steps.{pop_pile}
use Rattle.tables.specs.Setup.{Lent, blank, fresh, setup_words}
use Rattle.tables.specs.Search.{Found, class_is, no_class, bad_bits, find_for}
use Rattle.tables.specs.Take.{TakePlan, whole, split, plan_spare, plan_region, plan_record, plan_class, plan_take, granting, splitting, do_take}
use Rattle.tables.specs.HandBack.{BackPlan, merge, is_live, is_free, merged_of, plan_merged, plan_sides, plan_neighbours, plan_back, merging, do_back}
use Rattle.tables.specs.Calls.{behind, answer_words}
use Rattle.tables.specs.Room.{Room}
use Rattle.tables.specs.Reach.{AgreeOn, Agree}
use Rattle.tables.specs.Guards.{TakeGuards, BackGuards}
use Rattle.tables.proofs.Gate.{call_open}
use Rattle.tables.proofs.Questions.{live_same, told_alike}
use Rattle.tables.proofs.Refusals.{setup_opens}
use Rattle.tables.proofs.Guards.{take_guards, back_guards, live_low, free_low}
use Rattle.tables.proofs.Agreeing.{word_agree, tables_agree, by_tables, insert_agree, unlink_at_agree, drop_agree}
use Rattle.tables.proofs.Agreeing.{pop_pile_agree, total_agree, live_agree, wiped_agree, piled_agree}

-- two outcomes with one answer, whose words agree
abbrev Alike : ℕ → (a b : Answer × Words) → Type 0
Alike n a b = (a.0 ≡ b.0) × Agree n a.1 b.1

-- ---- w, and w with other tables that agree with its own
module _ (w : Words) (nodes pile : List ℕ) (N : AgreeOn (nodes_needed w.count) w.nodes nodes)
    (P : AgreeOn (pile_needed w.count) w.pile pile) where
  abbrev v : Words
  v = with_tables w nodes pile

  reads : (f r : ℕ) → f < 8 → r < w.count → word w.nodes f r ≡ word nodes f r
  reads f r f8 l = word_agree w.count N f r f8 l

  -- ---- take: one plan
  region_same : (s c r z o : ℕ) → plan_region w s c r z o ≡ plan_region v s c r z o
  unfolding plan_region plan_spare
  region_same s c r z o = elim (below? w.free_offset w.count) [
    | below l e ↦ ap (λ (m : ℕ). planned (plan_spare w c r o (z - s) m)) (P.same w.free_offset l)
    | beyond l e ↦ rw e refl
  ]
    where
      planned : TakePlan → TakePlan
      planned p =
          cond (ltb z s) (TakePlan.stop 6)
          (cond (ltb w.size (o + z)) (TakePlan.stop 6) (cond (ltb w.free_storage s) (TakePlan.stop 6) (cond (eqb z s) (whole c r o) p)))

  record_same : (s c r : ℕ) → plan_record w s c r ≡ plan_record v s c r
  unfolding plan_record
  record_same s c r = elim (below? r w.count) [
    | below l e ↦ rw e (ap₂ (plan_region w s c r) (reads data_size r (omega arith) l) (reads data_offset r (omega arith) l)
        ∙ region_same s c r (word nodes data_size r) (word nodes data_offset r))
    | beyond l e ↦ rw e refl
  ]

  class_same : (s : ℕ) (found : Found) → plan_class w s found ≡ plan_class v s found
  unfolding plan_class
  class_same s (class_is c) = ap (λ (p : TakePlan). cond (ltb c 256) p (TakePlan.stop 6)) (record_same s c (get_or w.bin_indices c 0))
  class_same s no_class = refl
  class_same s bad_bits = refl

  take_same : (s : ℕ) → plan_take w s ≡ plan_take v s
  unfolding plan_take
  take_same s =
      ap (λ (p : TakePlan). cond (eqb w.free_offset 0) (TakePlan.stop 3) p) (class_same s (find_for w.used_bins w.used_bins_top (rounded_up s)))

  -- ---- take: the commit
  agree : Agree w.count w v
  agree = tables_agree w.count w N P

  granting_agree : (K : Bounds) (s c r : ℕ) → r < w.count → Agree w.count (granting K w s c r) (granting K v s c r)
  unfolding granting
  granting_agree K s c r l =
      rw (reads bin_next r (omega arith) l)
      (live_agree w.count (unlink_at_agree w.count agree K c K.none (word nodes bin_next r)) r s)

  splitting_agree : (K : Bounds) (s c r o rest m : ℕ) → r < w.count
      → Agree w.count (splitting K w s c r o rest m) (splitting K v s c r o rest m)
  unfolding splitting
  splitting_agree K s c r o rest m l =
      rw (reads neighbor_next r (omega arith) l)
      (insert_agree w.count (pop_pile_agree w.count (granting_agree K s c r l)) K rest (o + s) m r (word nodes neighbor_next r))

  take_by_plan : (E : Edition) (s : ℕ) (p : TakePlan) → TakeGuards w s p → Alike w.count (do_take E w s p) (do_take E v s p)
  unfolding do_take
  take_by_plan E s (TakePlan.stop k) g = (refl, agree)
  take_by_plan E s (whole c r o) g =
      (refl, total_agree w.count (granting_agree (bounds E w) s c r g.record_low) (w.free_storage - s))
  take_by_plan E s (split c r o rest m) g =
      (refl, total_agree w.count (splitting_agree (bounds E w) s c r o rest m g.0.record_low) (w.free_storage - s))

  take_alike : (E : Edition) (s : ℕ) → Alike w.count (do_take E w s (plan_take w s)) (do_take E v s (plan_take v s))
  take_alike E s =
      subst (λ (p : TakePlan). Alike w.count (do_take E w s (plan_take w s)) (do_take E v s p)) (take_same s)
      (take_by_plan E s (plan_take w s) (take_guards w s))

  -- ---- hand back: one plan
  free_same : (q : ℕ) → is_free w.nodes w.count q ≡ is_free nodes w.count q
  unfolding is_free
  free_same q = elim (below? q w.count) [
    | below l e ↦ rw (e, reads used q (omega arith) l) refl
    | beyond l e ↦ rw e refl
  ]

  -- of a neighbour that is merged, the words are read alike
  if_free : (f q : ℕ) (t : Bool) → f < 8 → (1 ≤ one t → q < w.count) → {d e : ℕ} → d ≡ e
      → cond t (word w.nodes f q) d ≡ cond t (word nodes f q) e
  if_free f q true f8 l h = reads f q f8 (l (omega arith))
  if_free f q false f8 l h = h

  module _ (r : ℕ) (r-low : r < w.count) where
    merged_same : (p x : ℕ) (p_free x_free : Bool) → (1 ≤ one p_free → p < w.count) → (1 ≤ one x_free → x < w.count)
        → merged_of w r p x p_free x_free ≡ merged_of v r p x p_free x_free
    unfolding merged_of
    merged_same p x p_free x_free p-low x-low = λ i. record {
      length = if_free data_size p p_free (omega arith) p-low {d = 0} refl i + reads data_size r (omega arith) r-low i
          + if_free data_size x x_free (omega arith) x-low {d = 0} refl i;
      start = if_free data_offset p p_free (omega arith) p-low (reads data_offset r (omega arith) r-low) i;
      before = if_free neighbor_prev p p_free (omega arith) p-low {d = p} refl i;
      after = if_free neighbor_next x x_free (omega arith) x-low {d = x} refl i;
      total = w.free_storage + reads data_size r (omega arith) r-low i;
    }

    neighbours_same : (p x : ℕ) → plan_neighbours w r p x ≡ plan_neighbours v r p x
    unfolding plan_neighbours plan_sides plan_merged
    neighbours_same p x =
        ap (plan_merged w p x p_free x_free) (merged_same p x p_free x_free (free_low w.nodes w.count p) (free_low w.nodes w.count x))
        ∙ ap₂ (plan_sides v r p x) (free_same p) (free_same x)
      where
        p_free : Bool
        p_free = is_free w.nodes w.count p

        x_free : Bool
        x_free = is_free w.nodes w.count x

    links_same : plan_neighbours w r (word w.nodes neighbor_prev r) (word w.nodes neighbor_next r)
        ≡ plan_neighbours v r (word nodes neighbor_prev r) (word nodes neighbor_next r)
    links_same =
        neighbours_same (word w.nodes neighbor_prev r) (word w.nodes neighbor_next r)
        ∙ ap₂ (plan_neighbours v r) (reads neighbor_prev r (omega arith) r-low) (reads neighbor_next r (omega arith) r-low)

  back_same : (span : Token) → plan_back w span ≡ plan_back v span
  unfolding plan_back
  back_same span = rw (← (live_same w nodes pile N P span.number)) (at (is_live w.nodes w.count span.number) refl)
    where
      r : ℕ
      r = span.number

      -- what is planned for a live record, by its offset word
      at_start : (start : ℕ) → BackPlan → BackPlan
      at_start start plan = cond (eqb start span.offset) plan (BackPlan.stop 8)

      at : (t : Bool) → is_live w.nodes w.count r ≡ t
          → cond t (at_start (word w.nodes data_offset r) (plan_neighbours w r (word w.nodes neighbor_prev r) (word w.nodes neighbor_next r)))
          (BackPlan.stop 5)
          ≡ cond t (at_start (word nodes data_offset r) (plan_neighbours v r (word nodes neighbor_prev r) (word nodes neighbor_next r))) (BackPlan.stop 5)
      at true e =
          let low = live_low w.nodes w.count r e in
          ap₂ at_start (reads data_offset r (omega arith) low) (links_same r low)
      at false e = refl

  -- ---- hand back: the commit
  back_by_plan : (E : Edition) (r : ℕ) (p : BackPlan) → BackGuards w r p → Alike w.count (do_back E w r p) (do_back E v r p)
  unfolding do_back merging
  back_by_plan E r (BackPlan.stop k) g = (refl, agree)
  back_by_plan E r (merge p x p_free x_free m) g = (
    refl,
    total_agree w.count
        (insert_agree w.count
        (drop_agree w.count (bounds E w) x_free x g.after_low (drop_agree w.count (bounds E w) p_free p g.before_low agree))
        (bounds E w) m.length m.start r m.before m.after)
        m.total,
  )

  back_alike : (E : Edition) (span : Token)
      → Alike w.count (do_back E w span.number (plan_back w span)) (do_back E v span.number (plan_back v span))
  back_alike E span =
      subst (λ (p : BackPlan). Alike w.count (do_back E w span.number (plan_back w span)) (do_back E v span.number p)) (back_same span)
      (back_by_plan E span.number (plan_back w span) (back_guards w span))

-- ---- setup and reset
fresh_agree : (E : Edition) (size count : ℕ) {nodes pile others spare : List ℕ} → AgreeOn (nodes_needed count) nodes others
    → AgreeOn (pile_needed count) pile spare → Agree count (fresh E size count nodes pile) (fresh E size count others spare)
unfolding fresh blank pop_pile
fresh_agree E size count {nodes} {pile} {others} {spare} N P =
    insert_agree count (pop_pile_agree count blank_agree) (bounds E (blank E size count nodes pile)) size 0 0 E.none E.none
  where
    blank_agree : Agree count (blank E size count nodes pile) (blank E size count others spare)
    blank_agree =
        tables_agree count (blank E size count nodes pile) (wiped_agree (nodes_needed count) count N) (piled_agree (pile_needed count) count count P)

-- setup reads of its tables no more than their lengths, and of its arrays nothing
pub setup_not_read : (E : Edition) (size count : ℕ) (a b : Lent) → size ≤ E.greatest → Room E count (length a.nodes) (length a.pile)
    → AgreeOn (nodes_needed count) a.nodes b.nodes → AgreeOn (pile_needed count) a.pile b.pile
    → ((setup_words E size count a).0 ≡ (setup_words E size count b).0) × Agree count (setup_words E size count a).1 (setup_words E size count b).1
setup_not_read E size count a b fits room N P =
    rw (setup_opens E size count a fits room, setup_opens E size count b fits room_too) (refl, fresh_agree E size count N P)
  where
    room_too : Room E count (length b.nodes) (length b.pile)
    room_too = record { count_low = room.count_low; count_high = room.count_high; nodes_room = N.long_too; pile_room = P.long_too }

-- ---- every call
module _ (E : Edition) (w : Words) (nodes pile : List ℕ) (N : AgreeOn (nodes_needed w.count) w.nodes nodes)
    (P : AgreeOn (pile_needed w.count) w.pile pile) (room : Room E w.count (length w.nodes) (length w.pile)) where
  behind_alike : (c : Call) → Alike w.count (behind E c w) (behind E c (with_tables w nodes pile))
  unfolding behind
  behind_alike (Take asked) = take_alike w nodes pile N P E asked.size
  behind_alike (HandBack span) = back_alike w nodes pile N P E span
  behind_alike Reset = (refl, fresh_agree E w.size w.count N P)
  behind_alike (Ask q) = (told_alike w nodes pile N P q, agree w nodes pile N P)

  -- the gate is open for both
  call_alike : (c : Call) → Alike w.count (answer_words E c w) (answer_words E c (with_tables w nodes pile))
  call_alike c = rw (call_open E c w room, call_open E c (with_tables w nodes pile) room_too) (behind_alike c)
    where
      room_too : Room E w.count (length nodes) (length pile)
      room_too = record { count_low = room.count_low; count_high = room.count_high; nodes_room = N.long_too; pile_room = P.long_too }

pub not_read : (E : Edition) (c : Call) (w v : Words) → Agree w.count w v → Room E w.count (length w.nodes) (length w.pile)
    → ((answer_words E c w).0 ≡ (answer_words E c v).0) × Agree w.count (answer_words E c w).1 (answer_words E c v).1
not_read E c w v A room =
    by_tables w.count A (λ (u : Words). Alike w.count (answer_words E c w) (answer_words E c u))
    (call_alike E w v.nodes v.pile A.nodes_is A.pile_is room c)
