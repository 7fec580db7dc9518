-- A take on sound words answers as the ledger, and leaves words that stand for the ledger after it. Assumes nothing.
use mathlib.Core.Bool.{cond}
use mathlib.Core.Path.{◌≡◌, refl, ap, sym, ◌∙◌, subst}
use mathlib.Core.Logic.{inl, inr}
use mathlib.Core.List.{List, [], ◌∷◌, ◌++◌, reverse, reverse_aux-eq}
use Prim.Native.Nat.{ℕ, zero, suc, ◌+◌, ◌-◌, ◌≤◌, ◌<◌}
use native.Mathlib.Omega.{arith}
use lib.Dec.{eqb}
use lib.ListN.{length, get_or, drop, length-drop}
use lib.Seq.{drop-cons, append_snoc}
use borrow.Author.Tests.{lt-ltb, le-ltb, eq-eqb, ne_eqb}
use Rattle.basics.specs.Sum.{is, tally}
use Rattle.basics.proofs.Decided.{Same, same, differ, same?, below, beyond, below?}
use Rattle.basics.proofs.Sums.{tally_reverse_aux}
use Rattle.basics.proofs.Counts.{is_own, one_below}
use Rattle.small_float.specs.Class.{down, up, classes_in_use, rounded_up}
use Rattle.small_float.proofs.Rounding.{down_most, to_class, to_none, rounded?}
use Rattle.ledger.specs.Ledger.{Ledger, Region, live, free, len, free_len, Answer, granted, refused, take, cut, by_class, Stacks}
use Rattle.ledger.specs.WellFormed.{WellFormed, has}
use Rattle.ledger.proofs.Places.{sum_at}
use Rattle.ledger.proofs.Records.{all_records}
use Rattle.ledger.proofs.ClassCases.{Serving, TakeCase, few_spares, no_region, serves, take_case}
use Rattle.ledger.proofs.CallsWell.{take_well}
use Rattle.ledger.proofs.ByClass.{class_laws}
use Rattle.tables.specs.Layout.{data_offset, word}
use Rattle.tables.specs.Words.{Words, Edition, bounds, with_total}
use Rattle.tables.specs.Steps.{insert, insert_at, unlink_at, pop_pile}
use Rattle.tables.specs.Search.{Found, class_is, no_class, find_class, find_for}
use Rattle.tables.specs.Take.{stop, whole, split, plan_spare, plan_region, plan_record, plan_class, plan_take, granting, splitting, do_take}
use Rattle.tables.specs.Linked.{first, Reads}
use Rattle.tables.specs.Sound.{Sound}
use Rattle.tables.specs.Claims.{Holds}
use Rattle.tables.proofs.Lines.{reads_at}
use Rattle.tables.proofs.Spares.{SparesStand, next_spare}
use Rattle.tables.proofs.Place.{Standing}
use Rattle.tables.proofs.SoundOf.{stacks_inside, high_empty, shelf_of, standing, head_of, sound_from}
use Rattle.tables.proofs.Search.{search_finds}
use Rattle.tables.proofs.Grant.{whole_standing, split_standing}

module _ (E : Edition) (w : Words) (l : Ledger Stacks) (S : Sound E w l) (s : ℕ) where
  abbrev found : Found
  found = find_for w.used_bins w.used_bins_top (rounded_up s)

  -- ---- the class that is found; a size without one is more than any class in use reaches
  from_class : (c : ℕ) → up s ≤ c → c < classes_in_use → found ≡ find_class w.used_bins w.used_bins_top (up s)
  unfolding find_for
  from_class c h k = elim (rounded? s) [ to_class low in_use e ↦ rw e | to_none high past e ↦ absurd (omega arith) ]

  none_from : ((c : ℕ) → up s ≤ c → c < classes_in_use → l.index c ≡ []) → find_class w.used_bins w.used_bins_top (up s) ≡ no_class
  none_from empty = elim (search_finds E w l S (up s)) [
    | inl n ↦ n.0
    | inr f ↦ absurd (f.2.0.1 (elim (below? f.0 classes_in_use) [
      | below h e ↦ empty f.0 f.2.0.0 h
      | beyond h e ↦ high_empty E w l S f.0 h
    ]))
  ]

  none_found : ((c : ℕ) → up s ≤ c → c < classes_in_use → l.index c ≡ []) → found ≡ no_class
  unfolding find_for
  none_found empty = elim (rounded? s) [
    | to_class low in_use e ↦ rw e (none_from empty)
    | to_none high past e ↦ rw e
  ]

  class_found : (c r : ℕ) (under : List ℕ) → up s ≤ c → c < classes_in_use → l.index c ≡ r ∷ under
      → ((d : ℕ) → up s ≤ d → d < c → l.index d ≡ []) → found ≡ class_is c
  class_found c r under h in_use top lower = from_class c h in_use ∙ elim (search_finds E w l S (up s)) [
    | inl n ↦ absurd (holds (n.1 c h))
    | inr f ↦ elim (below? f.0 c) [
      | below g e ↦ absurd (f.2.0.1 (lower f.0 f.2.0.0 g))
      | beyond g e ↦ f.1 ∙ ap class_is (omega (arith, g, f.2.1 c (h, holds)))
    ]
  ]
    where
      holds : Holds l c
      holds e = omega (arith, ap (length {A = ℕ}) (sym top ∙ e))

  -- ---- a region serves the request
  module _ (t : Serving s l) where
    abbrev n : ℕ
    n = t.n

    abbrev r : ℕ
    r = t.r

    abbrev xs : List Region
    xs = reverse t.before

    abbrev o : ℕ
    o = tally len t.before

    -- the next record of the pile, and what lies under it
    abbrev m : ℕ
    m = get_or l.pile 0 0

    abbrev rest : List ℕ
    rest = drop 1 l.pile

    pile_is : l.pile ≡ m ∷ rest
    pile_is = drop-cons l.pile 0 0 (omega (arith, t.two_spare))

    line_is : l.line ≡ xs ++ free n r ∷ t.after
    line_is = t.place.line_is ∙ reverse_aux-eq t.before (free n r ∷ t.after)

    st : Standing (bounds E w) w (xs ++ free n r ∷ t.after) l.index l.pile
    st = subst (λ (line : List Region). Standing (bounds E w) w line l.index l.pile) line_is (standing E w l S)

    inside : (d q : ℕ) → tally (is q) (l.index d) ≤ tally (has q) (xs ++ free n r ∷ t.after)
    inside d q = omega (arith, stacks_inside E w l S d q, ap (tally (has q)) line_is)

    -- what the plan reads
    o_is : tally len xs ≡ o
    o_is = omega (arith, tally_reverse_aux len t.before [])

    reads : Reads w.nodes (0 + tally len xs) (free n r ∷ t.after)
    reads = (reads_at w.nodes t.place S.line.reads).1

    offset_is : word w.nodes data_offset r ≡ o
    offset_is = omega (arith, reads.0, o_is)

    r_below : r < w.count
    r_below = one_below r w.count (omega (arith, S.well.lined.once r, sum_at t.place (has r), is_own r))

    m_below : m < w.count
    m_below = one_below m w.count (omega (arith, S.well.lined.once m, ap (tally (is m)) pile_is, is_own m))

    off_below : w.free_offset < w.count
    off_below = omega (arith, S.spare.spares, all_records S.well.lined, S.well.lined.some_region)

    in_store : o + n ≤ w.size
    in_store = omega (arith, S.well.lined.cover, sum_at t.place len)

    in_total : n ≤ w.free_storage
    in_total = omega (arith, S.total, sum_at t.place free_len)

    head_is : get_or w.bin_indices (down n) 0 ≡ r
    head_is = S.lists.tops (down n) (omega (arith, t.in_use)) ∙ ap (λ (xs : List ℕ). first xs E.none) t.on_top_lem

    spare_is : get_or w.pile w.free_offset 0 ≡ m
    spare_is = next_spare w.count w.free_offset w.pile rest m
        (subst (SparesStand w.count w.free_offset w.pile) pile_is (shelf_of E w l S).on_pile)

    -- ---- so the plan is
    plan_is : plan_take w s ≡ cond (eqb n s) (whole (down n) r o) (split (down n) r o (n - s) m)
    unfolding plan_take plan_class plan_record plan_region plan_spare
    plan_is = rw (
      ne_eqb w.free_offset 0 (omega (arith, S.spare.spares, t.two_spare)),
      class_found (down n) r t.under t.reaching t.in_use t.on_top_lem t.none_lower,
      lt-ltb (down n) 256 (omega (arith, t.in_use)),
      head_is,
      lt-ltb r w.count r_below,
      reads.1,
      offset_is,
      le-ltb n s t.long_enough,
      le-ltb w.size (o + n) in_store,
      le-ltb w.free_storage s (omega (arith, t.long_enough, in_total)),
      lt-ltb w.free_offset w.count off_below,
      spare_is,
      lt-ltb m w.count m_below,
    )

    -- ---- and the words after it stand for the ledger after it
    abbrev next : ℕ → Ledger Stacks
    next k = cut by_class s k t.before n r t.after l

    next_well : WellFormed by_class w.size w.count (next (n - s))
    next_well = subst (λ (x : Answer × Ledger Stacks). WellFormed by_class w.size w.count x.1) t.outcome
        (take_well by_class class_laws w.size w.count s l S.well)

    whole_sound : n - s ≡ 0 → Sound E (with_total (granting (bounds E w) w s (down n) r) (w.free_storage - s)) (next 0)
    unfolding cut
    whole_sound e = sound_from E w (granting (bounds E w) w s (down n) r) (w.free_storage - s) (next 0) (head_of S)
        (unfold granting unlink_at in refl) (rw e at next_well)
        (rw (reverse_aux-eq t.before (live s r ∷ t.after))
        (whole_standing (bounds E w) w xs t.after n r s l.index l.pile t.under st t.on_top_lem inside (omega (arith, t.long_enough))))
        (omega (arith, S.total, sum_at t.place free_len, tally_reverse_aux free_len t.before (live s r ∷ t.after), t.long_enough))

    split_sound : (k : ℕ) → n - s ≡ suc k
        → Sound E (with_total (splitting (bounds E w) w s (down n) r o (n - s) m) (w.free_storage - s)) (next (suc k))
    unfolding cut
    split_sound k e = rw e (sound_from E w (splitting (bounds E w) w s (down n) r o (suc k) m) (w.free_storage - s) (next (suc k)) (head_of S)
        (unfold splitting insert insert_at pop_pile granting unlink_at in refl) (rw e at next_well)
        (rw (reverse_aux-eq t.before (live s r ∷ free (suc k) m ∷ t.after), ← (append_snoc xs (live s r) (free (suc k) m ∷ t.after)))
        (rw e at (split_standing (bounds E w) w xs t.after n r s l.index l.pile t.under st t.on_top_lem inside m rest pile_is
        (omega (arith, t.two_spare, length-drop 1 l.pile)) t.long_enough o (sym o_is) low)))
        (omega (arith, S.total, sum_at t.place free_len, tally_reverse_aux free_len t.before (live s r ∷ free (suc k) m ∷ t.after))))
      where
        low : down (n - s) < 256
        low = omega (arith, down_most (n - s) (omega (arith, in_store, S.room.of_head.size_fits, E.fits)))

    served : ((do_take E w s (plan_take w s)).0 ≡ (take by_class s l).0) × Sound E (do_take E w s (plan_take w s)).1 (take by_class s l).1
    unfolding do_take
    served = rw (plan_is, t.outcome) (go (n - s) refl (same? n s))
      where
        go : (k : ℕ) → n - s ≡ k → Same n s
            → ((do_take E w s (cond (eqb n s) (whole (down n) r o) (split (down n) r o (n - s) m))).0 ≡ granted o r)
            × Sound E (do_take E w s (cond (eqb n s) (whole (down n) r o) (split (down n) r o (n - s) m))).1 (next (n - s))
        go zero e (same p q) = rw (q, e) (refl, whole_sound e)
        go zero e (differ p q) = absurd (p (omega (arith, t.long_enough)))
        go (suc k) e (same p q) = absurd (omega arith)
        go (suc k) e (differ p q) = rw (q, e) (refl, rw e at (split_sound k e))

  pub take_sound : ((do_take E w s (plan_take w s)).0 ≡ (take by_class s l).0) × Sound E (do_take E w s (plan_take w s)).1 (take by_class s l).1
  take_sound = go (take_case S.well s)
    where
      refusal : (k : ℕ) → plan_take w s ≡ stop k → take by_class s l ≡ (refused k, l)
          → ((do_take E w s (plan_take w s)).0 ≡ (take by_class s l).0) × Sound E (do_take E w s (plan_take w s)).1 (take by_class s l).1
      refusal k p e = unfold do_take in rw (p, e) (refl, S)

      go : TakeCase s l → ((do_take E w s (plan_take w s)).0 ≡ (take by_class s l).0) × Sound E (do_take E w s (plan_take w s)).1 (take by_class s l).1
      go (few_spares h e) = refusal 3 (unfold plan_take in rw (eq-eqb w.free_offset 0 (omega (arith, S.spare.spares)))) e
      go (no_region h empty e) =
          refusal 4 (unfold plan_take plan_class in rw (ne_eqb w.free_offset 0 (omega (arith, S.spare.spares)), none_found empty)) e
      go (serves t) = served t
