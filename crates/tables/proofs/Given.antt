-- The rows of specs/Examples.antt that speak of every size, table or call: which counts are accepted, and that every number a call may give is given.
-- Assumes nothing.
use mathlib.Core.Path.{◌≡◌, refl, sym, ap, ◌∙◌}
use mathlib.Core.Logic.{◌⊎◌, inl, inr}
use mathlib.Core.List.{[], ◌∷◌}
use mathlib.Core.Bool.{Bool}
use mathlib.Core.Option.{Option, none, some}
use Prim.Native.Nat.{ℕ, ◌+◌, ◌*◌, ◌/◌, ◌%◌, ◌≤◌, ◌<◌, ◌^◌}
use native.Mathlib.Nat.{div_self}
use native.Mathlib.Omega.{arith}
use lib.Dec.{ltb}
use lib.Count.{count_trailing_zeros}
use lib.ListN.{length, replicate, get_or-replicate}
use lib.Pow.{pow_pos}
use borrow.Author.Tests.{lt-ltb, eq-eqb, ne_eqb}
use Rattle.basics.proofs.Clash.{clash}
use Rattle.basics.proofs.Decided.{below, beyond, below?}
use Rattle.small_float.specs.Class.{up, greatest_served, rounded_up}
use Rattle.small_float.proofs.Rounding.{rounded_to_class}
use Rattle.ledger.specs.Ledger.{Answer, done, refused, setup, by_class}
use Rattle.ledger.specs.Calls.{Request, Token, Question, SizeOf, Report, FullReport, Fill, Call, Take, HandBack, Reset, Ask, answer, end}
use Rattle.ledger.proofs.SmallStores.{small_stores}
use Rattle.tables.specs.Layout.{data_offset, neighbor_prev, neighbor_next, used, word, nodes_needed, pile_needed}
use Rattle.tables.specs.Words.{Words, with_total, with_lists}
use Rattle.tables.specs.Search.{low_from, low_in_bin, leaf_or_above, find_class, find_for}
use Rattle.tables.specs.Search as found
use Rattle.tables.specs.Take.{TakePlan, plan_region, plan_record, plan_class, plan_take, do_take}
use Rattle.tables.specs.HandBack.{BackPlan, Merged, is_free, merged_of, plan_merged, plan_sides, plan_neighbours, plan_back, do_back}
use Rattle.tables.specs.Setup.{Lent, tables_alone, setup_words}
use Rattle.tables.specs.Questions.{may_tell}
use Rattle.tables.specs.Calls.{edition32, behind, answer_words}
use Rattle.tables.specs.Room.{Room}
use Rattle.tables.specs.Claims.{OneOf, may_give_behind, may_give, NotLive}
use Rattle.tables.specs.Examples.{LongEnough, CountRows, GivenBehind, AsksOfAStore, OfAStore, AllGiven, EveryEdition}
use Rattle.tables.proofs.MaskEnds.{low_past}
use Rattle.tables.proofs.PlanEnds.{either}
use Rattle.tables.proofs.Gate.{call_open, bad_count, too_short, open_gate, gated?}
use Rattle.tables.proofs.Questions.{bare, two, room, all_zero, marked, marked_room, marked_live, marked_starts, told_given}
use Rattle.tables.proofs.Refusals.{setup_1, setup_10, setup_2, setup_done, setup_refused, setup_numbers}
use Rattle.tables.proofs.Refusals.{call_6, call_2, take_3, back_5, back_8, size_8}
use Rattle.tables.proofs.OverRuns.{call_sound, demand_2}

-- ---- counts
pub accepted : (size count : ℕ) (lent : Lent) → size < 2 ^ 32 → 2 ≤ count → count ≤ edition32.limit → LongEnough count lent
    → (setup_words edition32 size count lent).0 ≡ done
accepted size count lent fits low high long =
    (setup_done edition32 size count lent).1
    (omega arith, record { count_low = low; count_high = high; nodes_room = long.0; pile_room = long.1 })

only_1_and_2 : (size count : ℕ) (lent : Lent) (k : ℕ) → size < 2 ^ 32 → (setup_words edition32 size count lent).0 ≡ refused k
    → OneOf (1 ∷ 2 ∷ []) k
only_1_and_2 size count lent k fits e = go (setup_numbers edition32 size count lent k e)
  where
    go : OneOf (1 ∷ 10 ∷ 2 ∷ []) k → OneOf (1 ∷ 2 ∷ []) k
    go (inl q) = inl q
    go (inr (inl q)) = absurd (omega (arith, ((setup_10 edition32 size count lent).0 (e ∙ ap refused q)).1))
    go (inr (inr h)) = inr h

which : (count : ℕ) (lent : Lent) → ¬ LongEnough count lent
    → (length lent.nodes < nodes_needed count) ⊎ (length lent.pile < pile_needed count)
which count lent short = elim (below? (length lent.nodes) (nodes_needed count)) [
  | below l e ↦ inl l
  | beyond l e ↦ elim (below? (length lent.pile) (pile_needed count)) [
    | below m f ↦ inr m
    | beyond m f ↦ absurd (short (l, m))
  ]
]

one_of_these : (count : ℕ) → OneOf (2 ∷ 131072 ∷ 131073 ∷ 1048576 ∷ []) count → (2 ≤ count) × (count ≤ edition32.limit)
one_of_these count (inl e) = (omega (arith, e), omega (arith, e))
one_of_these count (inr (inl e)) = (omega (arith, e), omega (arith, e))
one_of_these count (inr (inr (inl e))) = (omega (arith, e), omega (arith, e))
one_of_these count (inr (inr (inr (inl e)))) = (omega (arith, e), omega (arith, e))
one_of_these count (inr (inr (inr (inr e)))) = absurd e

pub count_rows : CountRows
count_rows = record {
  count_1 = λ size lent. (setup_1 edition32 size 1 lent).1 (inl (omega arith));
  count_2 = λ size lent fits long. accepted size 2 lent fits (omega arith) (omega arith) long;
  takes_of_2 = λ size lent fits long cs asked.
      let sound = (demand_2 edition32 size 2 lent (accepted size 2 lent fits (omega arith) (omega arith) long) cs).1 in
      (call_sound edition32 (end (answer_words edition32) cs (setup_words edition32 size 2 lent).1)
      (end (answer by_class size 2) cs (setup by_class size 2)) sound (Take asked)).0
      ∙ unfold answer in small_stores.count_2 size asked.size (end (answer by_class size 2) cs (setup by_class size 2)) (cs, refl);
  accepted_before = λ size lent fits long. accepted size _ lent fits (omega arith) (omega arith) long;
  now_accepted = λ size lent fits long. accepted size _ lent fits (omega arith) (omega arith) long;
  greatest_count = λ size lent fits long. accepted size _ lent fits (omega arith) (omega arith) long;
  one_too_many = λ size lent. (setup_1 edition32 size _ lent).1 (inr (omega arith));
  in_heads = λ c w e nodes pile.
      let within = one_of_these w.count e in
      call_open edition32 c w record { count_low = within.0; count_high = within.1; nodes_room = nodes; pile_room = pile };
  one_too_many_in_a_head = λ c w e. call_6 edition32 c w (inr (omega (arith, e)));
  setup_32 = only_1_and_2;
  not_long_enough = λ size count lent fits low high short. (setup_2 edition32 size count lent).1 (omega arith, ((low, high), which count lent short));
  one_of_zeros = λ size nodes pile.
      setup_refused edition32 size 1 (tables_alone nodes pile) 1 ((setup_1 edition32 size 1 (tables_alone nodes pile)).1 (inl (omega arith)));
}

-- ---- numbers
not_live : (off r : ℕ) → NotLive (two off) r
unfolding word
not_live off r = inr (all_zero 16 (8 * r + used))

nothing_held : (c : ℕ) → find_class [] 0 c ≡ found.no_class
unfolding find_class leaf_or_above low_in_bin
nothing_held c = rw (low_past 0 (c % 8) (pow_pos (c % 8)), low_past 0 (c / 8 + 1) (pow_pos (c / 8 + 1))) refl

nothing_for : (wanted : Option ℕ) → find_for [] 0 wanted ≡ found.no_class
unfolding find_for
nothing_for (some c) = nothing_held c
nothing_for none = refl

gives_4 : (asked : Request) → (answer_words edition32 (Take asked) (two 1)).0 ≡ refused 4
unfolding behind
gives_4 asked =
    ap (λ (o : Answer × Words). o.0) (call_open edition32 (Take asked) (two 1) (room 1))
    ∙ unfold plan_take plan_class do_take in rw (nothing_for (rounded_up asked.size)) refl

gives_2 : (c : Call) → (w : Words) × ((answer_words edition32 c w).0 ≡ refused 2)
gives_2 c = (bare 2 0 [] [], ap (λ (o : Answer × Words). o.0) (call_2 edition32 c (bare 2 0 [] []) ((omega arith, omega arith), inl (omega arith))))

gives_6 : (c : Call) → (w : Words) × ((answer_words edition32 c w).0 ≡ refused 6)
gives_6 c = (bare 0 0 [] [], ap (λ (o : Answer × Words). o.0) (call_6 edition32 c (bare 0 0 [] []) (inl (omega arith))))

-- ---- 6 behind an open gate
-- class c has its bit, in a store of no units, and its list begins with a region of one
abbrev no_units : (c : ℕ) → Words
no_units c = with_lists (two 1) 0 (replicate (c / 8 + 1) (2 ^ (c % 8))) [] (replicate 16 1)

bit_found : (c : ℕ) → find_class (no_units c).used_bins 0 c ≡ found.class_is (8 * (c / 8) + (c % 8 + 0))
unfolding find_class leaf_or_above low_from count_trailing_zeros
bit_found c =
    rw (get_or-replicate {A = ℕ} (c / 8 + 1) (c / 8) (2 ^ (c % 8)) 0 (omega arith), div_self (pow_pos (c % 8)), lt-ltb (c % 8 + 0) 8 (omega arith)) refl

region_outside : (c s d : ℕ) → plan_class (no_units c) s (found.class_is d) ≡ TakePlan.stop 6
unfolding plan_class plan_record plan_region word
region_outside c s d =
    either (λ (p : TakePlan). p ≡ TakePlan.stop 6) (ltb d 256) (either (λ (p : TakePlan). p ≡ TakePlan.stop 6) (ltb 1 s) refl refl) refl

take_6 : (asked : Request) → asked.size ≤ greatest_served → (answer_words edition32 (Take asked) (no_units (up asked.size))).0 ≡ refused 6
unfolding behind do_take
take_6 asked h =
    let c = up asked.size in
    let stops : plan_take (no_units c) asked.size ≡ TakePlan.stop 6
    = unfold plan_take find_for in rw (rounded_to_class asked.size h, bit_found c) (region_outside c asked.size (8 * (c / 8) + (c % 8 + 0))) in
    ap (λ (o : Answer × Words). o.0) (call_open edition32 (Take asked) (no_units c) (room 1))
    ∙ ap (λ (p : TakePlan). (do_take edition32 (no_units c) asked.size p).0) stops

-- every record is live, record r starts at o, and more is free than there is
abbrev too_free : (count o r : ℕ) → Words
too_free count o r = with_total (marked count o r) 1

total_outside : (count o r p x : ℕ) (p_free x_free : Bool) (m : Merged) → 1 ≤ m.total
    → plan_merged (too_free count o r) p x p_free x_free m ≡ BackPlan.stop 6
unfolding plan_merged
total_outside count o r p x p_free x_free m h =
    either (λ (q : BackPlan). q ≡ BackPlan.stop 6) (ltb 0 m.length) refl (rw (lt-ltb 0 m.total (omega (arith, h))) refl)

sides_outside : (count o r p x : ℕ) → plan_neighbours (too_free count o r) r p x ≡ BackPlan.stop 6
unfolding plan_neighbours plan_sides merged_of
sides_outside count o r p x =
    let w = too_free count o r in
    let p_free = is_free w.nodes count p in
    let x_free = is_free w.nodes count x in
    total_outside count o r p x p_free x_free (merged_of w r p x p_free x_free) (omega arith)

back_6 : (count : ℕ) (span : Token) → 2 ≤ count → count ≤ edition32.limit → span.number < count
    → (answer_words edition32 (HandBack span) (too_free count span.offset span.number)).0 ≡ refused 6
unfolding behind do_back
back_6 count span low high h =
    let w = too_free count span.offset span.number in
    let stops : plan_back w span ≡ BackPlan.stop 6
    = unfold plan_back in rw (
      marked_live count span.offset span.number h,
      eq-eqb (word w.nodes data_offset span.number) span.offset (marked_starts count span.offset span.number h),
    )
    (sides_outside count span.offset span.number (word w.nodes neighbor_prev span.number) (word w.nodes neighbor_next span.number)) in
    ap (λ (o : Answer × Words). o.0) (call_open edition32 (HandBack span) w (marked_room count span.offset span.number low high))
    ∙ ap (λ (p : BackPlan). (do_back edition32 w span.number p).0) stops

back_gives_8 : (count : ℕ) (span : Token) → 2 ≤ count → count ≤ edition32.limit → span.number < count
    → (answer_words edition32 (HandBack span) (marked count (span.offset + 1) span.number)).0 ≡ refused 8
unfolding behind do_back
back_gives_8 count span low high h =
    let w = marked count (span.offset + 1) span.number in
    let stops : plan_back w span ≡ BackPlan.stop 8
    = unfold plan_back in rw (
      marked_live count (span.offset + 1) span.number h,
      marked_starts count (span.offset + 1) span.number h,
      ne_eqb (span.offset + 1) span.offset (λ e. omega arith),
    ) refl in
    ap (λ (o : Answer × Words). o.0) (call_open edition32 (HandBack span) w (marked_room count (span.offset + 1) span.number low high))
    ∙ ap (λ (p : BackPlan). (do_back edition32 w span.number p).0) stops

-- ---- each number that is named
-- the same number by another name
renumber : (c : Call) {j k : ℕ} → k ≡ j → (w : Words) × ((answer_words edition32 c w).0 ≡ refused j)
    → (w : Words) × ((answer_words edition32 c w).0 ≡ refused k)
renumber c e x = (x.0, x.1 ∙ ap refused (sym e))

renumber_behind : (c : Call) {j k : ℕ} → k ≡ j → GivenBehind c j → GivenBehind c k
renumber_behind c e x = (x.0, x.1, x.2 ∙ ap refused (sym e))

told_behind : (q : Question) (k : ℕ) → (k ≡ 8 → AsksOfAStore q) → OneOf (may_tell q) k → GivenBehind (Ask q) k
unfolding behind
told_behind q k in_store e =
    let x = told_given q k in_store e in
    (x.0, x.1, ap (λ (o : Answer × Words). o.0) (call_open edition32 (Ask q) x.0 x.1) ∙ x.2)

take_behind : (asked : Request) (k : ℕ) → (k ≡ 6 → asked.size ≤ greatest_served) → OneOf (may_give_behind (Take asked)) k → GivenBehind (Take asked) k
take_behind asked k served (inl e) = renumber_behind (Take asked) e (two 0, room 0, (take_3 edition32 (two 0) asked (room 0)).1 refl)
take_behind asked k served (inr (inl e)) = renumber_behind (Take asked) e (two 1, room 1, gives_4 asked)
take_behind asked k served (inr (inr (inl e))) = renumber_behind (Take asked) e (no_units (up asked.size), room 1, take_6 asked (served e))
take_behind asked k served (inr (inr (inr e))) = absurd e

-- a record that is not live gives 5, whatever its number
not_live_5 : (span : Token) → (answer_words edition32 (HandBack span) (two 0)).0 ≡ refused 5
not_live_5 span = (back_5 edition32 (two 0) span (room 0)).1 (not_live 0 span.number)

-- 8 is given to a record that starts one further on
elsewhere_8 : (span : Token) → span.number < edition32.limit → GivenBehind (HandBack span) 8
elsewhere_8 span h = (
  marked edition32.limit (span.offset + 1) span.number,
  marked_room edition32.limit (span.offset + 1) span.number (omega arith) (omega arith),
  back_gives_8 edition32.limit span (omega arith) (omega arith) h,
)

back_behind : (span : Token) (k : ℕ) → span.number < edition32.limit → OneOf (may_give_behind (HandBack span)) k → GivenBehind (HandBack span) k
back_behind span k h (inl e) = renumber_behind (HandBack span) e (two 0, room 0, not_live_5 span)
back_behind span k h (inr (inl e)) = renumber_behind (HandBack span) e (elsewhere_8 span h)
back_behind span k h (inr (inr (inl e))) =
    renumber_behind (HandBack span) e (
      too_free edition32.limit span.offset span.number,
      marked_room edition32.limit span.offset span.number (omega arith) (omega arith),
      back_6 edition32.limit span (omega arith) (omega arith) h,
    )
back_behind span k h (inr (inr (inr e))) = absurd e

given_behind : (c : Call) (k : ℕ) → (k ≡ 8 → OfAStore c) → OneOf (may_give_behind c) k → (w : Words) × ((answer_words edition32 c w).0 ≡ refused k)
given_behind (Take asked) k in_store (inl e) = renumber (Take asked) e (two 0, (take_3 edition32 (two 0) asked (room 0)).1 refl)
given_behind (Take asked) k in_store (inr (inl e)) = renumber (Take asked) e (two 1, gives_4 asked)
given_behind (Take asked) k in_store (inr (inr (inl e))) = renumber (Take asked) e (gives_6 (Take asked))
given_behind (Take asked) k in_store (inr (inr (inr e))) = absurd e
given_behind (HandBack span) k in_store (inl e) = renumber (HandBack span) e (two 0, not_live_5 span)
given_behind (HandBack span) k in_store (inr (inl e)) = let x = elsewhere_8 span (in_store e) in renumber (HandBack span) e (x.0, x.2)
given_behind (HandBack span) k in_store (inr (inr (inl e))) = renumber (HandBack span) e (gives_6 (HandBack span))
given_behind (HandBack span) k in_store (inr (inr (inr e))) = absurd e
given_behind Reset k in_store e = absurd e
given_behind (Ask q) k in_store e = let x = told_behind q k in_store e in (x.0, x.2)

given : (c : Call) (k : ℕ) → (k ≡ 8 → OfAStore c) → OneOf (may_give c) k → (w : Words) × ((answer_words edition32 c w).0 ≡ refused k)
given c k in_store (inl e) = renumber c e (gives_6 c)
given c k in_store (inr (inl e)) = renumber c e (gives_2 c)
given c k in_store (inr (inr e)) = given_behind c k in_store e

five_or_eight : (k : ℕ) → OneOf (5 ∷ 8 ∷ []) k → (k ≡ 5) ⊎ (k ≡ 8)
five_or_eight k (inl e) = inl e
five_or_eight k (inr (inl e)) = inr e
five_or_eight k (inr (inr e)) = absurd e

both_named : (k : ℕ) → (k ≡ 5) ⊎ (k ≡ 8) → OneOf (5 ∷ 8 ∷ []) k
both_named k (inl e) = inl e
both_named k (inr e) = inr (inl e)

-- ---- 8 is given behind an open gate alone, and there to a record below the count, which is at most the limit
opened : (c : Call) (w : Words) → (answer_words edition32 c w).0 ≡ refused 8 → Room edition32 w.count (length w.nodes) (length w.pile)
opened c w e = elim (gated? edition32 6 w.count (length w.nodes) (length w.pile)) [
  | bad_count h g ↦ clash (cc (call_6 edition32 c w h))
  | too_short h g ↦ clash (cc (call_2 edition32 c w h))
  | open_gate h g ↦ h
]

asked_never_8 : (q : Question) (w : Words) → (answer_words edition32 (Ask q) w).0 ≡ refused 8 → AsksOfAStore q
asked_never_8 (SizeOf span) w e =
    let room = opened (Ask (SizeOf span)) w e in omega (arith, ((size_8 edition32 w span room).0 e).0, room.count_high)
asked_never_8 Report w e = tt
asked_never_8 FullReport w e = tt
asked_never_8 Fill w e = tt

never_8 : (c : Call) (w : Words) → (answer_words edition32 c w).0 ≡ refused 8 → OfAStore c
never_8 (Take asked) w e = tt
never_8 (HandBack span) w e = let room = opened (HandBack span) w e in omega (arith, ((back_8 edition32 w span room).0 e).0, room.count_high)
never_8 Reset w e = tt
never_8 (Ask q) w e = asked_never_8 q w e

pub all_given : AllGiven
all_given = record {
  all_given = given;
  reset_never = λ k e. e;
  never_8 = never_8;
  size_query_5_8 = λ span k. (five_or_eight k, both_named k);
  take_behind = take_behind;
  back_behind = back_behind;
  told_behind = told_behind;
  given_behind_means = λ c k x. x;
}

pub every_edition : EveryEdition
every_edition = record {
  every_edition = λ none limit greatest h f.
      (record { none = none; limit = limit; greatest = greatest; small = h; fits = f }, refl, refl, refl);
}
