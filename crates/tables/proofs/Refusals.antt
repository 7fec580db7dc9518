-- When setup is refused as 1 and as 2, and every other call as 6 and as 2 before all else, exactly; behind an open gate, when a take gives 3, and a
-- hand-back and a size query 5 and 8; and which numbers a call can give at all: on any words. Assumes nothing.
use mathlib.Core.Path.{◌≡◌, refl, sym, ap, subst, ◌∙◌}
use mathlib.Core.Bool.{Bool, true, false, cond}
use mathlib.Core.Logic.{◌↔◌, ◌⊎◌, inl, inr, ◌≢◌}
use mathlib.Core.List.{List, [], ◌∷◌}
use Prim.Native.Nat.{ℕ, suc, ◌<◌, ◌≤◌}
use native.Mathlib.Omega.{arith}
use lib.ListN.{length}
use lib.Dec.{eqb}
use Rattle.basics.proofs.Clash.{clash}
use Rattle.basics.proofs.Decided.{Same, same, differ, same?, Below, below, beyond, below?}
use Rattle.small_float.specs.Class.{greatest_served, rounded_up}
use Rattle.small_float.proofs.Rounding.{rounded_to_none}
use Rattle.ledger.specs.Ledger.{Answer, done, refused}
use Rattle.ledger.specs.Calls.{Request, Token, SizeOf, Call, Take, HandBack, Reset, Ask}
use Rattle.tables.specs.Layout.{data_offset, neighbor_prev, neighbor_next, used, word}
use Rattle.tables.specs.Words.{Words, Edition}
use Rattle.tables.specs.Gate.{gate, setup_gate, gate_of}
use Rattle.tables.specs.Setup.{Lent, fresh, zeros, setup_words}
use Rattle.tables.specs.Search.{Found, find_for}
use Rattle.tables.specs.Take.{plan_class, plan_take, do_take}
use Rattle.tables.specs.HandBack.{BackPlan, merge, Merged, is_live, plan_neighbours, plan_back, do_back}
use Rattle.tables.specs.Questions.{length_of, told_by}
use Rattle.tables.specs.Calls.{behind, answer_words}
use Rattle.tables.specs.Room.{Room}
use Rattle.tables.specs.Claims.{BadCount, TooShort, TooLarge, OneOf, may_give, NotLive, Elsewhere, may_give_behind}
use Rattle.tables.proofs.Gate.{bad_count, too_short, open_gate, gated?, room_not_bad, room_not_short, short_not_bad, call_open}
use Rattle.tables.proofs.Gate.{SetupCase, count_bad, too_large, table_short, accepted, setup_case, large_not_bad, sizes_pass}
use Rattle.tables.proofs.Gate.{room_opens, call_shut, setup_shut, setup_let_in}
use Rattle.tables.proofs.PlanEnds.{class_ends, take_ends, either, neighbours_ends}
use Rattle.tables.proofs.Questions.{Gives, told_gives, tell_cases}

-- ---- the gate's two refusals
module _ (E : Edition) (bad count nodes pile : ℕ) where
  bad_shuts : BadCount E count → gate E bad count nodes pile ≡ bad
  bad_shuts b = elim (gated? E bad count nodes pile) [
    | bad_count h e ↦ e
    | too_short h e ↦ absurd (short_not_bad E count nodes pile h b)
    | open_gate h e ↦ absurd (room_not_bad E count nodes pile h b)
  ]

  short_shuts : TooShort E count nodes pile → gate E bad count nodes pile ≡ 2
  short_shuts s = elim (gated? E bad count nodes pile) [
    | bad_count h e ↦ absurd (short_not_bad E count nodes pile s h)
    | too_short h e ↦ e
    | open_gate h e ↦ absurd (room_not_short E count nodes pile h s)
  ]

-- ---- setup: what it answers in each case of the gate, and that the answer tells the case
module _ (E : Edition) (size count : ℕ) (lent : Lent) where
  abbrev its_gate : ℕ
  its_gate = setup_gate E size count (length lent.nodes) (length lent.pile)

  abbrev afresh : Answer × Words
  afresh = (done, fresh E size count lent.nodes lent.pile)

  case_of : SetupCase E size count (length lent.nodes) (length lent.pile)
  case_of = setup_case E size count (length lent.nodes) (length lent.pile)

  opens : its_gate ≡ 0 → setup_words E size count lent ≡ afresh
  opens e = sym (setup_let_in E size count lent e refl)

  shut : (k : ℕ) → its_gate ≡ suc k → setup_words E size count lent ≡ (refused (suc k), zeros lent)
  shut k e = sym (setup_shut E size count lent (omega arith) e)

  pub setup_opens : size ≤ E.greatest → Room E count (length lent.nodes) (length lent.pile) → setup_words E size count lent ≡ afresh
  setup_opens fits h = opens
      (sizes_pass E size count (length lent.nodes) (length lent.pile) fits
      ∙ room_opens E 1 count (length lent.nodes) (length lent.pile) h)

  -- what the answer tells of each case, once the case is known
  answer_of : {a : Answer} {o : Answer × Words} → setup_words E size count lent ≡ o → (setup_words E size count lent).0 ≡ a → o.0 ≡ a
  answer_of e f = sym (ap (λ (o : Answer × Words). o.0) e) ∙ f

  gives : {o : Answer × Words} → setup_words E size count lent ≡ o → (setup_words E size count lent).0 ≡ o.0
  gives e = ap (λ (o : Answer × Words). o.0) e

  other_number : {j k : ℕ} → j ≢ k → refused j ≡ refused k → ⊥
  other_number h e = h (cc)

  never_done : {k : ℕ} → refused k ≡ done → ⊥
  never_done e = let z : ◌≡◌ {A = ℕ} 0 1 = cc in omega arith

  pub setup_1 : ((setup_words E size count lent).0 ≡ refused 1) ↔ BadCount E count
  setup_1 = elim case_of [
    | count_bad h e ↦ (λ a. h, λ b. gives (shut 0 e))
    | too_large h e ↦ (λ a. absurd (other_number (omega arith) (answer_of (shut 9 e) a)), λ b. absurd (large_not_bad E size count h b))
    | table_short f h e ↦ (
      λ a. absurd (other_number (omega arith) (answer_of (shut 1 e) a)),
      λ b. absurd (short_not_bad E count (length lent.nodes) (length lent.pile) h b),
    )
    | accepted f h e ↦ (
      λ a. absurd (never_done (sym (answer_of (opens e) a))),
      λ b. absurd (room_not_bad E count (length lent.nodes) (length lent.pile) h b),
    )
  ]

  pub setup_10 : ((setup_words E size count lent).0 ≡ refused 10) ↔ TooLarge E size count
  setup_10 = elim case_of [
    | count_bad h e ↦ (λ a. absurd (other_number (omega arith) (answer_of (shut 0 e) a)), λ b. absurd (large_not_bad E size count b h))
    | too_large h e ↦ (λ a. h, λ b. gives (shut 9 e))
    | table_short f h e ↦ (λ a. absurd (other_number (omega arith) (answer_of (shut 1 e) a)), λ b. absurd (omega (arith, b.1)))
    | accepted f h e ↦ (λ a. absurd (never_done (sym (answer_of (opens e) a))), λ b. absurd (omega (arith, b.1)))
  ]

  pub setup_2 : ((setup_words E size count lent).0 ≡ refused 2)
      ↔ ((size ≤ E.greatest) × TooShort E count (length lent.nodes) (length lent.pile))
  setup_2 = elim case_of [
    | count_bad h e ↦ (
      λ a. absurd (other_number (omega arith) (answer_of (shut 0 e) a)),
      λ b. absurd (short_not_bad E count (length lent.nodes) (length lent.pile) b.1 h),
    )
    | too_large h e ↦ (λ a. absurd (other_number (omega arith) (answer_of (shut 9 e) a)), λ b. absurd (omega (arith, b.0, h.1)))
    | table_short f h e ↦ (λ a. (f, h), λ b. gives (shut 1 e))
    | accepted f h e ↦ (
      λ a. absurd (never_done (sym (answer_of (opens e) a))),
      λ b. absurd (room_not_short E count (length lent.nodes) (length lent.pile) h b.1),
    )
  ]

  pub setup_done : ((setup_words E size count lent).0 ≡ done)
      ↔ ((size ≤ E.greatest) × Room E count (length lent.nodes) (length lent.pile))
  setup_done = elim case_of [
    | count_bad h e ↦ (
      λ a. absurd (never_done (answer_of (shut 0 e) a)),
      λ b. absurd (room_not_bad E count (length lent.nodes) (length lent.pile) b.1 h),
    )
    | too_large h e ↦ (λ a. absurd (never_done (answer_of (shut 9 e) a)), λ b. absurd (omega (arith, b.0, h.1)))
    | table_short f h e ↦ (
      λ a. absurd (never_done (answer_of (shut 1 e) a)),
      λ b. absurd (room_not_short E count (length lent.nodes) (length lent.pile) b.1 h),
    )
    | accepted f h e ↦ (λ a. (f, h), λ b. gives (opens e))
  ]

  pub setup_refused : (k : ℕ) → (setup_words E size count lent).0 ≡ refused k → (setup_words E size count lent).1 ≡ zeros lent
  setup_refused k a = elim case_of [
    | count_bad h e ↦ ap (λ (o : Answer × Words). o.1) (shut 0 e)
    | too_large h e ↦ ap (λ (o : Answer × Words). o.1) (shut 9 e)
    | table_short f h e ↦ ap (λ (o : Answer × Words). o.1) (shut 1 e)
    | accepted f h e ↦ absurd (never_done (sym (answer_of (opens e) a)))
  ]

  pub setup_numbers : (k : ℕ) → (setup_words E size count lent).0 ≡ refused k → OneOf (1 ∷ 10 ∷ 2 ∷ []) k
  setup_numbers k a = elim case_of [
    | count_bad h e ↦ at (inl refl) (answer_of (shut 0 e) a)
    | too_large h e ↦ at (inr (inl refl)) (answer_of (shut 9 e) a)
    | table_short f h e ↦ at (inr (inr (inl refl))) (answer_of (shut 1 e) a)
    | accepted f h e ↦ absurd (never_done (sym (answer_of (opens e) a)))
  ]
    where
      at : {j : ℕ} → OneOf (1 ∷ 10 ∷ 2 ∷ []) j → refused j ≡ refused k → OneOf (1 ∷ 10 ∷ 2 ∷ []) k
      at {j} h q = let same_number : j ≡ k = cc in subst (λ (n : ℕ). OneOf (1 ∷ 10 ∷ 2 ∷ []) n) same_number h

-- ---- every other call
pub call_6 : (E : Edition) (c : Call) (w : Words) → BadCount E w.count → answer_words E c w ≡ (refused 6, w)
unfolding gate_of
call_6 E c w h = sym (call_shut E c w (omega arith) (bad_shuts E 6 w.count (length w.nodes) (length w.pile) h))

pub call_2 : (E : Edition) (c : Call) (w : Words) → TooShort E w.count (length w.nodes) (length w.pile)
    → answer_words E c w ≡ (refused 2, w)
unfolding gate_of
call_2 E c w h = sym (call_shut E c w (omega arith) (short_shuts E 6 w.count (length w.nodes) (length w.pile) h))

-- ---- which numbers a call gives behind an open gate
given : (ns : List ℕ) (a : Answer) (k : ℕ) → Gives ns a → a ≡ refused k → OneOf ns k
given ns a k h e = subst (λ (x : Answer). Gives ns x) e h

back_ends : (w : Words) (span : Token) (P : BackPlan → Type 0) → P (BackPlan.stop 5) → P (BackPlan.stop 8) → P (BackPlan.stop 6)
    → ((p x : ℕ) (p_free x_free : Bool) (m : Merged) → P (merge p x p_free x_free m)) → P (plan_back w span)
unfolding plan_back
back_ends w span P at_5 at_8 at-6 at-merge =
    either P (is_live w.nodes w.count span.number)
    (either P (eqb (word w.nodes data_offset span.number) span.offset)
    (neighbours_ends w span.number P at-6 at-merge (word w.nodes neighbor_prev span.number) (word w.nodes neighbor_next span.number))
    at_8)
    at_5

module _ (E : Edition) (w : Words) where
  -- once there are spares, a take does not give 3
  class_gives : (s : ℕ) (found : Found) → Gives (4 ∷ 6 ∷ []) (do_take E w s (plan_class w s found)).0
  unfolding do_take
  class_gives s found =
      class_ends w s (λ p. Gives (4 ∷ 6 ∷ []) (do_take E w s p).0) (inl refl) (inr (inl refl)) (λ c r o. tt) (λ c r o rest m. tt) found

  take_gives : (s : ℕ) → Gives (3 ∷ 4 ∷ 6 ∷ []) (do_take E w s (plan_take w s)).0
  unfolding do_take
  take_gives s =
      take_ends w s (λ p. Gives (3 ∷ 4 ∷ 6 ∷ []) (do_take E w s p).0) (inl refl) (inr (inl refl)) (inr (inr (inl refl)))
      (λ c r o. tt) (λ c r o rest m. tt)

  -- of a live record, a hand-back does not give 5
  neighbours_give : (r p x : ℕ) → Gives (6 ∷ []) (do_back E w r (plan_neighbours w r p x)).0
  unfolding do_back
  neighbours_give r p x =
      neighbours_ends w r (λ b. Gives (6 ∷ []) (do_back E w r b).0) (inl refl) (λ p x p_free x_free m. tt) p x

  back_gives : (span : Token) → Gives (5 ∷ 8 ∷ 6 ∷ []) (do_back E w span.number (plan_back w span)).0
  unfolding do_back
  back_gives span =
      back_ends w span (λ p. Gives (5 ∷ 8 ∷ 6 ∷ []) (do_back E w span.number p).0) (inl refl) (inr (inl refl)) (inr (inr (inl refl)))
      (λ p x p_free x_free m. tt)

  behind_gives : (c : Call) → Gives (may_give_behind c) (behind E c w).0
  unfolding behind
  behind_gives (Take asked) = take_gives asked.size
  behind_gives (HandBack span) = back_gives span
  behind_gives Reset = tt
  behind_gives (Ask q) = told_gives w q

pub numbers_behind : (E : Edition) (c : Call) (w : Words) → Room E w.count (length w.nodes) (length w.pile)
    → (k : ℕ) → (answer_words E c w).0 ≡ refused k → OneOf (may_give_behind c) k
numbers_behind E c w room k e = given (may_give_behind c) (behind E c w).0 k (behind_gives E w c) (rw (call_open E c w room) at e)

-- ---- behind an open gate no call gives 2
without_2 : (c : Call) → OneOf (may_give_behind c) 2 → ⊥
without_2 (Take asked) (inl e) = omega arith
without_2 (Take asked) (inr (inl e)) = omega arith
without_2 (Take asked) (inr (inr (inl e))) = omega arith
without_2 (Take asked) (inr (inr (inr e))) = e
without_2 (HandBack span) (inl e) = omega arith
without_2 (HandBack span) (inr (inl e)) = omega arith
without_2 (HandBack span) (inr (inr (inl e))) = omega arith
without_2 (HandBack span) (inr (inr (inr e))) = e
without_2 Reset e = e
without_2 (Ask q) e = elim (tell_cases q 2 e) [ inl span's ↦ not_spans span's.0 | inr six ↦ omega arith ]
  where
    not_spans : ◌≡◌ {A = ℕ} 2 5 ⊎ ◌≡◌ {A = ℕ} 2 8 → ⊥
    not_spans (inl x) = omega arith
    not_spans (inr x) = omega arith

pub not_2 : (E : Edition) (c : Call) (w : Words) → Room E w.count (length w.nodes) (length w.pile)
    → ¬ ((answer_words E c w).0 ≡ refused 2)
not_2 E c w room e = without_2 c (numbers_behind E c w room 2 e)

-- ---- which numbers a call can give at all
pub numbers : (E : Edition) (c : Call) (w : Words) (k : ℕ) → (answer_words E c w).0 ≡ refused k → OneOf (may_give c) k
numbers E c w k e = elim (gated? E 6 w.count (length w.nodes) (length w.pile)) [
  | bad_count h g ↦ at (inl refl) (call_6 E c w h)
  | too_short h g ↦ at (inr (inl refl)) (call_2 E c w h)
  | open_gate h g ↦ inr (inr (numbers_behind E c w h k e))
]
  where
    at : {j : ℕ} → OneOf (may_give c) j → answer_words E c w ≡ (refused j, w) → OneOf (may_give c) k
    at {j} h q = let same_number : j ≡ k = cc in subst (λ (n : ℕ). OneOf (may_give c) n) same_number h

-- ---- 3, 5 and 8, behind an open gate: exactly when
not_3 : OneOf (4 ∷ 6 ∷ []) 3 → ⊥
not_3 (inl e) = omega arith
not_3 (inr (inl e)) = omega arith
not_3 (inr (inr e)) = e

only_6 : (k : ℕ) → k ≢ 6 → OneOf (6 ∷ []) k → ⊥
only_6 k h (inl e) = h e
only_6 k h (inr e) = e

spare_told : (E : Edition) (w : Words) (s : ℕ) → Same w.free_offset 0 → (do_take E w s (plan_take w s)).0 ≡ refused 3 → w.free_offset ≡ 0
unfolding plan_take
spare_told E w s (same e t) a = e
spare_told E w s (differ e t) a =
    absurd (not_3 (given (4 ∷ 6 ∷ []) _ 3 (class_gives E w s (find_for w.used_bins w.used_bins_top (rounded_up s))) (rw t at a)))

spare_gives : (E : Edition) (w : Words) (s : ℕ) → Same w.free_offset 0 → w.free_offset ≡ 0 → (do_take E w s (plan_take w s)).0 ≡ refused 3
unfolding plan_take do_take
spare_gives E w s (same e t) h = rw t refl
spare_gives E w s (differ e t) h = absurd (e h)

pub take_3 : (E : Edition) (w : Words) (asked : Request) → Room E w.count (length w.nodes) (length w.pile)
    → ((answer_words E (Take asked) w).0 ≡ refused 3) ↔ (w.free_offset ≡ 0)
unfolding behind
take_3 E w asked room =
    rw (call_open E (Take asked) w room)
    (spare_told E w asked.size (same? w.free_offset 0), spare_gives E w asked.size (same? w.free_offset 0))

-- of a size without a class it is 3 or 4, whatever the bits say
pub take_no_class : (E : Edition) (w : Words) (asked : Request) → greatest_served < asked.size → Room E w.count (length w.nodes) (length w.pile)
    → answer_words E (Take asked) w ≡ (refused (cond (eqb w.free_offset 0) 3 4), w)
unfolding behind plan_take plan_class do_take find_for
take_no_class E w asked h room = call_open E (Take asked) w room ∙ rw (rounded_to_none asked.size h) (elim (same? w.free_offset 0) [
  | same e t ↦ rw t refl
  | differ e t ↦ rw t refl
])

-- what a span names, by the words: no live record; a live one that starts elsewhere; or one that starts there
data Named (w : Words) (span : Token) : Type 0 where
  dead : NotLive w span.number → is_live w.nodes w.count span.number ≡ false → Named w span
  astray : Elsewhere w span → is_live w.nodes w.count span.number ≡ true
      → eqb (word w.nodes data_offset span.number) span.offset ≡ false → Named w span
  there : word w.nodes data_offset span.number ≡ span.offset → (NotLive w span.number → ⊥)
      → is_live w.nodes w.count span.number ≡ true → eqb (word w.nodes data_offset span.number) span.offset ≡ true → Named w span

-- a record that is live is not one that is not
not_both : (w : Words) (span : Token) → span.number < w.count → word w.nodes used span.number ≢ 0 → NotLive w span.number → ⊥
not_both w span l e (inl h) = omega arith
not_both w span l e (inr h) = e h

named? : (w : Words) (span : Token) → Named w span
unfolding is_live
named? w span =
    go (below? span.number w.count) (same? (word w.nodes used span.number) 0)
    (same? (word w.nodes data_offset span.number) span.offset)
  where
    go : Below span.number w.count → Same (word w.nodes used span.number) 0
        → Same (word w.nodes data_offset span.number) span.offset → Named w span
    go (beyond l t) x y = dead (inl l) (rw t)
    go (below l t) (same e z) y = dead (inr e) (rw (t, z))
    go (below l t) (differ e z) (differ f u) = astray (l, e, f) (rw (t, z)) u
    go (below l t) (differ e z) (same f u) = there f (not_both w span l e) (rw (t, z)) u

-- 5 exactly if no live record is named, 8 exactly if it starts elsewhere
abbrev FiveAndEight : Answer → (w : Words) → Token → Type 0
FiveAndEight a w span = ((a ≡ refused 5) ↔ NotLive w span.number) × ((a ≡ refused 8) ↔ Elsewhere w span)

-- so it is of an answer that goes by the two tests
named_tells : (w : Words) (span : Token) (a : Answer) → Named w span
    → (is_live w.nodes w.count span.number ≡ false → a ≡ refused 5)
    → (is_live w.nodes w.count span.number ≡ true → eqb (word w.nodes data_offset span.number) span.offset ≡ false → a ≡ refused 8)
    → (is_live w.nodes w.count span.number ≡ true → eqb (word w.nodes data_offset span.number) span.offset ≡ true
    → (a ≢ refused 5) × (a ≢ refused 8))
    → FiveAndEight a w span
named_tells w span a (dead h t) at_5 at_8 at_none = (
  (λ e. h, λ x. at_5 t),
  (λ e. clash (cc (at_5 t)), λ x. absurd (not_both w span x.0 x.1 h)),
)
named_tells w span a (astray h t u) at_5 at_8 at_none = (
  (λ e. clash (cc (at_8 t u)), λ x. absurd (not_both w span h.0 h.1 x)),
  (λ e. h, λ x. at_8 t u),
)
named_tells w span a (there p h t u) at_5 at_8 at_none = (
  (λ e. absurd ((at_none t u).0 e), λ x. absurd (h x)),
  (λ e. absurd ((at_none t u).1 e), λ x. absurd (x.2 p)),
)

back_named : (E : Edition) (w : Words) (span : Token) → FiveAndEight (do_back E w span.number (plan_back w span)).0 w span
unfolding plan_back do_back
back_named E w span = named_tells w span (do_back E w span.number (plan_back w span)).0 (named? w span)
    (λ t. rw t refl) (λ t u. rw (t, u) refl)
    (λ t u. (
      λ a. only_6 5 (λ e. omega arith) (given (6 ∷ []) _ 5 gives (rw (t, u) at a)),
      λ a. only_6 8 (λ e. omega arith) (given (6 ∷ []) _ 8 gives (rw (t, u) at a)),
    ))
  where
    gives : Gives (6 ∷ []) (do_back E w span.number
        (plan_neighbours w span.number (word w.nodes neighbor_prev span.number) (word w.nodes neighbor_next span.number))).0
    gives = neighbours_give E w span.number (word w.nodes neighbor_prev span.number) (word w.nodes neighbor_next span.number)

size_named : (w : Words) (span : Token) → FiveAndEight (length_of w span) w span
unfolding length_of
size_named w span = named_tells w span (length_of w span) (named? w span)
    (λ t. rw t refl) (λ t u. rw (t, u) refl) (λ t u. (λ a. clash (cc (rw (t, u) at a)), λ a. clash (cc (rw (t, u) at a))))

module _ (E : Edition) (w : Words) (span : Token) (room : Room E w.count (length w.nodes) (length w.pile)) where
  back_both : FiveAndEight (answer_words E (HandBack span) w).0 w span
  unfolding behind
  back_both = rw (call_open E (HandBack span) w room) (back_named E w span)

  size_both : FiveAndEight (answer_words E (Ask (SizeOf span)) w).0 w span
  unfolding behind told_by
  size_both = rw (call_open E (Ask (SizeOf span)) w room) (size_named w span)

  pub back_5 : ((answer_words E (HandBack span) w).0 ≡ refused 5) ↔ NotLive w span.number
  back_5 = back_both.0

  pub back_8 : ((answer_words E (HandBack span) w).0 ≡ refused 8) ↔ Elsewhere w span
  back_8 = back_both.1

  pub size_5 : ((answer_words E (Ask (SizeOf span)) w).0 ≡ refused 5) ↔ NotLive w span.number
  size_5 = size_both.0

  pub size_8 : ((answer_words E (Ask (SizeOf span)) w).0 ≡ refused 8) ↔ Elsewhere w span
  size_8 = size_both.1
