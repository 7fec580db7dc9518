-- The words of the claims mean what specs/Meanings.antt says. Assumes nothing.
use mathlib.Core.Path.{◌≡◌, refl, ap, subst, fun_ext}
use Prim.Native.Nat.{ℕ, ◌+◌, ◌≤◌, ◌<◌}
use native.Mathlib.Omega.{arith}
use mathlib.Core.Bool.{cond}
use mathlib.Core.Option as option
use mathlib.Core.Logic.{◌↔◌, ◌⊎◌, inl, inr, ◌≢◌}
use mathlib.Core.List.{List, [], ◌∷◌, ◌++◌}
use lib.ListN.{length}
use lib.Dec.{eqb}
use Rattle.basics.specs.Sum.{tally}
use Rattle.basics.proofs.Clash.{clash}
use Rattle.small_float.specs.Class.{down}
use Rattle.basics.proofs.Decided.{Same, same, differ, same?, Below, below, beyond, below?}
use Rattle.ledger.specs.Ledger.{Region, live, free, len, Stacks, on_top, Answer, granted, done, length_is, reported, classes, refused, Ledger, Spot, grant, by_class}
use Rattle.ledger.specs.Calls.{Request, Token, Question, SizeOf, Call, Take, HandBack, Reset, Ask, takes, gives_back, span_of, event}
use Rattle.ledger.specs.Spans.{At, first, later, FreeIn, Among, Disjoint, Leaves, AllLeave}
use Rattle.ledger.specs.History.{Span, note, live_one}
use Rattle.ledger.specs.Stretch.{Stretch, ended, grants, returns, refuses, asks}
use Rattle.ledger.specs.Claims.{CanRefuse, too_few_spares, none_reaches, not_live, elsewhere, unknown, unknown_there}
use Rattle.ledger.specs.Claims.{NoneOrFree, none_there, one_there, Remainder, nothing_left, next_record, OnTop}
use Rattle.ledger.specs.Meanings.{live_records, Inside, Meanings}
use Rattle.ledger.proofs.Places.{Where, here, further, where?, at_none, at_front, at_exactly, split}
use Rattle.ledger.proofs.Numbers.{length_numbers_from, numbers_each}
use Rattle.ledger.proofs.Strikes.{NoneNamed, strikes_one, strikes_no_other}

-- ---- where a region stands
free_in_exactly : (n : ℕ) (line : List Region)
    → FreeIn n line ↔ ((r : ℕ) × (front : List Region) × (back : List Region) × (line ≡ front ++ (free n r ∷ back)))
free_in_exactly n line = (
  λ f. let t = split f.2 in (f.1, t.0, t.1, t.2),
  λ t. (tally len t.1, t.0, rw t.3 (at_front t.1 (free n t.0) t.2)),
)

-- ---- intervals
no_address_in_both : (o n p m : ℕ) → Disjoint o n p m → (a : ℕ) → Inside a o n → ¬ Inside a p m
no_address_in_both o n p m (inl h) a i j = omega (arith, i.1, j.0)
no_address_in_both o n p m (inr h) a i j = omega (arith, i.0, j.1)

no_empty_one_within : (o p m : ℕ) → Disjoint o 0 p m → p < o → p + m ≤ o
no_empty_one_within o p m (inl h) k = absurd (omega arith)
no_empty_one_within o p m (inr h) k = h

disjoint_both_ways : (o n p m : ℕ) → Disjoint o n p m → Disjoint p m o n
disjoint_both_ways o n p m (inl h) = inr h
disjoint_both_ways o n p m (inr h) = inl h

apart_by_address : (o n p m : ℕ) → 1 ≤ n → 1 ≤ m → ((a : ℕ) → Inside a o n → ¬ Inside a p m) → Disjoint o n p m
apart_by_address o n p m h k none = go (below? o p)
  where
    go : Below o p → Disjoint o n p m
    go (below a e) = elim (below? p (o + n)) [
      | below b f ↦ absurd (none p (omega arith, b) (omega arith, omega arith))
      | beyond b f ↦ inl b
    ]
    go (beyond a e) = elim (below? o (p + m)) [
      | below b f ↦ absurd (none o (omega arith, omega arith) (a, b))
      | beyond b f ↦ inr b
    ]

-- ---- calls that leave a span
-- c is neither the hand-back of it nor a reset
abbrev Spares : Token → Call → Type 0
Spares mine c = (c ≢ HandBack mine) × (c ≢ Reset)

leaves_exactly : (mine : Token) (c : Call) → Leaves mine c ↔ Spares mine c
leaves_exactly mine (Take asked) = (λ h. (λ e. clash (cc), λ e. clash (cc)), λ h. tt)
leaves_exactly mine (HandBack span) = (
  λ h. (λ e. let it-is : span ≡ mine = cc in h it-is, λ e. clash (cc)),
  λ h e. h.0 (ap HandBack e),
)
leaves_exactly mine Reset = (λ h. absurd h, λ h. h.1 refl)
leaves_exactly mine (Ask q) = (λ h. (λ e. clash (cc), λ e. clash (cc)), λ h. tt)

abbrev EachLeaves : Token → List Call → Type 0
EachLeaves mine cs = (before after : List Call) (c : Call) → cs ≡ before ++ (c ∷ after) → Spares mine c

each_leaves : (mine : Token) (cs : List Call) → AllLeave mine cs → EachLeaves mine cs
each_leaves mine [] h [] after c e = clash (cc)
each_leaves mine [] h (b ∷ before) after c e = clash (cc)
each_leaves mine (x ∷ cs) h [] after c e = let it-is : x ≡ c = cc in subst (Spares mine) it-is ((leaves_exactly mine x).0 h.0)
each_leaves mine (x ∷ cs) h (b ∷ before) after c e =
    let rest : cs ≡ before ++ (c ∷ after) = cc in each_leaves mine cs h.1 before after c rest

all_leave : (mine : Token) (cs : List Call) → EachLeaves mine cs → AllLeave mine cs
all_leave mine [] h = tt
all_leave mine (x ∷ cs) h = (
  (leaves_exactly mine x).1 (h [] cs x refl),
  all_leave mine cs (λ before after c e. h (x ∷ before) after c (ap {B = List Call} (λ xs. x ∷ xs) e)),
)

-- ---- a stretch
may_end : (own : List Token) → Stretch own [] ↔ (own ≡ [])
may_end own = (nothing_owed own, λ e. rw e ended)
  where
    nothing_owed : (xs : List Token) → Stretch xs [] → xs ≡ []
    nothing_owed xs ended = refl

-- ---- what stands beside a region, what is left of one, what goes on top
one_or_none : {xs : List Region} → NoneOrFree xs → (xs ≡ []) ⊎ ((n : ℕ) × (r : ℕ) × (xs ≡ free n r ∷ []))
one_or_none none_there = inl refl
one_or_none (one_there n r) = inr (n, r, refl)

none_or_free : (xs : List Region) → NoneOrFree xs ↔ ((xs ≡ []) ⊎ ((n : ℕ) × (r : ℕ) × (xs ≡ free n r ∷ [])))
none_or_free xs = (one_or_none, elim [ inl e ↦ rw e none_there | inr x ↦ rw x.2 (one_there x.0 x.1) ])

remainder_of_0 : (pile : List ℕ) (xs : List Region) (rest : List ℕ) → Remainder 0 pile xs rest → (xs ≡ []) × (rest ≡ pile)
remainder_of_0 pile xs rest (nothing_left e) = (refl, refl)
remainder_of_0 pile xs rest (next_record q others h e) = absurd (omega arith)

remainder_above_0 : (left : ℕ) (pile : List ℕ) (xs : List Region) (rest : List ℕ) → 1 ≤ left → Remainder left pile xs rest
    → (q : ℕ) × (pile ≡ q ∷ rest) × (xs ≡ free left q ∷ [])
remainder_above_0 left pile xs rest k (nothing_left e) = absurd (omega arith)
remainder_above_0 left pile xs rest k (next_record q others h e) = (q, e, refl)

one_on_top : (n r : ℕ) (before after : Stacks) → OnTop (free n r ∷ []) before after → after ≡ on_top (down n) r before
unfolding on_top
one_on_top n r before after h = fun_ext (λ c. go c (same? c (down n)))
  where
    go : (c : ℕ) → Same c (down n) → after c ≡ cond (eqb c (down n)) (r ∷ before c) (before c)
    go c (same p e) = rw (e, p) h.0
    go c (differ p e) = rw e (h.1 c p)

-- ---- live regions
live_counted : (line : List Region) → tally live_one line ≡ length (live_records line)
unfolding live_records
live_counted [] = refl
live_counted (live n r ∷ rest) = omega (arith, live_counted rest)
live_counted (free n r ∷ rest) = omega (arith, live_counted rest)

listed_live : (r : ℕ) (line : List Region) → Among r (live_records line) → (n : ℕ) × (o : ℕ) × At (live n r) o line
unfolding live_records
listed_live r [] ([], back, e) = clash (cc)
listed_live r [] (x ∷ front, back, e) = clash (cc)
listed_live r (live n q ∷ rest) ([], back, e) = let number : q ≡ r = cc in (n, 0, rw number first)
listed_live r (live n q ∷ rest) (x ∷ front, back, e) =
    let behind : live_records rest ≡ front ++ (r ∷ back) = cc in
    let t = listed_live r rest (front, back, behind) in
    (t.0, n + t.1, later {y = live n q} t.2)
listed_live r (free n q ∷ rest) a = let t = listed_live r rest a in (t.0, n + t.1, later {y = free n q} t.2)

live_listed : (r : ℕ) (line : List Region) (n o : ℕ) → At (live n r) o line → Among r (live_records line)
unfolding live_records
live_listed r [] n o a = absurd (at_none a)
live_listed r (live m q ∷ rest) n o a = go (where? a) (live_listed r rest n)
  where
    go : Where (live n r) o (live m q) rest → ((p : ℕ) → At (live n r) p rest → Among r (live_records rest)) → Among r (q ∷ live_records rest)
    go (here e z) behind = let number : r ≡ q = cc in ([], live_records rest, rw number)
    go (further p z b) behind = let t = behind p b in (q ∷ t.0, t.1, ap {B = List ℕ} (λ xs. q ∷ xs) t.2)
live_listed r (free m q ∷ rest) n o a = go (where? a) (live_listed r rest n)
  where
    go : Where (live n r) o (free m q) rest → ((p : ℕ) → At (live n r) p rest → Among r (live_records rest)) → Among r (live_records rest)
    go (here e z) behind = clash (cc)
    go (further p z b) behind = behind p b

-- ---- refusals
of_take : {asked : Request} {k : ℕ} → CanRefuse (Take asked) k → (k ≡ 3) ⊎ (k ≡ 4)
of_take too_few_spares = inl refl
of_take none_reaches = inr refl

of_hand_back : {span : Token} {k : ℕ} → CanRefuse (HandBack span) k → (k ≡ 5) ⊎ (k ≡ 8)
of_hand_back not_live = inl refl
of_hand_back elsewhere = inr refl

of_size : {span : Token} {k : ℕ} → CanRefuse (Ask (SizeOf span)) k → (k ≡ 5) ⊎ (k ≡ 8)
of_size unknown = inl refl
of_size unknown_there = inr refl

take_refusals : (asked : Request) (k : ℕ) → CanRefuse (Take asked) k ↔ ((k ≡ 3) ⊎ (k ≡ 4))
take_refusals asked k = (of_take, elim [ inl e ↦ rw e too_few_spares | inr e ↦ rw e none_reaches ])

no_refusals : {q : Question} {k : ℕ} → CanRefuse (Ask q) k → (span : Token) × (q ≡ SizeOf span)
no_refusals (unknown {span = span}) = (span, refl)
no_refusals (unknown_there {span = span}) = (span, refl)

-- ---- the history
refusal_notes_nothing : (c : Call) (k : ℕ) (out : List Span) → note (event c (refused k)) out ≡ out
unfolding note
refusal_notes_nothing (Take asked) k out = refl
refusal_notes_nothing (HandBack span) k out = refl
refusal_notes_nothing Reset k out = refl
refusal_notes_nothing (Ask q) k out = refl

question_notes_nothing : (q : Question) (a : Answer) (out : List Span) → note (event (Ask q) a) out ≡ out
unfolding note
question_notes_nothing q a out = refl

take_notes_grants : (asked : Request) (a : Answer) (out : List Span) → ((o r : ℕ) → a ≢ granted o r) → note (event (Take asked) a) out ≡ out
unfolding note
take_notes_grants asked (granted o r) out h = absurd (h o r refl)
take_notes_grants asked done out h = refl
take_notes_grants asked (length_is n) out h = refl
take_notes_grants asked (reported n m) out h = refl
take_notes_grants asked (classes rows) out h = refl
take_notes_grants asked (refused k) out h = refl

return_notes_done : (span : Token) (a : Answer) (out : List Span) → a ≢ done → note (event (HandBack span) a) out ≡ out
unfolding note
return_notes_done span (granted o r) out h = refl
return_notes_done span done out h = absurd (h refl)
return_notes_done span (length_is n) out h = refl
return_notes_done span (reported n m) out h = refl
return_notes_done span (classes rows) out h = refl
return_notes_done span (refused k) out h = refl

reset_notes_done : (a : Answer) (out : List Span) → a ≢ done → note (event Reset a) out ≡ out
unfolding note
reset_notes_done (granted o r) out h = refl
reset_notes_done done out h = absurd (h refl)
reset_notes_done (length_is n) out h = refl
reset_notes_done (reported n m) out h = refl
reset_notes_done (classes rows) out h = refl
reset_notes_done (refused k) out h = refl

grant_notes_one : (s o r : ℕ) (out : List Span)
    → note (event (takes s) (granted o r)) out ≡ record { offset = o; size = s; number = r } ∷ out
unfolding note
grant_notes_one s o r out = refl

return_strikes_one : (n o r : ℕ) (front back : List Span) → NoneNamed (span_of o r) front
    → note (event (gives_back o r) done) (front ++ (record { offset = o; size = n; number = r } ∷ back)) ≡ front ++ back
unfolding note
return_strikes_one n o r front back h = strikes_one n o r front back h

return_strikes_no_other : (o r : ℕ) (out : List Span) → NoneNamed (span_of o r) out → note (event (gives_back o r) done) out ≡ out
unfolding note
return_strikes_no_other o r out h = strikes_no_other (span_of o r) out h

reset_strikes_all : (out : List Span) → note (event Reset done) out ≡ []
unfolding note
reset_strikes_all out = refl

none_granted : (s : ℕ) (l : Ledger Stacks) → grant by_class s l option.none ≡ (refused 6, l)
unfolding grant
none_granted s l = refl

live_not_granted : (s n r : ℕ) (l : Ledger Stacks) (z : Spot) → z.here ≡ live n r → grant by_class s l (option.some z) ≡ (refused 6, l)
unfolding grant
live_not_granted s n r l z e = rw e refl

pub meanings : Meanings
meanings = record {
  at_exactly = at_exactly;
  free_in_exactly = free_in_exactly;
  no_address_in_both = no_address_in_both;
  no_empty_one_within = no_empty_one_within;
  disjoint_both_ways = disjoint_both_ways;
  apart_by_address = apart_by_address;
  leaves_exactly = λ o r. leaves_exactly (span_of o r);
  all_leave_exactly = λ o r cs. (each_leaves (span_of o r) cs, all_leave (span_of o r) cs);
  may_grant = λ own es asked o r h. grants h;
  may_return = λ own es span h. returns h;
  may_refuse = λ own es c k h. refuses h;
  may_ask = λ own es q a h. asks h;
  may_end = may_end;
  none_or_free = none_or_free;
  remainder_of_0 = remainder_of_0;
  remainder_above_0 = remainder_above_0;
  nothing_on_top = λ before after h. fun_ext h;
  one_on_top = one_on_top;
  live_counted = live_counted;
  live_records_lem = λ r line. (listed_live r line, λ x. live_listed r line x.0 x.1 x.2);
  take_refusals = take_refusals;
  hand_back_refusals = λ span k. (of_hand_back, elim [ inl e ↦ rw e not_live | inr e ↦ rw e elsewhere ]);
  size_refusals = λ span k. (of_size, elim [ inl e ↦ rw e unknown | inr e ↦ rw e unknown_there ]);
  no_refusals = λ q k. no_refusals;
  reset_refusals = λ k. elim [ ];
  numbers_many = λ r n. length_numbers_from n r;
  numbers_each = numbers_each;
  refusal_notes_nothing = refusal_notes_nothing;
  question_notes_nothing = question_notes_nothing;
  take_notes_grants = take_notes_grants;
  return_notes_done = return_notes_done;
  reset_notes_done = reset_notes_done;
  grant_notes_one = grant_notes_one;
  return_strikes_one = return_strikes_one;
  return_strikes_no_other = return_strikes_no_other;
  reset_strikes_all = reset_strikes_all;
  none_granted = none_granted;
  live_not_granted = live_not_granted;
}
