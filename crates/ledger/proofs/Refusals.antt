-- When a call on a ledger in order is refused, with which number, and that it then changes nothing. Assumes nothing.
use Rattle.ledger.specs.Ledger.{Engine, Ledger, take, hand_back, size_of, Region, len, live, free, length_is, refused}
use Rattle.ledger.specs.Laws.{Laws}
use mathlib.Core.Path.{◌≡◌, refl, sym, ap, ◌∙◌, subst}
use Prim.Native.Nat.{ℕ, ◌^◌, ◌≤◌, ◌<◌}
use native.Mathlib.Omega.{arith}
use mathlib.Core.Logic.{◌↔◌, ◌⊎◌, inl, inr}
use mathlib.Core.Option.{none}
use mathlib.Core.List.{List, ◌∷◌, ◌++◌}
use lib.ListN.{length}
use Rattle.basics.specs.Sum.{tally}
use Rattle.basics.proofs.Clash.{clash}
use Rattle.basics.proofs.Decided.{Below, below, beyond, below?}
use Rattle.ledger.specs.Calls.{answer, Call}
use Rattle.ledger.specs.WellFormed.{WellFormed}
use Rattle.ledger.specs.Spans.{At}
use Rattle.ledger.specs.Claims.{Granted, Refused, NoneReaches, Live, LiveElsewhere, CanRefuse}
use Rattle.ledger.proofs.Places.{Between, between_at, at_front, split, same_region, same_place}
use Rattle.ledger.proofs.Records.{once_in_line, record_below}
use Rattle.ledger.proofs.Cases.{TakeCase, few_spares, no_region, serves, take_case}
use Rattle.ledger.proofs.Cases.{LiveCase, is_live_case, is_elsewhere, not_live, live_case}
use Rattle.ledger.proofs.Outcomes.{CallCase, refuses, cuts, merges, resets, asks, call_case}
use Rattle.ledger.proofs.Questions.{told_refused}

module _ (E : Engine) (laws : Laws E) where
  -- ---- take
  module _ (size count : ℕ) where
    pub refusal_3 : (s : ℕ) (l : Ledger E.Index) → WellFormed E size count l → ((take E s l).0 ≡ refused 3) ↔ (length l.pile ≤ 1)
    refusal_3 s l w = go (take_case E laws w s)
      where
        go : TakeCase E s l → ((take E s l).0 ≡ refused 3) ↔ (length l.pile ≤ 1)
        go (few_spares h e) = (λ x. h, λ x. ap (λ a. a.0) e)
        go (no_region h k e) = (λ x. clash (cc), λ x. absurd (omega arith))
        go (serves t) = (λ x. clash (cc t.outcome), λ x. absurd (omega (arith, t.two_spare)))

    pub refusal_4 : size < 2 ^ 32 → (s : ℕ) (l : Ledger E.Index) → WellFormed E size count l
        → ((take E s l).0 ≡ refused 4) ↔ ((2 ≤ length l.pile) × NoneReaches E s l)
    refusal_4 small s l w = go (take_case E laws w s)
      where
        none_of : E.choose s l.line l.index ≡ none → NoneReaches E s l
        none_of m = laws.fails s l.line l.index w.kept (omega (arith, w.lined.cover)) m

        go : TakeCase E s l → ((take E s l).0 ≡ refused 4) ↔ ((2 ≤ length l.pile) × NoneReaches E s l)
        go (few_spares h e) = (λ x. clash (cc), λ x. absurd (omega arith))
        go (no_region h empty e) = (λ x. (h, none_of empty), λ x. ap (λ a. a.0) e)
        go (serves t) = (
          λ x. clash (cc t.outcome),
          λ x. absurd (omega (arith, x.1 t.n (_, _, between_at t.place), t.reaching)),
        )

    pub refused_exactly : size < 2 ^ 32 → (s : ℕ) (l : Ledger E.Index) → WellFormed E size count l
        → Refused E s l ↔ ((length l.pile ≤ 1) ⊎ NoneReaches E s l)
    refused_exactly small s l w = (why (take_case E laws w s), then (below? 1 (length l.pile)))
      where
        why : TakeCase E s l → Refused E s l → (length l.pile ≤ 1) ⊎ NoneReaches E s l
        why (few_spares h e) x = inl h
        why (no_region h empty e) x = inr ((refusal_4 small s l w).0 (ap (λ a. a.0) e)).1
        why (serves t) x = clash (cc (t.outcome, x.1))

        then : Below 1 (length l.pile) → (length l.pile ≤ 1) ⊎ NoneReaches E s l → Refused E s l
        then b (inl h) = (3, (refusal_3 s l w).1 h)
        then (below h e) (inr out) = (4, (refusal_4 small s l w).1 (h, out))
        then (beyond h e) (inr out) = (3, (refusal_3 s l w).1 h)

    pub granted_or_refused : (s : ℕ) (l : Ledger E.Index) → WellFormed E size count l → Granted E s l ⊎ Refused E s l
    granted_or_refused s l w = go (take_case E laws w s)
      where
        go : TakeCase E s l → Granted E s l ⊎ Refused E s l
        go (few_spares h e) = inr (3, ap (λ a. a.0) e)
        go (no_region h empty e) = inr (4, ap (λ a. a.0) e)
        go (serves t) = inl (_, _, ap (λ a. a.0) t.outcome)

    pub not_both : (s : ℕ) (l : Ledger E.Index) → Granted E s l → ¬ Refused E s l
    not_both s l g x = clash (cc (g.2, x.1))

    pub none_reaches_exactly : (s : ℕ) (l : Ledger E.Index)
        → NoneReaches E s l ↔ (¬ ((n : ℕ) × (r : ℕ) × (o : ℕ) × At (free n r) o l.line × (E.need s ≤ E.rank n)))
    none_reaches_exactly s l = (
      λ none x. omega (arith, none x.0 (x.2, x.1, x.3), x.4),
      λ none n f. elim (below? (E.rank n) (E.need s)) [ below h e ↦ h | beyond h e ↦ absurd (none (n, f.1, f.0, f.2, h)) ],
    )

    -- ---- hand back and the size query
    pub live_exactly : (r : ℕ) (l : Ledger E.Index)
        → Live r l ↔ ((n : ℕ) × (front : List Region) × (back : List Region) × (l.line ≡ front ++ (live n r ∷ back)))
    live_exactly r l = (
      λ v. let t = split v.2 in (v.0, t.0, t.1, t.2),
      λ t. (t.0, tally len t.1, rw t.3 (at_front t.1 (live t.0 r) t.2)),
    )

    pub size_told : (n r o : ℕ) (l : Ledger E.Index) → WellFormed E size count l → At (live n r) o l.line → size_of o r l ≡ length_is n
    size_told n r o l w a = go (live_case E w o r)
      where
        go : LiveCase E o r l → size_of o r l ≡ length_is n
        go (not_live h e q) = absurd (h (n, o, a))
        go (is_elsewhere m before after b p e q) = absurd (p (same_place (between_at b) a r refl refl (once_in_line w.lined r)).1)
        go (is_live_case m before after b p e q) =
            let both : live m r ≡ live n r = same_region (between_at b) a r refl refl (once_in_line w.lined r) in
            let lengths : m ≡ n = cc in
            q ∙ ap length_is lengths

    pub refusal_5 : (o r : ℕ) (l : Ledger E.Index) → WellFormed E size count l → ((hand_back E o r l).0 ≡ refused 5) ↔ (¬ Live r l)
    refusal_5 o r l w = go (live_case E w o r)
      where
        go : LiveCase E o r l → ((hand_back E o r l).0 ≡ refused 5) ↔ (¬ Live r l)
        go (not_live h e q) = (λ x. h, λ x. ap (λ a. a.0) e)
        go (is_elsewhere n before after b p e q) = (λ x. clash (cc), λ x. absurd (x (n, _, between_at b)))
        go (is_live_case n before after b p e q) = (λ x. clash (cc), λ x. absurd (x (n, _, between_at b)))

    pub size_refusal_5 : (o r : ℕ) (l : Ledger E.Index) → WellFormed E size count l → (size_of o r l ≡ refused 5) ↔ (¬ Live r l)
    size_refusal_5 o r l w = go (live_case E w o r)
      where
        go : LiveCase E o r l → (size_of o r l ≡ refused 5) ↔ (¬ Live r l)
        go (not_live h e q) = (λ x. h, λ x. q)
        go (is_elsewhere n before after b p e q) = (λ x. clash (cc), λ x. absurd (x (n, _, between_at b)))
        go (is_live_case n before after b p e q) = (λ x. clash (cc), λ x. absurd (x (n, _, between_at b)))

    -- one record starts at one place
    one_place : {o r n : ℕ} {before after : List Region} {l : Ledger E.Index} → WellFormed E size count l
        → Between before (live n r) after l.line → tally len before ≡ o → ¬ LiveElsewhere o r l
    one_place {r = r} w b p x = x.3 (sym (same_place (between_at b) x.2 r refl refl (once_in_line w.lined r)).1 ∙ p)

    pub refusal_8 : (o r : ℕ) (l : Ledger E.Index) → WellFormed E size count l → ((hand_back E o r l).0 ≡ refused 8) ↔ LiveElsewhere o r l
    refusal_8 o r l w = go (live_case E w o r)
      where
        go : LiveCase E o r l → ((hand_back E o r l).0 ≡ refused 8) ↔ LiveElsewhere o r l
        go (not_live h e q) = (λ x. clash (cc), λ x. absurd (h (x.0, x.1, x.2)))
        go (is_elsewhere n before after b p e q) = (λ x. (n, tally len before, between_at b, p), λ x. ap (λ a. a.0) e)
        go (is_live_case n before after b p e q) = (λ x. clash (cc), λ x. absurd (one_place w b p x))

    pub size_refusal_8 : (o r : ℕ) (l : Ledger E.Index) → WellFormed E size count l → (size_of o r l ≡ refused 8) ↔ LiveElsewhere o r l
    size_refusal_8 o r l w = go (live_case E w o r)
      where
        go : LiveCase E o r l → (size_of o r l ≡ refused 8) ↔ LiveElsewhere o r l
        go (not_live h e q) = (λ x. clash (cc), λ x. absurd (h (x.0, x.1, x.2)))
        go (is_elsewhere n before after b p e q) = (λ x. (n, tally len before, between_at b, p), λ x. q)
        go (is_live_case n before after b p e q) = (λ x. clash (cc), λ x. absurd (one_place w b p x))

    pub live_below : (r : ℕ) (l : Ledger E.Index) → WellFormed E size count l → Live r l → r < count
    live_below r l w h = record_below w.lined h.2

    -- ---- all calls
    pub no_other : (c : Call) (k : ℕ) (l : Ledger E.Index) → WellFormed E size count l → (answer E size count c l).0 ≡ refused k → CanRefuse c k
    unfolding answer
    no_other c k l w x = go x (call_case E laws size count w c)
      where
        go : {c : Call} → (answer E size count c l).0 ≡ refused k → CallCase E size count l c → CanRefuse c k
        go {c} x (refuses j h e) = let number : j ≡ k = cc in subst (CanRefuse c) number h
        go x (cuts t e) = clash (cc)
        go x (merges n before after b p e) = clash (cc)
        go x resets = clash (cc)
        go x (asks {q = q}) = told_refused E size count q k l w x

    pub refused_same : (c : Call) (k : ℕ) (l : Ledger E.Index) → WellFormed E size count l
        → (answer E size count c l).0 ≡ refused k → (answer E size count c l).1 ≡ l
    unfolding answer
    refused_same c k l w x = go x (call_case E laws size count w c)
      where
        go : {c : Call} → (answer E size count c l).0 ≡ refused k → CallCase E size count l c → (answer E size count c l).1 ≡ l
        go x (refuses j h e) = ap (λ a. a.1) e
        go x (cuts t e) = clash (cc)
        go x (merges n before after b p e) = clash (cc)
        go x resets = clash (cc)
        go x asks = refl
