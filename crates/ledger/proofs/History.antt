-- The spans that are out by the history are the live regions, so with the free lengths they make the size. Assumes nothing.
use Rattle.ledger.specs.Ledger.{Engine, Ledger, setup, report, cut, merge, Region, live, free, len, free_len, Answer, refused}
use Rattle.ledger.specs.Laws.{Laws}
use mathlib.Core.Path.{◌≡◌, refl, sym, ap, ◌∙◌, subst}
use Prim.Native.Nat.{ℕ, ◌+◌, ◌-◌, ◌≤◌}
use native.Mathlib.Omega.{arith}
use mathlib.Core.Bool.{◌&&◌}
use mathlib.Core.Logic.{◌↔◌, ◌≢◌}
use mathlib.Core.List.{List, [], ◌∷◌, ◌++◌}
use lib.ListN.{length}
use lib.Dec.{eqb}
use Rattle.basics.specs.Sum.{one, tally}
use Rattle.basics.proofs.Decided.{Same, same, differ, same?, eqb_same}
use Rattle.basics.proofs.Sums.{tally_le, both_first}
use Rattle.ledger.specs.Calls.{Token, span_of, answer, end, log, Call, Take, HandBack, Reset, Ask, event}
use Rattle.ledger.specs.WellFormed.{WellFormed, has}
use Rattle.ledger.specs.Spans.{At, Leaves}
use Rattle.ledger.specs.History.{Span, strike, note, out_after, IsOut}
use Rattle.ledger.proofs.Places.{Between, between_at, same_place, sum_at, at_weighs}
use Rattle.ledger.proofs.Records.{once_in_line}
use Rattle.ledger.proofs.LiveSums.{cut_adds, merge_takes}
use Rattle.ledger.proofs.Outcomes.{CallCase, refuses, cuts, merges, resets, asks, call_case}
use Rattle.ledger.proofs.CallsWell.{setup_well, call_well, end_well}
use Rattle.ledger.proofs.Stays.{call_leaves}
use Rattle.ledger.proofs.Grants.{cut_at}
use Rattle.ledger.proofs.Strikes.{Named, named, another, named?}
use Rattle.ledger.proofs.ReportRule.{report_free}

module _ (E : Engine) (laws : Laws E) where
  -- ---- live regions and spans, weighed alike: by length and record
  abbrev of_region : (ℕ → ℕ → ℕ) → Region → ℕ
  of_region weight (live n r) = weight n r
  of_region weight (free n r) = 0

  abbrev of_span : (ℕ → ℕ → ℕ) → Span → ℕ
  of_span weight x = weight x.size x.number

  -- something holds of each span of a list
  abbrev Each : (Span → Type 0) → List Span → Type 0
  Each P [] = Unit
  Each P (x ∷ out) = P x × Each P out

  -- a live region stands where the span starts
  abbrev Stands : List Region → Span → Type 0
  Stands line x = At (live x.size x.number) x.offset line

  -- the spans that are out are the live regions: they weigh the same, whatever the weight, and each stands where it starts
  pub record Told (out : List Span) (l : Ledger E.Index) : Type 0 where
    pub weighs : (weight : ℕ → ℕ → ℕ) → tally (of_span weight) out ≡ tally (of_region weight) l.line
    pub stand : Each (Stands l.line) out

  -- ---- a return strikes its span
  -- weights that count: the spans of record r, and those of length n besides
  numbered : ℕ → ℕ → ℕ → ℕ
  numbered r m q = one (eqb q r)

  alike : ℕ → ℕ → ℕ → ℕ → ℕ
  alike n r m q = one (eqb q r && eqb m n)

  -- where one span has record r, its length is n and its offset o, that span is struck
  strike_takes : (o n r : ℕ) (out : List Span) → tally (of_span (numbered r)) out ≤ 1 → 1 ≤ tally (of_span (alike n r)) out
      → Each (λ x. x.number ≡ r → x.offset ≡ o) out
      → (weight : ℕ → ℕ → ℕ) → tally (of_span weight) (strike (span_of o r) out) + weight n r ≡ tally (of_span weight) out
  unfolding strike numbered alike
  strike_takes o n r [] h k there weight = absurd (omega arith)
  strike_takes o n r (x ∷ out) h k there weight =
      go (same? x.number r) (same? x.size n) (λ p q. strike_takes o n r out p q there.1 weight)
    where
      fewer : tally (of_span (alike n r)) out ≤ tally (of_span (numbered r)) out
      fewer = tally_le (of_span (alike n r)) (of_span (numbered r)) (λ y. both_first (eqb y.number r) (eqb y.size n)) out

      go : Same x.number r → Same x.size n
          → (tally (of_span (numbered r)) out ≤ 1 → 1 ≤ tally (of_span (alike n r)) out
          → tally (of_span weight) (strike (span_of o r) out) + weight n r ≡ tally (of_span weight) out)
          → tally (of_span weight) (strike (span_of o r) (x ∷ out)) + weight n r ≡ tally (of_span weight) (x ∷ out)
      go (same p e) (same q f) further = rw (e, there.0 p, eqb_same o, p, q) (omega arith)
      go (same p e) (differ q f) further = absurd (omega (arith, rw e at h, rw (e, f) at k, fewer))
      go (differ p e) s further = rw e (omega (arith, further (omega (arith, rw e at h)) (omega (arith, rw e at k))))

  -- what holds of each holds of those that are left, and of one that is out
  left_over : (P : Span → Type 0) (span : Token) (out : List Span) → Each P out → Each P (strike span out)
  unfolding strike
  left_over P span [] h = tt
  left_over P span (x ∷ out) h = go (named? span x) (left_over P span out h.1)
    where
      go : Named span x → Each P (strike span out) → Each P (strike span (x ∷ out))
      go (named p e) behind = rw e h.1
      go (another p e) behind = rw e (h.0, behind)

  each_of : (P : Span → Type 0) (front : List Span) (x : Span) (back : List Span) → Each P (front ++ (x ∷ back)) → P x
  each_of P [] x back h = h.0
  each_of P (y ∷ front) x back h = each_of P front x back h.1

  -- no span weighs as one of record r: none has it
  none_numbered : (r : ℕ) (out : List Span) → tally (of_span (numbered r)) out ≡ 0 → Each (λ x. x.number ≢ r) out
  unfolding numbered
  none_numbered r [] h = tt
  none_numbered r (x ∷ out) h = go (same? x.number r) (none_numbered r out (omega arith))
    where
      go : Same x.number r → Each (λ y. y.number ≢ r) out → Each (λ y. y.number ≢ r) (x ∷ out)
      go (same p e) behind = absurd (omega (arith, rw e at h))
      go (differ p e) behind = (p, behind)

  onto : (P Q : Span → Type 0) (out : List Span) → ((x : Span) → P x → Q x) → Each P out → Each Q out
  onto P Q [] f h = tt
  onto P Q (x ∷ out) f h = (f x h.0, onto P Q out f h.1)

  both_of : (P Q : Span → Type 0) (out : List Span) → Each P out → Each Q out → Each (λ x. P x × Q x) out
  both_of P Q [] h k = tt
  both_of P Q (x ∷ out) h k = ((h.0, k.0), both_of P Q out h.1 k.1)

  -- ---- every call keeps the history true
  numbered_le : (r : ℕ) (x : Region) → of_region (numbered r) x ≤ has r x
  unfolding numbered
  numbered_le r (live n q) = omega arith
  numbered_le r (free n q) = omega arith

  alike_own : (n r : ℕ) → alike n r n r ≡ 1
  unfolding alike
  alike_own n r = rw (eqb_same r, eqb_same n)

  numbered_own : (r n : ℕ) → numbered r n r ≡ 1
  unfolding numbered
  numbered_own r n = rw (eqb_same r)

  -- ---- a weight that counts one span: it is not 0 only if that one is there
  span_there : (n r : ℕ) (out : List Span) → 1 ≤ tally (of_span (alike n r)) out → (o : ℕ) × IsOut o n r out
  unfolding alike
  span_there n r [] h = absurd (omega arith)
  span_there n r (x ∷ out) h = go (same? x.number r) (same? x.size n) (span_there n r out)
    where
      further_on : (o : ℕ) × IsOut o n r out → (o : ℕ) × IsOut o n r (x ∷ out)
      further_on t = (t.0, (x ∷ t.1.0, t.1.1, ap {B = List Span} (λ xs. x ∷ xs) t.1.2))

      go : Same x.number r → Same x.size n → (1 ≤ tally (of_span (alike n r)) out → (o : ℕ) × IsOut o n r out)
          → (o : ℕ) × IsOut o n r (x ∷ out)
      go (same p e) (same q f) behind = (x.offset, ([], out, λ i. record { offset = x.offset; size = q i; number = p i } ∷ out))
      go (same p e) (differ q f) behind = further_on (behind (omega (arith, rw (e, f) at h)))
      go (differ p e) q behind = further_on (behind (omega (arith, rw e at h)))

  -- ---- the spans that a return leaves, and where they stand
  module _ (size count : ℕ) (n : ℕ) (span : Token) (before after : List Region) (l : Ledger E.Index) (out : List Span)
      (w : WellFormed E size count l) (told : Told out l) (b : Between before (live n span.number) after l.line)
      (starts : tally len before ≡ span.offset) where
    one_numbered : tally (of_span (numbered span.number)) out ≤ 1
    one_numbered = omega (
      arith,
      told.weighs (numbered span.number),
      tally_le (of_region (numbered span.number)) (has span.number) (numbered_le span.number) l.line,
      once_in_line w.lined span.number,
    )

    return_takes : (weight : ℕ → ℕ → ℕ) → tally (of_span weight) (strike span out) + weight n span.number ≡ tally (of_span weight) out
    return_takes = strike_takes span.offset n span.number out
        one_numbered
        (omega (arith, told.weighs (alike n span.number), sum_at b (of_region (alike n span.number)), alike_own n span.number))
        (onto (Stands l.line) (λ x. x.number ≡ span.number → x.offset ≡ span.offset) out
        (λ x s e. (same_place s (between_at b) span.number e refl (once_in_line w.lined span.number)).1 ∙ starts) told.stand)

    -- none of those that are left has the record that is handed back
    none_left_numbered : Each (λ x. x.number ≢ span.number) (strike span out)
    none_left_numbered = none_numbered span.number (strike span out)
        (omega (arith, one_numbered, return_takes (numbered span.number), numbered_own span.number n))

  refused_noted : (c : Call) (k : ℕ) (out : List Span) → note (event c (refused k)) out ≡ out
  unfolding note
  refused_noted (Take asked) k out = refl
  refused_noted (HandBack span) k out = refl
  refused_noted Reset k out = refl
  refused_noted (Ask q) k out = refl

  refused_told : (c : Call) (k : ℕ) (l : Ledger E.Index) (out : List Span) {x : Answer × Ledger E.Index} → x ≡ (refused k, l) → Told out l
      → Told (note (event c x.0) out) x.1
  refused_told c k l out e told =
      subst (λ (x : Answer × Ledger E.Index). Told (note (event c x.0) out) x.1) (sym e)
      (subst (λ (o : List Span). Told o l) (sym (refused_noted c k out)) told)

  module _ (size count : ℕ) where
    pub setup_told : Told [] (setup E size count)
    unfolding setup
    setup_told = record { weighs = λ weight. refl; stand = tt }

    -- each span that stands goes on standing, if the call leaves it
    go_on : (two : 2 ≤ count) (c : Call) (l : Ledger E.Index) → WellFormed E size count l → (x : Span)
        → Leaves (span_of x.offset x.number) c → Stands l.line x → Stands (answer E size count c l).1.line x
    go_on two c l w x = call_leaves E laws size count two c x.size x.number x.offset l w

    pub call_told_lem : 2 ≤ count → (c : Call) (l : Ledger E.Index) (out : List Span) → WellFormed E size count l → Told out l
        → Told (note (event c (answer E size count c l).0) out) (answer E size count c l).1
    unfolding answer note
    call_told_lem two c l out w told = go (call_case E laws size count w c)
      where
        go : {c : Call} → CallCase E size count l c → Told (note (event c (answer E size count c l).0) out) (answer E size count c l).1
        go (refuses {c = c} k h e) = refused_told c k l out e told
        go (cuts {asked = asked} t e) = rw e record {
          weighs = λ weight. omega (
            arith,
            told.weighs weight,
            cut_adds E (of_region weight) (λ m q. refl) asked.size (t.n - asked.size) l t.place,
          );
          stand = (
            cut_at E laws asked.size (t.n - asked.size) t.before t.after t.n t.r l,
            onto (Stands l.line) (Stands (cut E asked.size (t.n - asked.size) t.before t.n t.r t.after l).line) out
                (λ x s. rw e at (go_on two (Take asked) l w x tt s)) told.stand,
          );
        }
        go (merges {span = span} n before after b p e) = rw e record {
          weighs = λ weight. omega (
            arith,
            told.weighs weight,
            merge_takes E (of_region weight) (λ m q. refl) l b,
            return_takes size count n span before after l out w told b p weight,
          );
          stand = onto (λ x. (x.number ≢ span.number) × Stands l.line x) (Stands (merge E before n span.number after l).line) (strike span out)
              (λ x h. rw e at (go_on two (HandBack span) l w x (λ g. h.0 (sym (ap (λ (t : Token). t.number) g))) h.1))
              (both_of (λ x. x.number ≢ span.number) (Stands l.line) (strike span out)
              (none_left_numbered size count n span before after l out w told b p) (left_over (Stands l.line) span out told.stand));
        }
        go resets = setup_told
        go asks = told

  -- ---- the sum
  lengths : (line : List Region) → tally (of_region (λ n r. n)) line + tally free_len line ≡ tally len line
  lengths [] = refl
  lengths (live n r ∷ rest) = omega (arith, lengths rest)
  lengths (free n r ∷ rest) = omega (arith, lengths rest)

  module _ (size count : ℕ) (two : 2 ≤ count) where
    pub run_told : (cs : List Call) (l : Ledger E.Index) (out : List Span) → WellFormed E size count l → Told out l
        → Told (out_after (log (answer E size count) cs l) out) (end (answer E size count) cs l)
    unfolding answer end log out_after
    run_told [] l out w told = told
    run_told (c ∷ cs) l out w told =
        run_told cs (answer E size count c l).1 (note (event c (answer E size count c l).0) out)
        (call_well E laws size count two c l w) (call_told_lem size count two c l out w told)

    pub history_sum : (cs : List Call)
        → tally (λ (x : Span). x.size) (out_after (log (answer E size count) cs (setup E size count)) [])
        + tally free_len (end (answer E size count) cs (setup E size count)).line ≡ size
    history_sum cs =
        let w = setup_well E laws size count two in
        omega (
          arith,
          (run_told cs (setup E size count) [] w (setup_told size count)).weighs (λ n r. n),
          lengths (end (answer E size count) cs (setup E size count)).line,
          (end_well E laws size count two cs (setup E size count) w).lined.cover,
        )

    pub history_live : (cs : List Call) (o n r : ℕ)
        → IsOut o n r (out_after (log (answer E size count) cs (setup E size count)) [])
        ↔ At (live n r) o (end (answer E size count) cs (setup E size count)).line
    history_live cs o n r = (
      stands_there o,
      λ x. out_there x (span_there n r out (omega (arith, told.weighs (alike n r), at_weighs x (of_region (alike n r)), alike_own n r))),
    )
      where
        l : Ledger E.Index
        l = end (answer E size count) cs (setup E size count)

        out : List Span
        out = out_after (log (answer E size count) cs (setup E size count)) []

        told : Told out l
        told = run_told cs (setup E size count) [] (setup_well E laws size count two) (setup_told size count)

        w : WellFormed E size count l
        w = end_well E laws size count two cs (setup E size count) (setup_well E laws size count two)

        stands_there : (p : ℕ) → IsOut p n r out → At (live n r) p l.line
        stands_there p t =
            each_of (Stands l.line) t.0 record { offset = p; size = n; number = r } t.1 (subst (Each (Stands l.line)) t.2 told.stand)

        -- the span that weighs as the region does starts where the region stands
        out_there : At (live n r) o l.line → (p : ℕ) × IsOut p n r out → IsOut o n r out
        out_there x t =
            let place : t.0 ≡ o = (same_place (stands_there t.0 t.1) x r refl refl (once_in_line w.lined r)).1 in
            subst (λ (p : ℕ). IsOut p n r out) place t.1

    pub report_total : (cs : List Call) → 2 ≤ length (end (answer E size count) cs (setup E size count)).pile
        → tally (λ (x : Span). x.size) (out_after (log (answer E size count) cs (setup E size count)) [])
        + (report E (end (answer E size count) cs (setup E size count))).0 ≡ size
    report_total cs h = omega (arith, history_sum cs, report_free E laws (end (answer E size count) cs (setup E size count)) h)
