-- What the words mean in which the claims speak, told from the other side, so that none of them can say less than it seems to: one record, which
-- proofs/Meanings.antt makes. Assumes nothing.
use Rattle.std.specs.Prelude.{◌≡◌, ℕ, ◌+◌, ◌≤◌, ◌<◌, ◌↔◌, ◌⊎◌, ◌≢◌, List, [], ◌∷◌, ◌++◌, length, get_or}
use Rattle.basics.specs.Sum.{tally}
use Rattle.small_float.specs.Class.{down}
use Rattle.std.proofs.Math.Option.{none, some}
use Rattle.ledger.specs.Ledger.{Region, live, free, len, Stacks, on_top, numbers_from, Answer, granted, done, refused, Ledger, Spot, grant, by_class}
use Rattle.ledger.specs.Calls.{Request, Token, Question, SizeOf, Call, Take, HandBack, Reset, Ask, takes, gives_back, span_of, Event, event}
use Rattle.ledger.specs.Spans.{At, FreeIn, Among, Disjoint, Leaves, AllLeave}
use Rattle.ledger.specs.History.{Span, note, live_one}
use Rattle.ledger.specs.Stretch.{Stretch}
use Rattle.ledger.specs.Claims.{CanRefuse, NoneOrFree, Remainder, OnTop}

-- the records of the live regions, in the line's order
unfoldable pub live_records : List Region → List ℕ
live_records [] = []
live_records (live n r ∷ rest) = r ∷ live_records rest
live_records (free n r ∷ rest) = live_records rest

-- the address a lies in the interval [o, o + n)
abbrev pub Inside : ℕ → ℕ → ℕ → Type 0
Inside a o n = (o ≤ a) × (a < o + n)

pub record Meanings : Type 0 where
  -- ---- where a region stands: the line is what stands before it, it, and what stands after it; its offset is the sum of the lengths before it
  pub at_exactly : (x : Region) (o : ℕ) (line : List Region)
      → At x o line ↔ ((front : List Region) × (back : List Region) × (line ≡ front ++ (x ∷ back)) × (o ≡ tally len front))
  pub free_in_exactly : (n : ℕ) (line : List Region)
      → FreeIn n line ↔ ((r : ℕ) × (front : List Region) × (back : List Region) × (line ≡ front ++ (free n r ∷ back)))
  -- ---- intervals that do not overlap: no address lies in both, and an empty one does not lie within the other; of two that are not empty the
  -- addresses decide
  pub no_address_in_both : (o n p m : ℕ) → Disjoint o n p m → (a : ℕ) → Inside a o n → ¬ Inside a p m
  pub no_empty_one_within : (o p m : ℕ) → Disjoint o 0 p m → p < o → p + m ≤ o
  pub disjoint_both_ways : (o n p m : ℕ) → Disjoint o n p m → Disjoint p m o n
  pub apart_by_address : (o n p m : ℕ) → 1 ≤ n → 1 ≤ m → ((a : ℕ) → Inside a o n → ¬ Inside a p m) → Disjoint o n p m
  -- ---- calls that leave a span: all but the hand-back of its offset and record, and a reset
  pub leaves_exactly : (o r : ℕ) (c : Call) → Leaves (span_of o r) c ↔ ((c ≢ gives_back o r) × (c ≢ Reset))
  pub all_leave_exactly : (o r : ℕ) (cs : List Call)
      → AllLeave (span_of o r) cs ↔ ((before after : List Call) (c : Call) → cs ≡ before ++ (c ∷ after) → (c ≢ gives_back o r) × (c ≢ Reset))
  -- ---- a stretch may begin with any grant, the return of the last granted, any refused call and any question, however it is answered
  pub may_grant : (own : List Token) (es : List Event) (asked : Request) (o r : ℕ) → Stretch (span_of o r ∷ own) es
      → Stretch own (event (Take asked) (granted o r) ∷ es)
  pub may_return : (own : List Token) (es : List Event) (span : Token) → Stretch own es
      → Stretch (span ∷ own) (event (HandBack span) done ∷ es)
  pub may_refuse : (own : List Token) (es : List Event) (c : Call) (k : ℕ) → Stretch own es → Stretch own (event c (refused k) ∷ es)
  pub may_ask : (own : List Token) (es : List Event) (q : Question) (a : Answer) → Stretch own es → Stretch own (event (Ask q) a ∷ es)
  -- it ends where nothing is owed
  pub may_end : (own : List Token) → Stretch own [] ↔ (own ≡ [])
  -- ---- what stands beside a region that is handed back, what is left of one that is granted, and what goes on top of its class
  pub none_or_free : (xs : List Region) → NoneOrFree xs ↔ ((xs ≡ []) ⊎ ((n : ℕ) × (r : ℕ) × (xs ≡ free n r ∷ [])))
  pub remainder_of_0 : (pile : List ℕ) (xs : List Region) (rest : List ℕ) → Remainder 0 pile xs rest → (xs ≡ []) × (rest ≡ pile)
  pub remainder_above_0 : (left : ℕ) (pile : List ℕ) (xs : List Region) (rest : List ℕ) → 1 ≤ left → Remainder left pile xs rest
      → (q : ℕ) × (pile ≡ q ∷ rest) × (xs ≡ free left q ∷ [])
  pub nothing_on_top : (before after : Stacks) → OnTop [] before after → after ≡ before
  pub one_on_top : (n r : ℕ) (before after : Stacks) → OnTop (free n r ∷ []) before after → after ≡ on_top (down n) r before
  -- ---- the number of live regions is the number of their records, and r is one of them exactly if a live region has it
  pub live_counted : (line : List Region) → tally live_one line ≡ length (live_records line)
  pub live_records_lem : (r : ℕ) (line : List Region) → Among r (live_records line) ↔ ((n : ℕ) × (o : ℕ) × At (live n r) o line)
  -- ---- which numbers a call can be refused with
  pub take_refusals : (asked : Request) (k : ℕ) → CanRefuse (Take asked) k ↔ ((k ≡ 3) ⊎ (k ≡ 4))
  pub hand_back_refusals : (span : Token) (k : ℕ) → CanRefuse (HandBack span) k ↔ ((k ≡ 5) ⊎ (k ≡ 8))
  pub size_refusals : (span : Token) (k : ℕ) → CanRefuse (Ask (SizeOf span)) k ↔ ((k ≡ 5) ⊎ (k ≡ 8))
  -- of the questions the size query alone; a reset never
  pub no_refusals : (q : Question) (k : ℕ) → CanRefuse (Ask q) k → (span : Token) × (q ≡ SizeOf span)
  pub reset_refusals : (k : ℕ) → ¬ CanRefuse Reset k
  -- ---- the n numbers from r on: n of them, the i-th of which is r + i
  pub numbers_many : (r n : ℕ) → length (numbers_from r n) ≡ n
  pub numbers_each : (r n i : ℕ) → i < n → get_or (numbers_from r n) i 0 ≡ r + i
  -- ---- the history: a refused call, a reset among them, and a question leave the spans that are out
  pub refusal_notes_nothing : (c : Call) (k : ℕ) (out : List Span) → note (event c (refused k)) out ≡ out
  pub question_notes_nothing : (q : Question) (a : Answer) (out : List Span) → note (event (Ask q) a) out ≡ out
  -- nor does an answer that is none of the call's
  pub take_notes_grants : (asked : Request) (a : Answer) (out : List Span) → ((o r : ℕ) → a ≢ granted o r) → note (event (Take asked) a) out ≡ out
  pub return_notes_done : (span : Token) (a : Answer) (out : List Span) → a ≢ done → note (event (HandBack span) a) out ≡ out
  pub reset_notes_done : (a : Answer) (out : List Span) → a ≢ done → note (event Reset a) out ≡ out
  -- a grant adds one span; a return that is done strikes the last such, and no other; a reset that is done strikes all
  pub grant_notes_one : (s o r : ℕ) (out : List Span)
      → note (event (takes s) (granted o r)) out ≡ record { offset = o; size = s; number = r } ∷ out
  pub return_strikes_one : (n o r : ℕ) (front back : List Span)
      → ((xs ys : List Span) (x : Span) → front ≡ xs ++ (x ∷ ys) → span_of x.offset x.number ≢ span_of o r)
      → note (event (gives_back o r) done) (front ++ (record { offset = o; size = n; number = r } ∷ back)) ≡ front ++ back
  pub return_strikes_no_other : (o r : ℕ) (out : List Span)
      → ((xs ys : List Span) (x : Span) → out ≡ xs ++ (x ∷ ys) → span_of x.offset x.number ≢ span_of o r)
      → note (event (gives_back o r) done) out ≡ out
  pub reset_strikes_all : (out : List Span) → note (event Reset done) out ≡ []
  -- ---- what never comes in a ledger in order: where no region is found, or one that is live, nothing is granted and nothing changes
  pub none_granted : (s : ℕ) (l : Ledger Stacks) → grant by_class s l none ≡ (refused 6, l)
  pub live_not_granted : (s n r : ℕ) (l : Ledger Stacks) (z : Spot) → z.here ≡ live n r → grant by_class s l (some z) ≡ (refused 6, l)
