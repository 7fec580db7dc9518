-- All that is claimed of the ledger, each claim beneath the sentence that it states. `EngineClaims` holds under every engine that keeps to its laws
-- (Laws.antt), `ClassClaims` is what document 01's stacks add, and `Claims` is both: all that is claimed of document 01's ledger, which
-- proofs/Claims.antt makes for every size below 2 ^ 32 and every count of 2 or more. Assumes nothing.
use Rattle.std.specs.Prelude.{◌≡◌, ℕ, ◌+◌, ◌-◌, ◌≤◌, ◌<◌, ◌↔◌, ◌⊎◌, ◌≢◌, cond, List, [], ◌∷◌, ◌++◌, map, length, get_or, replicate, drop, eqb, ltb}
use Rattle.std.proofs.Math.Option.{some}
use Rattle.basics.specs.Sum.{one, is, tally}
use Rattle.basics.specs.Extreme.{Least}
use Rattle.small_float.specs.Class.{down, value, greatest_served, rounded_up, Reaches}
use Rattle.small_float.specs.Facts.{Serves}
use Rattle.small_float.specs.LastValues.{last_values}
use Rattle.ledger.specs.Ledger.{Engine, by_class, Stacks, Ledger, Region, live, free, len, rec, granted, done, length_is, refused}
use Rattle.ledger.specs.Ledger.{setup, spares, take, size_of, free_len, report, full_report, numbers_from}
use Rattle.ledger.specs.Calls.{Request, Token, SizeOf, Call, Take, HandBack, Reset, Ask, span_of, hands_back, answer, end, answers, log}
use Rattle.ledger.specs.Figures.{refusal_of, figure_count, figures_of}
use Rattle.ledger.specs.WellFormed.{WellFormed}
use Rattle.ledger.specs.Spans.{At, FreeIn, Among, Disjoint, AllLeave}
use Rattle.ledger.specs.History.{Span, out_after, IsOut, live_one}
use Rattle.ledger.specs.Stretch.{Stretch}

-- a take of s is granted, or refused, whatever the figures
abbrev pub Granted : (E : Engine) → ℕ → Ledger E.Index → Type 0
Granted E s l = (o : ℕ) × (r : ℕ) × ((take E s l).0 ≡ granted o r)

abbrev pub Refused : (E : Engine) → ℕ → Ledger E.Index → Type 0
Refused E s l = (k : ℕ) × ((take E s l).0 ≡ refused k)

-- no free region reaches the request; with document 01's engine no free region's class does (`none_reaches_by_class`)
abbrev pub NoneReaches : (E : Engine) → ℕ → Ledger E.Index → Type 0
NoneReaches E s l = (n : ℕ) → FreeIn n l.line → E.rank n < E.need s

-- record r is live
abbrev pub Live : {I : Type 0} → ℕ → Ledger I → Type 0
Live r l = (n : ℕ) × (o : ℕ) × At (live n r) o l.line

-- record r is live, and starts at another offset than o
abbrev pub LiveElsewhere : {I : Type 0} → (o r : ℕ) → Ledger I → Type 0
LiveElsewhere o r l = (n : ℕ) × (p : ℕ) × At (live n r) p l.line × (p ≢ o)

-- the refusals that a ledger in order can give
pub data CanRefuse : Call → ℕ → Type 0 where
  too_few_spares : {asked : Request} → CanRefuse (Take asked) 3
  none_reaches : {asked : Request} → CanRefuse (Take asked) 4
  not_live : {span : Token} → CanRefuse (HandBack span) 5
  elsewhere : {span : Token} → CanRefuse (HandBack span) 8
  unknown : {span : Token} → CanRefuse (Ask (SizeOf span)) 5
  unknown_there : {span : Token} → CanRefuse (Ask (SizeOf span)) 8

-- "A remainder above 0 takes the next record of the pile": what is left of a region, and what is left of the pile
pub data Remainder (left : ℕ) (pile : List ℕ) : List Region → List ℕ → Type 0 where
  nothing_left : left ≡ 0 → Remainder left pile [] pile
  next_record : (q : ℕ) (rest : List ℕ) → 1 ≤ left → pile ≡ q ∷ rest → Remainder left pile (free left q ∷ []) rest

-- the region that the engine chooses: "It becomes live with length exactly s and keeps its record. A remainder above 0 takes the next record of the
-- pile, becomes a free region just after it". In `front` and `back` no region changes, and none comes or goes.
pub record Grant (E : Engine) (s o r : ℕ) (l : Ledger E.Index) : Type 0 where
  pub length_before : ℕ
  pub chosen : E.choose s l.line l.index ≡ some r
  pub was_free : At (free length_before r) o l.line
  pub reaching : E.need s ≤ E.rank length_before
  pub is_live : At (live s r) o (take E s l).1.line
  pub front : List Region
  pub back : List Region
  pub remainder : List Region
  pub line_was : l.line ≡ front ++ (free length_before r ∷ back)
  pub place_was : o ≡ tally len front
  pub line_is : (take E s l).1.line ≡ front ++ (live s r ∷ (remainder ++ back))
  pub remainder_is : Remainder (length_before - s) l.pile remainder (take E s l).1.pile

-- no region, or one that is free
pub data NoneOrFree : List Region → Type 0 where
  none_there : NoneOrFree []
  one_there : (n r : ℕ) → NoneOrFree (free n r ∷ [])

-- the hand-back of the live region of length n and record r at offset o: "The region merges with a free one before and a free one after. Their
-- records go onto the pile, the one before first. The merged region keeps the record number handed back". The line is `front`, the free one
-- before, the region, the free one after, `back`; in front and back no region changes, and none comes or goes.
pub record Return (E : Engine) (n r o : ℕ) (l : Ledger E.Index) : Type 0 where
  pub front : List Region
  pub before : List Region
  pub after : List Region
  pub back : List Region
  pub line_was : l.line ≡ front ++ (before ++ (live n r ∷ (after ++ back)))
  pub place_was : o ≡ tally len front + tally len before
  pub free_before : NoneOrFree before
  pub free_after : NoneOrFree after
  pub none_left_before : (m q : ℕ) (xs : List Region) → front ≢ xs ++ (free m q ∷ [])
  pub none_left_after : (m q : ℕ) (xs : List Region) → back ≢ free m q ∷ xs
  pub answer_is : (hands_back E (span_of o r) l).0 ≡ done
  pub whole : ℕ
  pub whole_is : whole ≡ tally len before + n + tally len after
  pub line_is : (hands_back E (span_of o r) l).1.line ≡ front ++ (free whole r ∷ back)
  pub place_is : At (free whole r) (tally len front) (hands_back E (span_of o r) l).1.line
  -- the pile's first is the next to be taken, so what went onto it first stands further in
  pub pile_is : (hands_back E (span_of o r) l).1.pile ≡ map rec after ++ (map rec before ++ l.pile)

-- a ledger that some run of calls after the setup leaves
abbrev pub Reached : (E : Engine) → ℕ → ℕ → Ledger E.Index → Type 0
Reached E size count l = (cs : List Call) × (l ≡ end (answer E size count) cs (setup E size count))

pub record EngineClaims (E : Engine) (size count : ℕ) : Type 0 where
  -- ---- the ledger is in order after the setup and after every call
  pub setup_well : WellFormed E size count (setup E size count)
  pub call_well : (c : Call) (l : Ledger E.Index) → WellFormed E size count l → WellFormed E size count (answer E size count c l).1
  -- the setup's ledger is reached, and from each that is reached what any call leaves
  pub setup_reached : Reached E size count (setup E size count)
  pub call_reached : (c : Call) (l : Ledger E.Index) → Reached E size count l → Reached E size count (answer E size count c l).1
  pub reached_well : (l : Ledger E.Index) → Reached E size count l → WellFormed E size count l
  -- ---- "Setup and reset: the pile yields 0 first, then 1, and so on. One free region [0, size) takes record 0."
  pub fresh_line : (setup E size count).line ≡ free size 0 ∷ []
  pub fresh_spares : length (setup E size count).pile + 1 ≡ count
  pub fresh_pile : (i : ℕ) → i + 1 < count → get_or (setup E size count).pile i 0 ≡ i + 1
  pub reset_is_fresh : (l : Ledger E.Index) → answer E size count Reset l ≡ (done, setup E size count)
  -- ---- "Live and free regions cover the store from 0 to its size without gap or overlap"
  pub inside : (l : Ledger E.Index) → WellFormed E size count l → (x : Region) (o : ℕ) → At x o l.line → o + len x ≤ size
  pub disjoint : (l : Ledger E.Index) → WellFormed E size count l → (x y : Region) (o p : ℕ) → At x o l.line → At y p l.line
      → rec x ≢ rec y → Disjoint o (len x) p (len y)
  pub filled : (l : Ledger E.Index) → WellFormed E size count l → (a : ℕ) → a < size
      → (x : Region) × (o : ℕ) × At x o l.line × (o ≤ a) × (a < o + len x)
  -- ---- "no two free regions lie without a live one (of length 0, perhaps) between them"
  pub separated : (l : Ledger E.Index) → WellFormed E size count l → (before between after : List Region) (n q m p : ℕ)
      → l.line ≡ before ++ (free n q ∷ (between ++ (free m p ∷ after)))
      → (k : ℕ) × (r : ℕ) × (rest : List Region) × (between ≡ live k r ∷ rest)
  -- ---- "spare record numbers are distinct, below the count"; a record is spare or has one region, and none is lost
  pub pile_distinct : (l : Ledger E.Index) → WellFormed E size count l → (xs ys : List ℕ) (r : ℕ) → l.pile ≡ xs ++ (r ∷ ys)
      → (¬ Among r xs) × (¬ Among r ys)
  pub pile_below : (l : Ledger E.Index) → WellFormed E size count l → (r : ℕ) → Among r l.pile → r < count
  pub line_distinct : (l : Ledger E.Index) → WellFormed E size count l → (xs ys zs : List Region) (x y : Region)
      → l.line ≡ xs ++ (x ∷ (ys ++ (y ∷ zs))) → rec x ≢ rec y
  pub spare_has_none : (l : Ledger E.Index) → WellFormed E size count l → (r : ℕ) → Among r l.pile
      → (x : Region) (o : ℕ) → At x o l.line → rec x ≢ r
  pub none_lost : (l : Ledger E.Index) → WellFormed E size count l → (r : ℕ) → r < count
      → Among r l.pile ⊎ ((x : Region) × (o : ℕ) × At x o l.line × (rec x ≡ r))
  -- ---- a grant: which region, where; it overlaps no span that was live, nor one that is live as long as it is not handed back
  pub grant : (s o r : ℕ) (l : Ledger E.Index) → WellFormed E size count l → (take E s l).0 ≡ granted o r → Grant E s o r l
  pub grant_alone : (s o r : ℕ) (l : Ledger E.Index) → WellFormed E size count l → (take E s l).0 ≡ granted o r
      → (n q p : ℕ) → At (live n q) p l.line → Disjoint o s p n
  pub grant_lasts : (s o r : ℕ) (l : Ledger E.Index) → WellFormed E size count l → (take E s l).0 ≡ granted o r
      → (cs : List Call) → AllLeave (span_of o r) cs → At (live s r) o (end (answer E size count) cs (take E s l).1).line
  pub grant_stays_alone : (s o r : ℕ) (l : Ledger E.Index) → WellFormed E size count l → (take E s l).0 ≡ granted o r
      → (cs : List Call) → AllLeave (span_of o r) cs
      → (n q p : ℕ) → At (live n q) p (end (answer E size count) cs (take E s l).1).line → q ≢ r → Disjoint o s p n
  -- ---- a hand-back of a live region: what it merges with, where the merged region lies, which record it keeps, what goes onto the pile
  pub return : (n r o : ℕ) (l : Ledger E.Index) → WellFormed E size count l → At (live n r) o l.line → Return E n r o l
  -- ---- a record is live exactly if a live region of the line has it, and the size query tells its length
  pub live_exactly : (r : ℕ) (l : Ledger E.Index)
      → Live r l ↔ ((n : ℕ) × (front : List Region) × (back : List Region) × (l.line ≡ front ++ (live n r ∷ back)))
  pub size_told : (n r o : ℕ) (l : Ledger E.Index) → WellFormed E size count l → At (live n r) o l.line → size_of o r l ≡ length_is n
  -- ---- a take is granted or refused, never both, and that none reaches is that no free region does
  pub granted_or_refused : (s : ℕ) (l : Ledger E.Index) → WellFormed E size count l → Granted E s l ⊎ Refused E s l
  pub not_both : (s : ℕ) (l : Ledger E.Index) → Granted E s l → ¬ Refused E s l
  pub none_reaches_exactly : (s : ℕ) (l : Ledger E.Index)
      → NoneReaches E s l ↔ (¬ ((n : ℕ) × (r : ℕ) × (o : ℕ) × At (free n r) o l.line × (E.need s ≤ E.rank n)))
  -- ---- "a take is refused exactly when one record or none is spare, or no free region's class reaches the request's", 3 before 4;
  -- hand back and size query give 5 exactly if the record is not live, and a number at or above the count never is; 8 "exactly if the record is live
  -- but starts elsewhere"; no other refusal
  pub refused_exactly : (s : ℕ) (l : Ledger E.Index) → WellFormed E size count l
      → Refused E s l ↔ ((length l.pile ≤ 1) ⊎ NoneReaches E s l)
  pub refusal_3 : (s : ℕ) (l : Ledger E.Index) → WellFormed E size count l → ((take E s l).0 ≡ refused 3) ↔ (length l.pile ≤ 1)
  pub refusal_4 : (s : ℕ) (l : Ledger E.Index) → WellFormed E size count l
      → ((take E s l).0 ≡ refused 4) ↔ ((2 ≤ length l.pile) × NoneReaches E s l)
  pub refusal_5 : (o r : ℕ) (l : Ledger E.Index) → WellFormed E size count l → ((hands_back E (span_of o r) l).0 ≡ refused 5) ↔ (¬ Live r l)
  pub size_refusal_5 : (o r : ℕ) (l : Ledger E.Index) → WellFormed E size count l → (size_of o r l ≡ refused 5) ↔ (¬ Live r l)
  pub refusal_8 : (o r : ℕ) (l : Ledger E.Index) → WellFormed E size count l → ((hands_back E (span_of o r) l).0 ≡ refused 8) ↔ LiveElsewhere o r l
  pub size_refusal_8 : (o r : ℕ) (l : Ledger E.Index) → WellFormed E size count l → (size_of o r l ≡ refused 8) ↔ LiveElsewhere o r l
  pub live_below : (r : ℕ) (l : Ledger E.Index) → WellFormed E size count l → Live r l → r < count
  pub no_other : (c : Call) (k : ℕ) (l : Ledger E.Index) → WellFormed E size count l
      → (answer E size count c l).0 ≡ refused k → CanRefuse c k
  pub refused_same : (c : Call) (k : ℕ) (l : Ledger E.Index) → WellFormed E size count l
      → (answer E size count c l).0 ≡ refused k → (answer E size count c l).1 ≡ l
  -- ---- "Every refusal returns its number, figures of 0": a call is refused with k exactly if its number is k, which is not 0
  pub number_tells : (c : Call) (k : ℕ) (l : Ledger E.Index) → WellFormed E size count l
      → ((answer E size count c l).0 ≡ refused k) ↔ ((refusal_of (answer E size count c l).0 ≡ k) × (k ≢ 0))
  pub figures_of_0 : (c : Call) (l : Ledger E.Index) → refusal_of (answer E size count c l).0 ≢ 0
      → figures_of c (answer E size count c l).0 ≡ replicate (figure_count c) 0
  -- ---- "With count n no more than n - 2 spans are ever live."
  pub live_at_most : (l : Ledger E.Index) → Reached E size count l → tally live_one l.line + 2 ≤ count
  -- ---- "Live lengths, summed from the history of grants and returns since the last setup or reset, plus the lengths of the ledger's free
  -- regions, always make the size."
  pub history_sum : (cs : List Call)
      → tally (λ (x : Span). x.size) (out_after (log (answer E size count) cs (setup E size count)) [])
      + tally free_len (end (answer E size count) cs (setup E size count)).line ≡ size
  -- the spans that are out by the history are the live regions, each with its offset, length and record
  pub history_live : (cs : List Call) (o n r : ℕ)
      → IsOut o n r (out_after (log (answer E size count) cs (setup E size count)) [])
      ↔ At (live n r) o (end (answer E size count) cs (setup E size count)).line
  -- ---- "A take of s is then granted exactly when a free region exists and s is at most that second number."
  pub report_rule : (s : ℕ) (l : Ledger E.Index) → WellFormed E size count l → 2 ≤ length l.pile
      → Granted E s l ↔ (((n : ℕ) × FreeIn n l.line) × (s ≤ (report E l).1))
  -- and its first number is what the spans that are out leave of the size
  pub report_total : (cs : List Call) → 2 ≤ length (end (answer E size count) cs (setup E size count)).pile
      → tally (λ (x : Span). x.size) (out_after (log (answer E size count) cs (setup E size count)) [])
      + (report E (end (answer E size count) cs (setup E size count))).0 ≡ size
  pub report_one_spare : (l : Ledger E.Index) → length l.pile ≤ 1 → report E l ≡ (0, 0)
  -- ---- demand 3: the stretch ends in the identical ledger, so "every later call .. answers as though the stretch had never been"
  pub stretch_restores : (cs : List Call) (l : Ledger E.Index) → WellFormed E size count l → Stretch [] (log (answer E size count) cs l)
      → end (answer E size count) cs l ≡ l
  pub as_though_never : (cs : List Call) (l : Ledger E.Index) → WellFormed E size count l → Stretch [] (log (answer E size count) cs l)
      → (later-calls : List Call) → answers (answer E size count) later-calls (end (answer E size count) cs l) ≡ answers (answer E size count) later-calls l

-- ---- document 01's engine by itself
-- 1 for a free region of class c: their sum is the number of free regions of that class
abbrev pub free_of_class : ℕ → Region → ℕ
free_of_class c (live n r) = 0
free_of_class c (free n r) = one (eqb c (down n))

-- what stacks hold after, beside what they held before: nothing new, or one region on top of its class
abbrev pub OnTop : List Region → Stacks → Stacks → Type 0
OnTop [] before after = (c : ℕ) → after c ≡ before c
OnTop (x ∷ xs) before after = (after (down (len x)) ≡ rec x ∷ before (down (len x))) × ((c : ℕ) → c ≢ down (len x) → after c ≡ before c)

-- "of the lowest non-empty class at or above up(s), the region put there last. It becomes live with length exactly s and keeps its record."
pub record ClassGrant (s o r : ℕ) (l : Ledger Stacks) : Type 0 where
  pub of_grant : Grant by_class s o r l
  pub class : ℕ
  pub below : List ℕ
  pub lowest_class : Least (λ c. Reaches c (rounded_up s) × (l.index c ≢ [])) class
  pub none_lower : (c : ℕ) → Reaches c (rounded_up s) → c < class → l.index c ≡ []
  pub put_last : l.index class ≡ r ∷ below
  pub of_class : down of_grant.length_before ≡ class
  -- it leaves the top of its stack, and the remainder "goes on top of its class"
  pub stacks_between : Stacks
  pub left_its_top : stacks_between class ≡ below
  pub left_no_other : (c : ℕ) → c ≢ class → stacks_between c ≡ l.index c
  pub remainder_on_top : OnTop of_grant.remainder stacks_between (take by_class s l).1.index

-- a stack, in its order, without the records of a list
unfoldable pub lacking : List ℕ → List ℕ → List ℕ
lacking gone [] = []
lacking gone (q ∷ qs) = cond (ltb 0 (tally (is q) gone)) (lacking gone qs) (q ∷ lacking gone qs)

-- "goes on top of its class": on that stack and no other; the records of the regions that it merged with leave their stacks, and no other does
pub record ClassReturn (n r o : ℕ) (l : Ledger Stacks) : Type 0 where
  pub returned : Return by_class n r o l
  pub gone : List ℕ
  pub gone_are : gone ≡ map rec returned.before ++ map rec returned.after
  pub on_top_lem : (hands_back by_class (span_of o r) l).1.index (down returned.whole) ≡ r ∷ lacking gone (l.index (down returned.whole))
  pub elsewhere : (c : ℕ) → c ≢ down returned.whole → (hands_back by_class (span_of o r) l).1.index c ≡ lacking gone (l.index c)

pub record ClassClaims (size count : ℕ) : Type 0 where
  pub grant : (s o r : ℕ) (l : Ledger Stacks) → WellFormed by_class size count l → (take by_class s l).0 ≡ granted o r
      → ClassGrant s o r l
  pub return : (n r o : ℕ) (l : Ledger Stacks) → WellFormed by_class size count l → At (live n r) o l.line → ClassReturn n r o l
  -- "for each class a stack of its free regions by down class": r stands in the stack of class c exactly if a free region of class c has it, once
  pub stack_holds : (l : Ledger Stacks) → WellFormed by_class size count l → (c r : ℕ)
      → Among r (l.index c) ↔ ((n : ℕ) × (o : ℕ) × At (free n r) o l.line × (down n ≡ c))
  pub stack_distinct : (l : Ledger Stacks) → WellFormed by_class size count l → (c : ℕ) (xs ys : List ℕ) (r : ℕ)
      → l.index c ≡ xs ++ (r ∷ ys) → (¬ Among r xs) × (¬ Among r ys)
  -- "no free region's class reaches up(s)"
  pub none_reaches_by_class : (s : ℕ) (l : Ledger Stacks) → WellFormed by_class size count l
      → NoneReaches by_class s l ↔ ((n r o : ℕ) → At (free n r) o l.line → ¬ Reaches (down n) (rounded_up s))
  -- document 02: "let take (still refusal 4, after 3) .. read it": of a size without a class, in any ledger at all
  pub take_no_class : (s : ℕ) (l : Ledger Stacks) → greatest_served < s → take by_class s l ≡ (refused (cond (spares l) 4 3), l)
  -- "the value of the highest non-empty class (0 if none)"
  pub largest_is : (l : Ledger Stacks) → WellFormed by_class size count l → 2 ≤ length l.pile
      → (c : ℕ) → l.index c ≢ [] → ((d : ℕ) → c < d → l.index d ≡ []) → (report by_class l).1 ≡ value c
  pub largest_none : (l : Ledger Stacks) → 2 ≤ length l.pile → ((c : ℕ) → l.index c ≡ []) → (report by_class l).1 ≡ 0
  -- a fresh store with 3 records or more grants s exactly if its size serves s, of which small_float says what the smallest is
  pub fresh_grants : 3 ≤ count → (s : ℕ) → Granted by_class s (setup by_class size count) ↔ Serves size s
  -- refused or not, a call returns its figures, all of them
  pub figures_all : (c : Call) (l : Ledger Stacks) → WellFormed by_class size count l
      → length (figures_of c (answer by_class size count c l).0) ≡ figure_count c
  pub full_report_lem : (l : Ledger Stacks) → WellFormed by_class size count l
      → full_report by_class l ≡ map (λ c. (value c, tally (free_of_class c) l.line)) (numbers_from 0 256)
  -- document 02's values for classes 240 to 255, "which no region enters": so the last sixteen of a full report are always these, with counts of 0
  pub last_sixteen : (l : Ledger Stacks) → WellFormed by_class size count l
      → drop 240 (full_report by_class l) ≡ map (λ (row : ℕ × ℕ). (row.1, 0)) last_values

-- ---- document 01's ledger
pub record Claims (size count : ℕ) : Type 0 where
  pub shared : EngineClaims by_class size count
  pub by_stacks : ClassClaims size count
