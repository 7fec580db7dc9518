-- Every call on a ledger in order, by what comes of it. What is said of every call is proved by these cases, and a further refusal of a call is told
-- here alone. Assumes nothing.
use mathlib.Core.Path.{◌≡◌}
use Prim.Native.Nat.{ℕ, ◌-◌}
use mathlib.Core.List.{List}
use mathlib.Core.Logic.{◌≢◌}
use native.Mathlib.Omega.{arith}
use Rattle.basics.specs.Sum.{tally}
use Rattle.ledger.specs.Ledger.{Engine, Ledger, Region, live, len, granted, done, refused, cut, merge}
use Rattle.ledger.specs.Calls.{Request, Token, Question, Call, Take, HandBack, Reset, Ask, answer}
use Rattle.ledger.specs.WellFormed.{WellFormed}
use Rattle.ledger.specs.Laws.{Laws}
use Rattle.ledger.specs.Claims.{CanRefuse, too_few_spares, none_reaches, elsewhere, unknown, unknown_there}
use Rattle.ledger.proofs.Places.{Between}
use Rattle.ledger.proofs.Cases.{Serving, TakeCase, few_spares, no_region, serves, take_case}
use Rattle.ledger.proofs.Cases.{LiveCase, is_live_case, is_elsewhere, not_live, live_case}

module _ (E : Engine) (size count : ℕ) where
  -- refused, and the ledger stays; a region is cut; a region is merged; everything anew; a question, and the ledger stays
  pub data CallCase (l : Ledger E.Index) : Call → Type 0 where
    refuses : {c : Call} (k : ℕ) → CanRefuse c k → answer E size count c l ≡ (refused k, l) → CallCase l c
    cuts : {asked : Request} (t : Serving E asked.size l)
        → answer E size count (Take asked) l
        ≡ (granted (tally len t.before) t.r, cut E asked.size (t.n - asked.size) t.before t.n t.r t.after l)
        → CallCase l (Take asked)
    merges : {span : Token} (n : ℕ) (before after : List Region) → Between before (live n span.number) after l.line
        → tally len before ≡ span.offset
        → answer E size count (HandBack span) l ≡ (done, merge E before n span.number after l) → CallCase l (HandBack span)
    resets : CallCase l Reset
    asks : {q : Question} → CallCase l (Ask q)

-- no number that is given is 0, by which an answer is told, or 6
pub refusal_numbers : {c : Call} {k : ℕ} → CanRefuse c k → (k ≢ 0) × (k ≢ 6)
refusal_numbers too_few_spares = (λ e. omega arith, λ e. omega arith)
refusal_numbers none_reaches = (λ e. omega arith, λ e. omega arith)
refusal_numbers CanRefuse.not_live = (λ e. omega arith, λ e. omega arith)
refusal_numbers elsewhere = (λ e. omega arith, λ e. omega arith)
refusal_numbers unknown = (λ e. omega arith, λ e. omega arith)
refusal_numbers unknown_there = (λ e. omega arith, λ e. omega arith)

module _ (E : Engine) (laws : Laws E) (size count : ℕ) where
  pub call_case : {l : Ledger E.Index} → WellFormed E size count l → (c : Call) → CallCase E size count l c
  unfolding answer
  call_case {l} w (Take asked) = go (take_case E laws w asked.size)
    where
      go : TakeCase E asked.size l → CallCase E size count l (Take asked)
      go (few_spares h e) = refuses 3 too_few_spares e
      go (no_region h m e) = refuses 4 none_reaches e
      go (serves t) = cuts t t.outcome
  call_case {l} w (HandBack span) = go (live_case E w span.offset span.number)
    where
      go : LiveCase E span.offset span.number l → CallCase E size count l (HandBack span)
      go (not_live h e q) = refuses 5 CanRefuse.not_live e
      go (is_elsewhere n before after b p e q) = refuses 8 elsewhere e
      go (is_live_case n before after b p e q) = merges n before after b p e
  call_case w Reset = resets
  call_case w (Ask q) = asks
