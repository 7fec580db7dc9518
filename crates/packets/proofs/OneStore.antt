-- What each call on one store comes to, beside the list of its packets; on no store each is refused as 6, and none gives 9. Assumes nothing.
use mathlib.Core.Path.{◌≡◌}
use mathlib.Core.Logic.{◌⊎◌, inl, inr, ◌≢◌}
use mathlib.Core.Option.{none, some}
use mathlib.Core.List.{List, ◌∷◌}
use Prim.Native.Nat.{ℕ, ◌≤◌, ◌<◌}
use native.Mathlib.Omega.{arith}
use lib.ListN.{length}
use Rattle.ledger.specs.Ledger.{Answer, granted, done, length_is, refused}
use Rattle.ledger.specs.Calls.{Request, Token, span_of, SizeOf, Report, FullReport, Fill, Call, Take, HandBack, Reset, Ask}
use Rattle.tables.specs.Words.{Words, Edition}
use Rattle.tables.specs.Calls.{answer_words}
use Rattle.tables.specs.Claims.{OneOf, may_give}
use Rattle.tables.proofs.Claims as tables
use Rattle.parts.specs.Bytes.{part_of, not_heard}
use Rattle.packets.specs.Stores.{Kept}
use Rattle.packets.specs.Shelf.{Held, contents, strike, refill}
use Rattle.packets.proofs.Stood.{Stood}

-- why a packet that is not out has no length: 5 or 8, or 6 where there is no store
abbrev pub NotOut : Kept → ℕ → Type 0
NotOut k c = (c ≡ 5) ⊎ ((c ≡ 8) ⊎ ((c ≡ 6) × (k.words.count ≡ 0)))

-- ---- what each call comes to
pub data LengthCase (k : Kept) (held : List Held) (span : Token) : Answer → Type 0 where
  tells : {bytes : List ℕ} (n : ℕ) → contents span held ≡ some bytes → n ≡ length bytes → bytes ≡ part_of k.bytes span.offset n
      → LengthCase k held span (length_is n)
  tells_not : (c : ℕ) → contents span held ≡ none → NotOut k c → LengthCase k held span (refused c)

pub data FillCase (E : Edition) (k : Kept) (held : List Held) (span : Token) (new : List ℕ) : Answer × Kept → Type 0 where
  fills : {bytes : List ℕ} {next : Kept} → contents span held ≡ some bytes → length new ≤ length bytes → Stood E next (refill span new held)
      → FillCase E k held span new (done, next)
  too_many : {bytes : List ℕ} → contents span held ≡ some bytes → length bytes < length new → FillCase E k held span new (refused 17, k)
  fills_not : (c : ℕ) → contents span held ≡ none → NotOut k c → FillCase E k held span new (refused c, k)

pub data BackCase (E : Edition) (k : Kept) (held : List Held) (span : Token) : Answer × Kept → Type 0 where
  gives : {bytes : List ℕ} {next : Kept} → contents span held ≡ some bytes → Stood E next (strike span held) → BackCase E k held span (done, next)
  gives_not : (c : ℕ) → contents span held ≡ none → NotOut k c → BackCase E k held span (refused c, k)

pub data TakeCase (E : Edition) (k : Kept) (held : List Held) (asked : Request) : Answer × Kept → Type 0 where
  takes : {next : Kept} (o r : ℕ) → contents (span_of o r) held ≡ none
      → Stood E next (record { span = span_of o r; bytes = not_heard asked.size } ∷ held) → TakeCase E k held asked (granted o r, next)
  takes_not : (c : ℕ) → c ≢ 9 → TakeCase E k held asked (refused c, k)

module _ (E : Edition) where
  -- ---- no call below gives 9
  pub never_nine : (c : Call) (w : Words) (k : ℕ) → (answer_words E c w).0 ≡ refused k → k ≢ 9
  never_nine c w k e nine = go c ((tables.claims E).numbers c w k e)
    where
      go : (c : Call) → OneOf (may_give c) k → ⊥
      go (Take asked) (inl e) = omega arith
      go (Take asked) (inr (inl e)) = omega arith
      go (Take asked) (inr (inr (inl e))) = omega arith
      go (Take asked) (inr (inr (inr (inl e)))) = omega arith
      go (Take asked) (inr (inr (inr (inr (inl e))))) = omega arith
      go (Take asked) (inr (inr (inr (inr (inr e))))) = e
      go (HandBack span) (inl e) = omega arith
      go (HandBack span) (inr (inl e)) = omega arith
      go (HandBack span) (inr (inr (inl e))) = omega arith
      go (HandBack span) (inr (inr (inr (inl e)))) = omega arith
      go (HandBack span) (inr (inr (inr (inr (inl e))))) = omega arith
      go (HandBack span) (inr (inr (inr (inr (inr e))))) = e
      go Reset (inl e) = omega arith
      go Reset (inr (inl e)) = omega arith
      go Reset (inr (inr e)) = e
      go (Ask q) (inl e) = omega arith
      go (Ask q) (inr (inl e)) = omega arith
      go (Ask (SizeOf span)) (inr (inr (inl e))) = omega arith
      go (Ask (SizeOf span)) (inr (inr (inr (inl e)))) = omega arith
      go (Ask (SizeOf span)) (inr (inr (inr (inr e)))) = e
      go (Ask Report) (inr (inr (inl e))) = omega arith
      go (Ask Report) (inr (inr (inr e))) = e
      go (Ask FullReport) (inr (inr (inl e))) = omega arith
      go (Ask FullReport) (inr (inr (inr e))) = e
      go (Ask Fill) (inr (inr (inl e))) = omega arith
      go (Ask Fill) (inr (inr (inr e))) = e

  -- ---- on no store a call is refused as 6
  pub six : (c : Call) (k : Kept) → k.words.count ≡ 0 → answer_words E c k.words ≡ (refused 6, k.words)
  six c k none_there = (tables.claims E).call_6 c k.words (inl (omega (arith, none_there)))
