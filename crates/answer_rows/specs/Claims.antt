-- What the rows of the list of runs ask, letter by letter as oracle/README.md has them, and what an answer that agrees with one was. One record,
-- which proofs/Claims.antt makes. Assumes nothing.
use Rattle.std.specs.Prelude.{cond, ℕ, ◌≤◌, ◌≡◌, ◌≢◌, ◌⊎◌, List, [], ◌∷◌, eqb, Some}
use Rattle.oracle_lists.specs.declared.rows.Reader.{Reader}
use Rattle.oracle_lists.specs.declared.tally.Verdict.TheVariants.{Agrees, Listed}
use Rattle.call_verdicts.specs.Verdicts.{call_verdict}
use Rattle.oracle_lists.specs.Facts.{row_read}
use Rattle.call_values.specs.declared.answer.Answer.{Answer}
use Rattle.call_values.specs.declared.answer.Answer.TheVariants as answer
use Rattle.call_values.specs.declared.call.Call.{Call}
use Rattle.call_values.specs.declared.call.Call.TheVariants as call
use Rattle.run_rows.specs.Asked.{call_of}
use Rattle.answer_rows.specs.Said.{said_of}

-- the row of a letter and its numbers asks for this call
abbrev pub Asks : (letter : ℕ) → List ℕ → Call → Type 0
Asks letter numbers c = call_of (row_read letter numbers) ≡ Some c

-- what a row other than x says that was answered, by its letter and its last two numbers: for b and u the port has 5, for w and m 8; n, z and f are done
abbrev pub answer_in : (letter c d : ℕ) → Answer
answer_in letter c d =
    cond (eqb letter 116) (answer.Granted c d)
    (cond (eqb letter 108) (answer.Length d)
    (cond (eqb letter 114) (answer.Free c d)
    (cond (eqb letter 103) (answer.Regions c d)
    (cond (eqb letter 101) (answer.Held d)
    (cond (eqb letter 98) (answer.Refused 5)
    (cond (eqb letter 117) (answer.Refused 5)
    (cond (eqb letter 119) (answer.Refused 8) (cond (eqb letter 109) (answer.Refused 8) answer.Done))))))))

pub record RowClaims : Type 0 where
  pub n_asks : (size count : ℕ) → Asks 110 (size ∷ count ∷ []) (call.SetUp size count)
  pub z_asks : Asks 122 [] call.Reset
  pub t_asks : (size offset number : ℕ) → Asks 116 (size ∷ offset ∷ number ∷ []) (call.Take size)
  pub x_asks : (size : ℕ) → Asks 120 (size ∷ []) (call.Take size)
  pub f_asks : (offset number : ℕ) → Asks 102 (offset ∷ number ∷ []) (call.HandBack offset number)
  pub b_asks : (offset number : ℕ) → Asks 98 (offset ∷ number ∷ []) (call.HandBack offset number)
  pub w_asks : (offset number : ℕ) → Asks 119 (offset ∷ number ∷ []) (call.HandBack offset number)
  pub l_asks : (offset number length : ℕ) → Asks 108 (offset ∷ number ∷ length ∷ []) (call.SizeOf offset number)
  pub u_asks : (offset number length : ℕ) → Asks 117 (offset ∷ number ∷ length ∷ []) (call.SizeOf offset number)
  pub m_asks : (offset number length : ℕ) → Asks 109 (offset ∷ number ∷ length ∷ []) (call.SizeOf offset number)
  pub r_asks : (total largest : ℕ) → Asks 114 (total ∷ largest ∷ []) call.Report
  pub g_asks : (class value regions : ℕ) → Asks 103 (class ∷ value ∷ regions ∷ []) (call.ClassOf class)
  pub e_asks : (classes : ℕ) → Asks 101 (classes ∷ []) call.ClassesHeld
  -- and to ask is to be read as that call, no less
  pub asks_means : (letter : ℕ) (numbers : List ℕ) (c : Call) → Asks letter numbers c → call_of (row_read letter numbers) ≡ Some c
  -- a row of a list, whose letter is from a to z, agrees with no answer but its own
  pub agrees_with : (r : Reader) (c : Call) (a : Answer)
      → call_verdict r (said_of c a) ≡ Agrees
      → 97 ≤ r.letter
      → r.letter ≢ 120
      → a ≡ answer_in r.letter r.c r.d
  -- and x, a take that gave nothing, with 3 and 4 alone
  pub x_agrees_with : (r : Reader) (c : Call) (a : Answer)
      → call_verdict r (said_of c a) ≡ Agrees
      → r.letter ≡ 120
      → (a ≡ answer.Refused 3) ⊎ (a ≡ answer.Refused 4)
  -- a row that shows a listed difference does so with its own refusal alone: b and u with 5, w and m with 8, and no other row shows one
  pub listed_with : (r : Reader) (c : Call) (a : Answer)
      → call_verdict r (said_of c a) ≡ Listed
      → a ≡ answer_in r.letter r.c r.d
  pub listed_is_5_or_8 : (r : Reader) (c : Call) (a : Answer)
      → call_verdict r (said_of c a) ≡ Listed
      → (((r.letter ≡ 98) ⊎ (r.letter ≡ 117)) × (a ≡ answer.Refused 5))
      ⊎ (((r.letter ≡ 119) ⊎ (r.letter ≡ 109)) × (a ≡ answer.Refused 8))
