-- What a row that audits is held against: the number of the audit of the store as it is lent. Assumes nothing.
use Rattle.std.specs.Prelude.{ℕ, ◌≡◌, cond, List, ltb, length, take, replicate}
use Rattle.ledger.specs.Ledger as ledger
use Rattle.tables.specs.Calls.{edition32}
use Rattle.records.specs.InWords.{words_of}
use Rattle.records.specs.InWords.{zero_totals}
use Rattle.audit_words.specs.Audit.{audit_words}
use Rattle.oracle_lists.specs.declared.tally.Verdict.{Verdict}
use Rattle.oracle_lists.specs.declared.tally.Verdict.TheVariants.{Agrees}
use Rattle.audit_verdicts.specs.declared.State.{State}

-- before the list's first store
abbrev pub no_store_yet : State
no_store_yet = record {
  totals = zero_totals;
  nodes = 0;
  pile = 0;
  scratch = 0;
}

-- 0 for yes, or the refusal's number; an audit gives no other answer
abbrev pub number_in : ledger.Answer → ℕ
number_in (ledger.granted offset number) = 0
number_in ledger.done = 0
number_in (ledger.length_is length) = 0
number_in (ledger.reported total largest) = 0
number_in (ledger.classes report) = 0
number_in (ledger.refused number) = number

-- the number of no answer, where an array is shorter than it is to be lent
abbrev pub no_audit : ℕ
no_audit = 4294967295

-- the audit of the tables, each as long as it is lent
abbrev pub lent_number : State → (heads leaves nodes pile scratch : List ℕ) → ℕ
lent_number s heads leaves nodes pile scratch =
    number_in (audit_words edition32 (words_of s.totals heads leaves (take s.nodes nodes) (take s.pile pile)) (take s.scratch scratch)).0

unfoldable pub number_with : State → (heads leaves nodes pile scratch : List ℕ) → ℕ
number_with s heads leaves nodes pile scratch =
    cond (ltb (length nodes) s.nodes) no_audit
    (cond (ltb (length pile) s.pile) no_audit
    (cond (ltb (length scratch) s.scratch) no_audit (lent_number s heads leaves nodes pile scratch)))

-- the scratch holds 7 in each of its 16 words
abbrev pub audit_number : State → (heads leaves nodes pile : List ℕ) → ℕ
audit_number s heads leaves nodes pile = number_with s heads leaves nodes pile (replicate 16 7)

-- a row agrees only if the number that it says was found
abbrev pub OnlyIf : Verdict → (said found : ℕ) → Type 0
OnlyIf v said found = v ≡ Agrees → said ≡ found

-- from the other side: of a row that agrees it says that very number; proofs/Means.antt makes it
abbrev pub AgreesTells : Type 0
AgreesTells = (said found : ℕ) → OnlyIf Agrees said found → said ≡ found
