-- A call is lent a copy of the head's scalars: what it promises of the copy it promises of the head. Assumes nothing.
use mathlib.Core.Path.{◌≡◌, subst}
use mathlib.Core.List.{List}
use Prim.Native.Nat.{ℕ}
use Rattle.ledger.specs.Ledger.{Answer}
use Rattle.ledger.specs.Calls.{Call}
use Rattle.tables.specs.Words.{Words, Edition}
use Rattle.tables.specs.Promise.{Promise}
use Rattle.records.specs.declared.totals.Totals.{Totals}
use Rattle.records.specs.InWords.{words_of}

pub on_a_copy : {E : Edition} {c : Call} {t u : Totals} {v : Words} {a : Answer} (heads leaves nodes pile : List ℕ) → t ≡ u
    → Promise E c (words_of t heads leaves nodes pile) v a → Promise E c (words_of u heads leaves nodes pile) v a
on_a_copy {E = E} {c = c} {v = v} {a = a} heads leaves nodes pile e p =
    subst (λ (s : Totals). Promise E c (words_of s heads leaves nodes pile) v a) e p
