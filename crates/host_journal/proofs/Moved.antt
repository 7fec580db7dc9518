-- What a step does on scalars that were read from an array and were put into it, it does on the arrays. Assumes nothing.
use mathlib.Core.Path.{◌≡◌, subst}
use mathlib.Core.List.{List}
use Prim.Native.Nat.{ℕ}
use Rattle.tables.specs.Words.{Edition}
use Rattle.records.specs.declared.totals.Totals.{Totals}
use Rattle.records.specs.InWords.{words_of, in_array, of_array}
use Rattle.journal.specs.Reading.{Entry}
use Rattle.replaying.specs.Steps.{Outcome, Steps}
use Rattle.host_values.specs.Kept.{words_in}
use Rattle.host_values.proofs.Kept.{in_it}

pub step_kept : {E : Edition} {t u : Totals} {after : List ℕ} {found : Entry} {o : Outcome} (before hs ls ns ps gs ks ms qs : List ℕ)
    → t ≡ of_array before → after ≡ in_array u → Steps E (words_of t hs ls ns ps) (words_of u gs ks ms qs) found o
    → Steps E (words_in before hs ls ns ps) (words_in after gs ks ms qs) found o
step_kept {E = E} {u = u} {found = found} {o = o} before hs ls ns ps gs ks ms qs read put p =
    subst (λ (s : Totals). Steps E (words_in before hs ls ns ps) (words_of s gs ks ms qs) found o) (in_it put)
    (subst (λ (s : Totals). Steps E (words_of s hs ls ns ps) (words_of u gs ks ms qs) found o) read p)
