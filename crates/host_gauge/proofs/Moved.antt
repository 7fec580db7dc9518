-- What a reading promises of words and a gauge it promises of the same, put together elsewhere. Assumes nothing.
use mathlib.Core.Path.{◌≡◌, subst}
use Rattle.tables.specs.Words.{Words, Edition}
use Rattle.gauge.specs.Rule.{Watch}
use Rattle.gauge.specs.Answers.{Told}
use Rattle.gauge.specs.Promise.{ReadPromise}

pub read_moved : {E : Edition} {w x : Words} {g h left : Watch} {told : Told} → w ≡ x → g ≡ h → ReadPromise E w g told left → ReadPromise E x h told left
read_moved {E = E} {x = x} {g = g} {left = left} {told = told} words gauge p =
    subst (λ (y : Watch). ReadPromise E x y told left) gauge (subst (λ (u : Words). ReadPromise E u g told left) words p)
