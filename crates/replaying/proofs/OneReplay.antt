-- One outcome of a step, and of a replay. Assumes nothing.
use mathlib.Core.Path.{◌≡◌, refl, sym, ap, subst, ◌∙◌}
use mathlib.Core.List.{List, ◌∷◌}
use Prim.Native.Nat.{ℕ}
use Rattle.basics.proofs.Clash.{clash}
use Rattle.ledger.specs.Ledger as ledger
use Rattle.tables.specs.Words.{Words, Edition}
use Rattle.calls.specs.declared.Call.{Call}
use Rattle.calls.specs.Values.{Answer, says}
use Rattle.calls.proofs.OneValue.{one_value}
use Rattle.calling.specs.Makes.{Makes}
use Rattle.records.specs.InWords.{InPlace, placed_words}
use Rattle.records.proofs.InPlace.{placed}
use Rattle.calling.proofs.OneMade.{one_of_them}
use Rattle.journal.specs.declared.entry.Broken.{Broken}
use Rattle.journal.specs.Reading as entry
use Rattle.journal.specs.Reading.{Entry, Ending, broken}
use Rattle.replaying.specs.declared.Made.{Made}
use Rattle.replaying.specs.Steps.{Outcome, Answered, AtEnd, BrokenOff, Steps, answered, at_end, broken_off}
use Rattle.replaying.specs.Replays.{Replays, ends, breaks_off, goes_on}

-- what comes of a call that is made is one answer, and one place behind it
same_made : (a b : Answer) (next other : ℕ) → Answered a next ≡ Answered b other → (a ≡ b) × (next ≡ other)
same_made a b next other e =
    let both : ◌≡◌ {A = Made} record { answer = a; next = next } record { answer = b; next = other } = cc in
    (ap (λ (made : Made). made.answer) both, ap (λ (made : Made). made.next) both)

module _ (E : Edition) where
  -- ---- what a step's outcome says of what stood there
  pub ended_means : {w v : Words} {found : Entry} → Steps E w v found AtEnd → (found ≡ entry.End) × (v ≡ w)
  ended_means (at_end e) = (refl, e)

  pub broken_means : {w v : Words} {found : Entry} {why : Broken} → Steps E w v found (BrokenOff why) → (found ≡ entry.Refused why) × (v ≡ w)
  broken_means (broken_off e) = (refl, e)

  pub answered_means : {w v : Words} {found : Entry} {a : Answer} {next : ℕ} → Steps E w v found (Answered a next)
      → (c : Call) × (found ≡ entry.Read c next) × Makes E c w v (says a)
  answered_means (answered {c = c} m) = (c, refl, m)

  -- ---- any two outcomes coincide
  pub one_step : {w v u : Words} {found : Entry} {one other : Outcome} → Steps E w v found one → Steps E w u found other → (one ≡ other) × (v ≡ u)
  one_step {w} {v} {u} (answered {c = c} {next = next} {a = a} m) (answered {a = b} n) =
      let same = (one_of_them E).one_made c w v u (says a) (says b) m n in
      (ap (λ (x : Answer). Answered x next) (one_value.of_any a b same.0), same.1)
  one_step (at_end e) (at_end f) = (refl, e ∙ sym f)
  one_step (broken_off e) (broken_off f) = (refl, e ∙ sym f)

  pub one_result : (w : Words) (v u : InPlace) (found : Entry) (one other : Outcome) → Steps E w (placed_words v) found one
      → Steps E w (placed_words u) found other → (one ≡ other) × (v ≡ u)
  one_result w v u found one other p q = let same = one_step p q in (same.0, placed v u same.1)

  pub one_replay : {bytes : List ℕ} {at : ℕ} {w v u : Words} {given others : List ledger.Answer} {end other : Ending}
      → Replays E bytes at w given end v → Replays E bytes at w others other u → (given ≡ others) × (end ≡ other) × (v ≡ u)
  one_replay (ends s) (ends t) = (refl, refl, (one_step s t).1)
  one_replay (ends s) (breaks_off t) = let same = (one_step s t).0 in clash (cc)
  one_replay (ends s) (goes_on t more) = let same = (one_step s t).0 in clash (cc)
  one_replay (breaks_off s) (ends t) = let same = (one_step s t).0 in clash (cc)
  one_replay (breaks_off {why = why} s) (breaks_off {why = besides} t) =
      let same = one_step s t in
      let outcome = same.0 in
      let one : why ≡ besides = cc in
      (refl, ap broken one, same.1)
  one_replay (breaks_off s) (goes_on t more) = let same = (one_step s t).0 in clash (cc)
  one_replay (goes_on s rest) (ends t) = let same = (one_step s t).0 in clash (cc)
  one_replay (goes_on s rest) (breaks_off t) = let same = (one_step s t).0 in clash (cc)
  one_replay {bytes = bytes} (goes_on {next = next} {v = v} {u = u} {a = a} {given = given} {end = end} s rest)
      (goes_on {next = place} {v = x} {u = y} {a = b} {given = others} {end = other} t more) =
      let same = one_step s t in
      let made = same_made a b next place same.0 in
      let answers : a ≡ b = made.0 in
      let places : next ≡ place = made.1 in
      let there : Replays E bytes place v given end u = subst (λ (p : ℕ). Replays E bytes p v given end u) places rest in
      let again : Replays E bytes place x given end u = subst (λ (z : Words). Replays E bytes place z given end u) same.1 there in
      let later = one_replay {bytes = bytes} {at = place} {w = x} {v = u} {u = y} {given = given} {others = others} {end = end} {other = other} again more in
      ((λ i. says (answers i) ∷ later.0 i), later.1, later.2)
