-- Whole journals: each holds some calls and ends, in one way; and what it holds was written. Assumes nothing.
use Prim.Native.Nat.{ℕ, zero, suc, ◌+◌, ◌-◌, ◌≤◌, ◌<◌}
use native.Mathlib.Omega.{arith}
use mathlib.Core.Path.{◌≡◌, refl, sym, ap, subst, ◌∙◌}
use mathlib.Core.List.{List, [], ◌∷◌, ◌++◌, append_assoc}
use lib.ListN.{length, take, drop, length-drop, take-append-drop}
use lib.Seq.{drop-drop}
use Rattle.std.specs.Prelude.{Some, None, Ok, Err}
use Rattle.basics.proofs.Clash.{clash}
use Rattle.basics.proofs.Decided.{below, beyond, below?}
use Rattle.calls.specs.declared.Call.{Call}
use Rattle.journal.specs.Bytes.{AllBytes}
use Rattle.journal.specs.Writing.{record_of, journal_of}
use Rattle.journal.specs.Reading.{Entry, Read, End, read_at, Ending, ended, broken, Holds, no_more, breaks, one_more}
use Rattle.journal.specs.Claims.{AllCallsFit}
use Rattle.journal.proofs.Places.{not_at_end}
use Rattle.journal.proofs.WasWritten.{same_read, read_means, was_written}

-- reading goes on
further : (bytes : List ℕ) (at next : ℕ) (c : Call) → read_at bytes at ≡ Read c next → (at < next) × (at < length bytes)
unfolding read_at
further bytes at next c e =
    let means = read_means (drop at bytes) at c next e in
    let place = means.next_is in
    let some = means.four in
    let left : length (drop at bytes) ≡ length bytes - at = length-drop at bytes in
    (omega (arith, place), omega (arith, some, left))

pub record HoldsSome (bytes : List ℕ) (at : ℕ) : Type 0 where
  pub calls : List Call
  pub end : Ending
  pub holds : Holds bytes at calls end

holds_within : (steps : ℕ) (bytes : List ℕ) (at : ℕ) → length bytes - at < steps → HoldsSome bytes at
holds_within zero bytes at few = absurd (omega (arith, few))
holds_within (suc steps) bytes at few = go (read_at bytes at) refl (λ next near. holds_within steps bytes next near)
  where
    go : (found : Entry) → read_at bytes at ≡ found → ((next : ℕ) → length bytes - next < steps → HoldsSome bytes next) → HoldsSome bytes at
    go (Ok None) e later = record { calls = []; end = ended; holds = no_more e }
    go (Err why) e later = record { calls = []; end = broken why; holds = breaks e }
    go (Ok (Some found)) e later =
        let c : Call = found.call in
        let next : ℕ = found.next in
        let on = further bytes at next c e in
        let less = on.0 in
        let inside = on.1 in
        let rest : HoldsSome bytes next = later next (omega (arith, few, less, inside)) in
        record { calls = c ∷ rest.calls; end = rest.end; holds = one_more e rest.holds }

pub holds_some : (bytes : List ℕ) (at : ℕ) → (cs : List Call) × (end : Ending) × Holds bytes at cs end
holds_some bytes at =
    let some = holds_within (suc (length bytes - at)) bytes at (omega arith) in
    (some.calls, some.end, some.holds)

pub holds_one : {bytes : List ℕ} {at : ℕ} {cs ds : List Call} {end other : Ending} → Holds bytes at cs end → Holds bytes at ds other
    → (cs ≡ ds) × (end ≡ other)
holds_one (no_more e) (no_more f) = (refl, refl)
holds_one (no_more e) (breaks f) = clash (cc)
holds_one (no_more e) (one_more f k) = clash (cc)
holds_one (breaks e) (no_more f) = clash (cc)
holds_one (breaks {why = why} e) (breaks {why = other} f) =
    let one : why ≡ other = cc in
    (refl, ap broken one)
holds_one (breaks e) (one_more f k) = clash (cc)
holds_one (one_more e h) (no_more f) = clash (cc)
holds_one (one_more e h) (breaks f) = clash (cc)
holds_one {bytes = bytes} (one_more {next = next} {c = c} {cs = cs} {end = end} e h) (one_more {next = other} {c = d} {cs = ds} {end = end'} f k) =
    let same = same_read c d next other (sym e ∙ f) in
    let there : Holds bytes other cs end = subst (λ (p : ℕ). Holds bytes p cs end) same.1 h in
    let rest = holds_one {bytes = bytes} {at = other} {cs = cs} {ds = ds} {end = end} {other = end'} there k in
    ((λ i. same.0 i ∷ rest.0 i), rest.1)

-- ---- what it holds was written
none_left : (l : List ℕ) → length l ≤ 0 → l ≡ []
none_left [] h = refl
none_left (x ∷ l) h = absurd (omega (arith, h))

ends_there : (bytes : List ℕ) (at : ℕ) → read_at bytes at ≡ End → drop at bytes ≡ []
unfolding read_at
ends_there bytes at e =
    let here : List ℕ = drop at bytes in
    elim (below? 0 (length here)) [
      | below some t ↦ absurd (not_at_end here at some e)
      | beyond nothing t ↦ none_left here nothing
    ]

was_in : (bytes : List ℕ) (at : ℕ) (c : Call) (next : ℕ) (rest : List ℕ) → take (length (record_of c)) (drop at bytes) ≡ record_of c
    → next ≡ at + length (record_of c) → drop next bytes ≡ rest → drop at bytes ≡ record_of c ++ rest
was_in bytes at c next rest there place behind =
    sym (take-append-drop (length (record_of c)) (drop at bytes))
    ∙ (λ i. there i ++ (drop-drop (length (record_of c)) at bytes ∙ ap (λ (p : ℕ). drop p bytes) (sym place) ∙ behind) i)

pub held_was_written : (bytes : List ℕ) (at : ℕ) (cs : List Call) (end : Ending) → AllBytes bytes → Holds bytes at cs end
    → (rest : List ℕ) × (drop at bytes ≡ journal_of cs ++ rest) × (end ≡ ended → rest ≡ []) × AllCallsFit cs
unfolding journal_of
held_was_written bytes at cs end all (no_more e) = (drop at bytes, refl, (λ x. ends_there bytes at e), tt)
held_was_written bytes at cs end all (breaks e) = (drop at bytes, refl, (λ x. clash (cc)), tt)
held_was_written bytes at cs end all (one_more {next = next} {c = c} {cs = ds} e h) =
    let was = was_written bytes at next c all e in
    let later = held_was_written bytes next ds end all h in (
      later.0,
      was_in bytes at c next (journal_of ds ++ later.0) was.0 was.1 later.1 ∙ sym (append_assoc (record_of c) (journal_of ds) later.0),
      later.2,
      (was.3, later.3),
    )
