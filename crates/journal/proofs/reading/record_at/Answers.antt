-- By the kind that stands there and the length of its kind, with the fields at their places. Assumes nothing.
use mathlib.Core.List.{List}
use mathlib.Core.Path.{◌≡◌, refl, ap, ◌∙◌}
use Prim.Native.Nat.{ℕ, ◌+◌}
use lib.ListN.{drop}
use Rattle.calls.specs.declared.Call.TheVariants.{Take, HandBack, SetUp, Reset}
use Rattle.journal.specs.Bytes.{in_bytes}
use Rattle.journal.specs.Writing.{in_fields, body_of}
use Rattle.journal.specs.Reading.{call_of, field_in}
use Rattle.journal.proofs.KnownKinds.{judged_right, judged_wrong, field_at, by_kind, unknown}
use Rattle.journal.proofs.reading.record_at.Goals as goal
use Rattle.journal.proofs.reading.record_at.Goals.{in-1-eq6, in-2-eq10, in-3-eq10, in-4-eq2}

pub returns-in-1-to-4-default : goal.returns-in-1-to-4-default
unfolding call_of body_of in_fields in_bytes
returns-in-1-to-4-default c =
    let here : List ℕ = drop c.args.at c.args.bytes.now in
    judged_wrong c.args.len c.args.at (Take record { 0 = field_in 0 here }) c.in-1-to-4-default.is-1.1
    ∙ by_kind c.args.len c.args.at c.get16.result 1 c.args.bytes.now c.get16.ensures.0 c.in-1-to-4-default.is-0

pub returns-in-1-to-4-default-2 : goal.returns-in-1-to-4-default-2
unfolding call_of body_of in_fields in_bytes
returns-in-1-to-4-default-2 c =
    let here : List ℕ = drop c.args.at c.args.bytes.now in
    judged_wrong c.args.len c.args.at (HandBack record { offset = field_in 1 here; metadata = record { 0 = field_in 0 here } })
    c.in-1-to-4-default.is-1.1
    ∙ by_kind c.args.len c.args.at c.get16.result 2 c.args.bytes.now c.get16.ensures.0 c.in-1-to-4-default.is-0

pub returns-in-1-to-4-default-3 : goal.returns-in-1-to-4-default-3
unfolding call_of body_of in_fields in_bytes
returns-in-1-to-4-default-3 c =
    let here : List ℕ = drop c.args.at c.args.bytes.now in
    judged_wrong c.args.len c.args.at (SetUp record { 0 = field_in 0 here } (field_in 1 here)) c.in-1-to-4-default.is-1.1
    ∙ by_kind c.args.len c.args.at c.get16.result 3 c.args.bytes.now c.get16.ensures.0 c.in-1-to-4-default.is-0

pub returns-in-1-to-4-default-4 : goal.returns-in-1-to-4-default-4
unfolding call_of body_of in_fields in_bytes
returns-in-1-to-4-default-4 c =
    judged_wrong c.args.len c.args.at Reset c.in-1-to-4-default.is-1.1
    ∙ by_kind c.args.len c.args.at c.get16.result 4 c.args.bytes.now c.get16.ensures.0 c.in-1-to-4-default.is-0

pub returns-in_default : goal.returns-in_default
returns-in_default c =
    let none = c.in_default.is-0 in
    unknown c.args.len c.args.at c.get16.result c.args.bytes.now c.get16.ensures.0 none.0.0.0.1 none.0.0.1 none.0.1 none.1

pub returns : goal.returns
unfolding call_of body_of in_fields in_bytes
returns c =
    let bytes : List ℕ = c.args.bytes.now in
    let at : ℕ = c.args.at in
    let here : List ℕ = drop at bytes in
    elim c.match-get16.branch [
      | in-1-eq6 w ↦
          let size : w.get32.result ≡ field_in 0 here = w.get32.ensures ∙ field_at 0 at (at + 4) bytes refl in
          judged_right c.args.len at (Take record { 0 = field_in 0 here }) c.match-get16.call w.in-1-eq6.is-1
          (w.call-is ∙ ap (λ (n : ℕ). Take record { 0 = n }) size)
          ∙ by_kind c.args.len at c.get16.result 1 bytes c.get16.ensures.0 w.in-1-eq6.is-0
      | in-2-eq10 w ↦
          let handle : w.get32-in-2-eq10.result ≡ field_in 0 here = w.get32-in-2-eq10.ensures ∙ field_at 0 at (at + 4) bytes refl in
          let offset : w.get32-in-2-eq10-2.result ≡ field_in 1 here = w.get32-in-2-eq10-2.ensures ∙ field_at 1 at (at + 8) bytes refl in
          judged_right c.args.len at (HandBack record { offset = field_in 1 here; metadata = record { 0 = field_in 0 here } }) c.match-get16.call
          w.in-2-eq10.is-1 (w.call-is ∙ (λ i. HandBack record { offset = offset i; metadata = record { 0 = handle i } }))
          ∙ by_kind c.args.len at c.get16.result 2 bytes c.get16.ensures.0 w.in-2-eq10.is-0
      | in-3-eq10 w ↦
          let size : w.get32-in-3-eq10.result ≡ field_in 0 here = w.get32-in-3-eq10.ensures ∙ field_at 0 at (at + 4) bytes refl in
          let count : w.get32-in-3-eq10-2.result ≡ field_in 1 here = w.get32-in-3-eq10-2.ensures ∙ field_at 1 at (at + 8) bytes refl in
          judged_right c.args.len at (SetUp record { 0 = field_in 0 here } (field_in 1 here)) c.match-get16.call w.in-3-eq10.is-1
          (w.call-is ∙ (λ i. SetUp record { 0 = size i } (count i)))
          ∙ by_kind c.args.len at c.get16.result 3 bytes c.get16.ensures.0 w.in-3-eq10.is-0
      | in-4-eq2 w ↦
          judged_right c.args.len at Reset c.match-get16.call w.in-4-eq2.is-1 w.call-is
          ∙ by_kind c.args.len at c.get16.result 4 bytes c.get16.ensures.0 w.in-4-eq2.is-0
    ]
