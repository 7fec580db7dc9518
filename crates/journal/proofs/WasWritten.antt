-- What is read as a call was written. Assumes nothing.
use Prim.Native.Nat.{ℕ, zero, suc, ◌+◌, ◌-◌, ◌*◌, ◌^◌, ◌≤◌, ◌<◌}
use native.Mathlib.Omega.{arith}
use mathlib.Core.Path.{◌≡◌, sym, ap, subst, ◌∙◌}
use mathlib.Core.Bool.{Bool, cond}
use Rattle.std.specs.Prelude.{Option, None, Some}
use mathlib.Core.List.{List, [], ◌∷◌, ◌++◌}
use lib.ListN.{length, take, drop, length-drop, length-take}
use lib.Seq.{take-add, drop-drop, length-take-le}
use Rattle.basics.proofs.Clash.{clash}
use Rattle.basics.proofs.Decided.{same, differ, same?, below, beyond, below?}
use Rattle.calls.specs.declared.Call.{Call}
use Rattle.calls.specs.declared.Call.TheVariants.{Take, HandBack, SetUp, Reset}
use Rattle.calls.specs.Values.{Fits}
use Rattle.journal.specs.declared.entry.Broken.TheVariants.{WrongLength}
use Rattle.journal.specs.declared.entry.Record.{Record}
use Rattle.journal.specs.Bytes.{in_bytes, number, AllBytes}
use Rattle.journal.specs.Writing.{in_fields, body_of, record_of}
use Rattle.journal.specs.Reading.{Read, Refused, length_in, kind_in, field_in, call_of, judged, read_here, read_at}
use Rattle.journal.proofs.Numbers.{from_number}
use Rattle.journal.proofs.ReadBack.{own_lengths}
use Rattle.journal.proofs.Places.{here_end, here_short, here_cut, here_low, here_whole}

-- ---- bytes that are left, and bytes that are taken, are bytes
pub all_left : (k : ℕ) (bytes : List ℕ) → AllBytes bytes → AllBytes (drop k bytes)
all_left zero bytes all = all
all_left (suc k) [] all = tt
all_left (suc k) (byte ∷ bytes) all = all_left k bytes all.1

pub all_taken : (k : ℕ) (bytes : List ℕ) → AllBytes bytes → AllBytes (take k bytes)
all_taken zero bytes all = tt
all_taken (suc k) [] all = tt
all_taken (suc k) (byte ∷ bytes) all = (all.0, all_taken k bytes all.1)

-- their number is below 256 to as many
pub number_below : (k : ℕ) (bytes : List ℕ) → length bytes ≤ k → AllBytes bytes → number bytes < 256 ^ k
unfolding number
number_below zero [] most all = omega arith
number_below zero (byte ∷ bytes) most all = absurd (omega (arith, most))
number_below (suc k) [] most all = let rest : 0 < 256 ^ k = number_below k [] (omega arith) tt in omega (arith, rest)
number_below (suc k) (byte ∷ bytes) most all =
    let rest : number bytes < 256 ^ k = number_below k bytes (omega (arith, most)) all.1 in
    let small : byte < 256 = all.0 in
    omega (arith, rest, small)

-- ---- what a reading of a call says of the bytes that are left
pub record ReadMeans (here : List ℕ) (at : ℕ) (c : Call) (next : ℕ) : Type 0 where
  pub four : 4 ≤ length here
  pub whole : 2 + length_in here ≤ length here
  pub high : 2 ≤ length_in here
  pub found : call_of (kind_in here) here ≡ Some c
  pub own : length_in here ≡ length (body_of c)
  pub next_is : next ≡ at + (2 + length_in here)

-- what is read is one call, and one place behind it
pub same_read : (c d : Call) (next other : ℕ) → Read c next ≡ Read d other → (c ≡ d) × (next ≡ other)
same_read c d next other e =
    let both : ◌≡◌ {A = Record} record { call = c; next = next } record { call = d; next = other } = cc in
    (ap (λ (found : Record). found.call) both, ap (λ (found : Record). found.next) both)

-- a call is found, and it has the length of its kind
judged_means : (named at : ℕ) (found : Option Call) (c : Call) (next : ℕ) → judged named at found ≡ Read c next
    → (found ≡ Some c) × (named ≡ length (body_of c)) × (next ≡ at + (2 + named))
unfolding judged
judged_means named at None c next e = clash (cc)
judged_means named at (Some d) c next e = elim (same? named (length (body_of d))) [
  | same p t ↦
      let read : Read d (at + (2 + named)) ≡ Read c next = sym (ap (λ (b : Bool). cond b (Read d (at + (2 + named))) (Refused WrongLength)) t) ∙ e in
      let same = same_read d c (at + (2 + named)) next read in
      (ap Some same.0, p ∙ ap (λ (x : Call). length (body_of x)) same.0, sym same.1)
  | differ p t ↦
      let refused : Refused WrongLength ≡ Read c next = sym (ap (λ (b : Bool). cond b (Read d (at + (2 + named))) (Refused WrongLength)) t) ∙ e in
      clash (cc)
]

pub read_means : (here : List ℕ) (at : ℕ) (c : Call) (next : ℕ) → read_here here at ≡ Read c next → ReadMeans here at c next
read_means here at c next e = elim (below? (length here) 4) [
  | below few t ↦ elim (same? (length here) 0) [
    | same z u ↦ let ends = here_end here at z in clash (cc)
    | differ z u ↦ let cut = here_short here at (omega (arith, z)) few in clash (cc)
  ]
  | beyond four t ↦ elim (below? (length here) (2 + length_in here)) [
    | below fewer u ↦ let cut = here_cut here at four fewer in clash (cc)
    | beyond whole u ↦ elim (below? (length_in here) 2) [
      | below low v ↦ let wrong = here_low here at four whole low in clash (cc)
      | beyond high v ↦
          let means = judged_means (length_in here) at (call_of (kind_in here) here) c next (sym (here_whole here at four whole high) ∙ e) in
          record { four = four; whole = whole; high = high; found = means.0; own = means.1; next_is = means.2 }
    ]
  ]
]

-- ---- the bytes of a call that is read
-- bytes that are taken are those of their number
chunk : (k i : ℕ) (here : List ℕ) → AllBytes here → i + k ≤ length here → in_bytes k (number (take k (drop i here))) ≡ take k (drop i here)
chunk k i here all room =
    let part : List ℕ = take k (drop i here) in
    let long : length part ≡ k = length-take-le k (drop i here) (omega (arith, room, length-drop i here)) in
    subst (λ (n : ℕ). in_bytes n (number part) ≡ part) long (from_number part (all_taken k (drop i here) (all_left i here all)))

-- and what stands behind them follows
onward : (k i m : ℕ) (here : List ℕ) → take (k + m) (drop i here) ≡ take k (drop i here) ++ take m (drop (i + k) here)
onward k i m here = take-add k m (drop i here) ∙ ap (λ (rest : List ℕ). take k (drop i here) ++ take m rest) (drop-drop k i here)

-- the front: length and kind
front : (m : ℕ) (here : List ℕ) → AllBytes here → 4 ≤ length here
    → take (2 + (2 + m)) here ≡ in_bytes 2 (length_in here) ++ (in_bytes 2 (kind_in here) ++ take m (drop 4 here))
unfolding length_in kind_in
front m here all four =
    onward 2 0 (2 + m) here
    ∙ (λ i. sym (chunk 2 0 here all (omega (arith, four))) i ++ onward 2 2 m here i)
    ∙ ap (λ (x : List ℕ). in_bytes 2 (number (take 2 here)) ++ (x ++ take m (drop 4 here))) (sym (chunk 2 2 here all (omega (arith, four))))

-- a field, and what stands behind it
field : (n m : ℕ) (here : List ℕ) → AllBytes here → 4 + 4 * n + 4 ≤ length here
    → take (4 + m) (drop (4 + 4 * n) here) ≡ in_bytes 4 (field_in n here) ++ take m (drop (4 + 4 * n + 4) here)
unfolding field_in
field n m here all room =
    onward 4 (4 + 4 * n) m here
    ∙ ap (λ (x : List ℕ). x ++ take m (drop (4 + 4 * n + 4) here)) (sym (chunk 4 (4 + 4 * n) here all room))

field_fits : (n : ℕ) (here : List ℕ) → AllBytes here → field_in n here < 2 ^ 32
unfolding field_in
field_fits n here all =
    let small : number (take 4 (drop (4 + 4 * n) here)) < 256 ^ 4 =
    number_below 4 (take 4 (drop (4 + 4 * n) here)) (omega (arith, length-take 4 (drop (4 + 4 * n) here)))
    (all_taken 4 (drop (4 + 4 * n) here) (all_left (4 + 4 * n) here all)) in
    small

-- which call was found: by its kind, with the fields that stand there
data FoundAs (kind : ℕ) (here : List ℕ) : Call → Type 0 where
  as_take : kind ≡ 1 → FoundAs kind here (Take record { 0 = field_in 0 here })
  as_hand_back : kind ≡ 2 → FoundAs kind here (HandBack record { offset = field_in 1 here; metadata = record { 0 = field_in 0 here } })
  as_set_up : kind ≡ 3 → FoundAs kind here (SetUp record { 0 = field_in 0 here } (field_in 1 here))
  as_reset : kind ≡ 4 → FoundAs kind here Reset

found_as : (kind : ℕ) (here : List ℕ) (c : Call) → call_of kind here ≡ Some c → FoundAs kind here c
unfolding call_of
found_as kind here c e = elim (same? kind 1) [
  | same p t ↦
      let is : Some (Take record { 0 = field_in 0 here }) ≡ Some c = rw t at e in
      subst (FoundAs kind here) (cc) (as_take p)
  | differ p t ↦ elim (same? kind 2) [
    | same q u ↦
        let is : Some (HandBack record { offset = field_in 1 here; metadata = record { 0 = field_in 0 here } }) ≡ Some c = rw (t, u) at e in
        subst (FoundAs kind here) (cc) (as_hand_back q)
    | differ q u ↦ elim (same? kind 3) [
      | same r v ↦
          let is : Some (SetUp record { 0 = field_in 0 here } (field_in 1 here)) ≡ Some c = rw (t, u, v) at e in
          subst (FoundAs kind here) (cc) (as_set_up r)
      | differ r v ↦ elim (same? kind 4) [
        | same x w ↦
            let is : Some Reset ≡ Some c = rw (t, u, v, w) at e in
            subst (FoundAs kind here) (cc) (as_reset x)
        | differ x w ↦ let is : ◌≡◌ {A = Option Call} None (Some c) = rw (t, u, v, w) at e in clash (cc)
      ]
    ]
  ]
]

-- a record with two fields
with_two : (kind : ℕ) (here : List ℕ) → AllBytes here → 4 ≤ length here → 2 + length_in here ≤ length here → length_in here ≡ 10 → kind_in here ≡ kind
    → take 12 here ≡ in_bytes 2 10 ++ (in_bytes 2 kind ++ (in_bytes 4 (field_in 0 here) ++ (in_bytes 4 (field_in 1 here) ++ [])))
with_two kind here all four whole own is =
    let first = field 0 4 here all (omega (arith, own, whole)) in
    let second = field 1 0 here all (omega (arith, own, whole)) in
    front 8 here all four
    ∙ (λ i. in_bytes 2 (own i) ++ (in_bytes 2 (is i) ++ first i))
    ∙ ap (λ (rest : List ℕ). in_bytes 2 10 ++ (in_bytes 2 kind ++ (in_bytes 4 (field_in 0 here) ++ rest))) second

-- its record stands there, and its fields are 32-bit numbers
stands : (here : List ℕ) (c : Call) → AllBytes here → 4 ≤ length here → 2 + length_in here ≤ length here → length_in here ≡ length (body_of c)
    → FoundAs (kind_in here) here c → (take (length (record_of c)) here ≡ record_of c) × Fits c
unfolding record_of body_of in_fields
stands here c all four whole own (as_take kind) = (
  front 4 here all four
      ∙ (λ i. in_bytes 2 (own i) ++ (in_bytes 2 (kind i) ++ field 0 0 here all (omega (arith, own, whole)) i)),
  (field_fits 0 here all, tt),
)
stands here c all four whole own (as_hand_back kind) =
    (with_two 2 here all four whole own kind, (field_fits 0 here all, (field_fits 1 here all, tt)))
stands here c all four whole own (as_set_up kind) =
    (with_two 3 here all four whole own kind, (field_fits 0 here all, (field_fits 1 here all, tt)))
stands here c all four whole own (as_reset kind) =
    (front 0 here all four ∙ (λ i. in_bytes 2 (own i) ++ (in_bytes 2 (kind i) ++ [])), tt)

pub was_written : (bytes : List ℕ) (at next : ℕ) (c : Call) → AllBytes bytes → read_at bytes at ≡ Read c next
    → (take (length (record_of c)) (drop at bytes) ≡ record_of c) × (next ≡ at + length (record_of c)) × (next ≤ length bytes) × Fits c
unfolding read_at
was_written bytes at next c all e =
    let here : List ℕ = drop at bytes in
    let means = read_means here at c next e in
    let there = stands here c (all_left at bytes all) means.four means.whole means.own (found_as (kind_in here) here c means.found) in
    let own : length (record_of c) ≡ 2 + length (body_of c) = (own_lengths c).0 in
    let named = means.own in
    let place = means.next_is in
    let room = means.whole in
    let some = means.four in
    let left : length here ≡ length bytes - at = length-drop at bytes in
    (there.0, omega (arith, place, own, named), omega (arith, place, room, left, some), there.1)
