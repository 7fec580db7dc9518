-- A reading hangs on no more bytes than a record can have, and not on what stands before it. Assumes nothing.
use Prim.Native.Nat.{ℕ, zero, suc, ◌+◌, ◌*◌, ◌≤◌, ◌<◌}
use native.Mathlib.Omega.{arith}
use mathlib.Core.Path.{◌≡◌, refl, sym, ap, ◌∙◌}
use mathlib.Core.Bool.{Bool, true, false, cond}
use Rattle.std.specs.Prelude.{Option, None, Some}
use mathlib.Core.Logic.{◌≢◌}
use mathlib.Core.List.{List, [], ◌∷◌, ◌++◌}
use lib.Dec.{eqb, ltb}
use lib.ListN.{length, take, drop, replicate, length-append, length-drop, length-take, length-replicate}
use lib.Seq.{take-append-le, drop-append-le, drop-append-add}
use Rattle.basics.proofs.Clash.{clash}
use Rattle.basics.proofs.Decided.{below, beyond, below?}
use Rattle.calls.specs.declared.Call.{Call}
use Rattle.journal.specs.declared.entry.Broken.TheVariants.{Cut, UnknownKind}
use Rattle.journal.specs.Bytes.{number, AllBytes}
use Rattle.journal.specs.Writing.{body_of}
use Rattle.journal.specs.Reading.{Entry, Read, Refused, length_in, kind_in, field_in, call_of, judged, read_here, read_at}
use Rattle.journal.specs.Claims.{window, moved_on}
use Rattle.journal.proofs.Places.{here_cut, here_low, here_whole}
use Rattle.journal.proofs.WasWritten.{all_left, all_taken, number_below}

-- numbers that are taken from the first bytes, whatever follows
part_same : (k i : ℕ) (here more : List ℕ) → i + k ≤ length here → take k (drop i (here ++ more)) ≡ take k (drop i here)
part_same k i here more room =
    ap (take k) (drop-append-le i here more (omega (arith, room)))
    ∙ take-append-le k (drop i here) more (omega (arith, room, length-drop i here))

length_same : (here more : List ℕ) → 2 ≤ length here → length_in (here ++ more) ≡ length_in here
unfolding length_in
length_same here more room = ap number (part_same 2 0 here more room)

kind_same : (here more : List ℕ) → 4 ≤ length here → kind_in (here ++ more) ≡ kind_in here
unfolding kind_in
kind_same here more room = ap number (part_same 2 2 here more room)

field_same : (n : ℕ) (here more : List ℕ) → 4 + 4 * n + 4 ≤ length here → field_in n (here ++ more) ≡ field_in n here
unfolding field_in
field_same n here more room = ap number (part_same 4 (4 + 4 * n) here more room)

-- of the bytes a call takes its fields alone
call_same : (kind : ℕ) (one other : List ℕ) → field_in 0 one ≡ field_in 0 other → field_in 1 one ≡ field_in 1 other → call_of kind one ≡ call_of kind other
unfolding call_of
call_same kind one other first second = rw (first, second)

found_same : (here more : List ℕ) → 12 ≤ length here → call_of (kind_in (here ++ more)) (here ++ more) ≡ call_of (kind_in here) here
found_same here more room =
    ap (λ (k : ℕ). call_of k (here ++ more)) (kind_same here more (omega (arith, room)))
    ∙ call_same (kind_in here) (here ++ more) here (field_same 0 here more (omega (arith, room))) (field_same 1 here more (omega (arith, room)))

-- a length is a number of two bytes
named_below : (here : List ℕ) → AllBytes here → length_in here < 65536
unfolding length_in
named_below here all = number_below 2 (take 2 here) (omega (arith, length-take 2 here)) (all_taken 2 here all)

here_windowed : (here more : List ℕ) (at : ℕ) → AllBytes here → window ≤ length here → read_here (here ++ more) at ≡ read_here here at
here_windowed here more at all room =
    let small : length_in here < 65536 = named_below here all in
    let named : length_in (here ++ more) ≡ length_in here = length_same here more (omega (arith, room)) in
    let long : length (here ++ more) ≡ length here + length more = length-append here more in
    elim (below? (length_in here) 2) [
      | below low t ↦
          here_low (here ++ more) at (omega (arith, room, long)) (omega (arith, room, long, small, named)) (omega (arith, low, named))
          ∙ sym (here_low here at (omega (arith, room)) (omega (arith, room, small)) low)
      | beyond high t ↦
          here_whole (here ++ more) at (omega (arith, room, long)) (omega (arith, room, long, small, named)) (omega (arith, high, named))
          ∙ (λ i. judged (named i) at (found_same here more (omega (arith, room)) i))
          ∙ sym (here_whole here at (omega (arith, room)) (omega (arith, room, small)) high)
    ]

pub windowed : (bytes more : List ℕ) (at : ℕ) → AllBytes bytes → at + window ≤ length bytes → read_at (bytes ++ more) at ≡ read_at bytes at
unfolding read_at
windowed bytes more at all room =
    ap (λ (here : List ℕ). read_here here at) (drop-append-le at bytes more (omega (arith, room)))
    ∙ here_windowed (drop at bytes) more at (all_left at bytes all) (omega (arith, room, length-drop at bytes))

-- ---- one byte less is too few: a record of no kind, its length the greatest, is cut or not by the last one
noughts : (n : ℕ) → AllBytes (replicate n 0)
noughts zero = tt
noughts (suc n) = (omega arith, noughts n)

longest : ℕ → List ℕ
longest n = 255 ∷ 255 ∷ 0 ∷ 0 ∷ replicate n 0

last_sways : (n : ℕ) → n + 5 ≡ window → read_at (longest n ++ (0 ∷ [])) 0 ≢ read_at (longest n) 0
unfolding read_at longest length_in kind_in number call_of judged
last_sways n h e =
    let many : length {A = ℕ} (replicate n 0) ≡ n = length-replicate n 0 in
    let more : length {A = ℕ} (replicate n 0 ++ (0 ∷ [])) ≡ length {A = ℕ} (replicate n 0) + 1 = length-append (replicate n 0) (0 ∷ []) in
    let cut : read_here (longest n) 0 ≡ Refused Cut = here_cut (longest n) 0 (omega arith) (omega (arith, h, many)) in
    let whole : read_here (longest n ++ (0 ∷ [])) 0 ≡ Refused UnknownKind =
    here_whole (longest n ++ (0 ∷ [])) 0 (omega arith) (omega (arith, h, many, more)) (omega arith) in
    clash (cc)

needed : (n : ℕ) → n + 5 ≡ window
    → (bytes : List ℕ) × (more : List ℕ) × AllBytes bytes × (length bytes + 1 ≡ window) × (read_at (bytes ++ more) 0 ≢ read_at bytes 0)
unfolding longest
needed n h =
    let many : length {A = ℕ} (replicate n 0) ≡ n = length-replicate n 0 in
    (longest n, 0 ∷ [], (omega arith, (omega arith, (omega arith, (omega arith, noughts n)))), omega (arith, h, many), last_sways n h)

pub all_needed : (bytes : List ℕ) × (more : List ℕ) × AllBytes bytes × (length bytes + 1 ≡ window) × (read_at (bytes ++ more) 0 ≢ read_at bytes 0)
all_needed = needed 65532 refl

-- ---- further on
moved_choice : (k : ℕ) (t : Bool) (a b c d : Entry) → a ≡ moved_on k c → b ≡ moved_on k d → cond t a b ≡ moved_on k (cond t c d)
moved_choice k true a b c d e f = e
moved_choice k false a b c d e f = f

judged_moved : (k named at : ℕ) (found : Option Call) → judged named (k + at) found ≡ moved_on k (judged named at found)
unfolding judged
judged_moved k named at None = refl
judged_moved k named at (Some c) =
    let place : k + at + (2 + named) ≡ k + (at + (2 + named)) = omega arith in
    moved_choice k (eqb named (length (body_of c))) _ _ _ _ (ap (Read c) place) refl

here_moved : (k : ℕ) (here : List ℕ) (at : ℕ) → read_here here (k + at) ≡ moved_on k (read_here here at)
unfolding read_here
here_moved k here at =
    moved_choice k (eqb (length here) 0) _ _ _ _ refl
    (moved_choice k (ltb (length here) 4) _ _ _ _ refl
    (moved_choice k (ltb (length here) (2 + length_in here)) _ _ _ _ refl
    (moved_choice k (ltb (length_in here) 2) _ _ _ _ refl (judged_moved k (length_in here) at (call_of (kind_in here) here)))))

pub slid : (before bytes : List ℕ) (at : ℕ) → read_at (before ++ bytes) (length before + at) ≡ moved_on (length before) (read_at bytes at)
unfolding read_at
slid before bytes at =
    ap (λ (here : List ℕ). read_here here (length before + at)) (drop-append-add before bytes at) ∙ here_moved (length before) (drop at bytes) at
