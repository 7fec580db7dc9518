-- Every claim of the format. Assumes nothing.
use Prim.Native.Nat.{ℕ, suc, ◌+◌, ◌-◌, ◌≤◌, ◌<◌}
use native.Mathlib.Omega.{arith}
use mathlib.Core.Path.{◌≡◌, refl, sym, ap, ◌∙◌}
use mathlib.Core.Logic.{◌≢◌}
use mathlib.Core.List.{List, [], ◌∷◌}
use borrow.Author.Tests.{ne_eqb}
use lib.ListN.{length, drop, get_or, length-drop}
use Rattle.basics.proofs.Decided.{below, beyond, below?}
use Rattle.calls.specs.declared.Call.{Call}
use Rattle.calls.specs.declared.Call.TheVariants.{Take, HandBack, SetUp, Reset}
use Rattle.journal.specs.declared.entry.Broken.TheVariants.{Cut, UnknownKind, WrongLength}
use Rattle.journal.specs.Bytes.{in_bytes, AllBytes}
use Rattle.journal.specs.Writing.{kind_of, in_fields, body_of, record_of, journal_of}
use Rattle.journal.specs.Reading.{End, Refused, length_in, kind_in, field_in, call_of, judged, read_at}
use Rattle.journal.specs.Claims.{example_calls, example_bytes, Whole, JournalClaims}
use Rattle.journal.proofs.KnownKinds.{judged_wrong}
use Rattle.journal.proofs.Places.{here_end, here_short, here_cut, here_low, here_whole}
use Rattle.journal.proofs.Outcomes.{one_writing}
use Rattle.journal.proofs.ReadBack.{own_lengths, reads_back, written_holds}
use Rattle.journal.proofs.WasWritten.{was_written}
use Rattle.journal.proofs.Journals.{holds_some, holds_one, held_was_written}
use Rattle.journal.proofs.Windows.{windowed, all_needed, slid}

example : journal_of example_calls ≡ example_bytes
unfolding journal_of record_of body_of in_fields in_bytes
example = refl

-- by its kind, and whatever its fields
wrong_of : (named at : ℕ) (here : List ℕ) (c : Call) → named ≢ length (body_of c) → judged named at (call_of (kind_of c) here) ≡ Refused WrongLength
unfolding call_of body_of in_fields in_bytes
wrong_of named at here (Take size) other = sym (judged_wrong named at (Take record { 0 = field_in 0 here }) other)
wrong_of named at here (HandBack span) other =
    sym (judged_wrong named at (HandBack record { offset = field_in 1 here; metadata = record { 0 = field_in 0 here } }) other)
wrong_of named at here (SetUp size count) other = sym (judged_wrong named at (SetUp record { 0 = field_in 0 here } (field_in 1 here)) other)
wrong_of named at here Reset other = sym (judged_wrong named at Reset other)

module _ (bytes : List ℕ) (at : ℕ) where
  left : length (drop at bytes) ≡ length bytes - at
  left = length-drop at bytes

  the_end : length bytes ≤ at → read_at bytes at ≡ End
  unfolding read_at
  the_end h = here_end (drop at bytes) at (omega (arith, h, left))

  too_few : at < length bytes → length bytes < at + 4 → read_at bytes at ≡ Refused Cut
  unfolding read_at
  too_few any few = here_short (drop at bytes) at (omega (arith, any, left)) (omega (arith, few, any, left))

  cut_short : at + 4 ≤ length bytes → length bytes < at + (2 + length_in (drop at bytes)) → read_at bytes at ≡ Refused Cut
  unfolding read_at
  cut_short four fewer = here_cut (drop at bytes) at (omega (arith, four, left)) (omega (arith, four, fewer, left))

  length_below_2 : Whole bytes at → length_in (drop at bytes) < 2 → read_at bytes at ≡ Refused WrongLength
  unfolding read_at
  length_below_2 whole low =
      let four = whole.0 in
      let all = whole.1 in
      here_low (drop at bytes) at (omega (arith, four, left)) (omega (arith, four, all, left)) low

  -- a whole record with a length of two at least is judged by its kind
  judged_there : Whole bytes at → 2 ≤ length_in (drop at bytes)
      → read_at bytes at ≡ judged (length_in (drop at bytes)) at (call_of (kind_in (drop at bytes)) (drop at bytes))
  unfolding read_at
  judged_there whole high =
      let four = whole.0 in
      let all = whole.1 in
      here_whole (drop at bytes) at (omega (arith, four, left)) (omega (arith, four, all, left)) high

  unknown_kind : Whole bytes at → 2 ≤ length_in (drop at bytes) → ((c : Call) → kind_in (drop at bytes) ≢ kind_of c)
      → read_at bytes at ≡ Refused UnknownKind
  unfolding call_of judged
  unknown_kind whole high never =
      let kind : ℕ = kind_in (drop at bytes) in
      let unknown : judged (length_in (drop at bytes)) at (call_of kind (drop at bytes)) ≡ Refused UnknownKind =
      rw (
        ne_eqb kind 1 (never (Take record { 0 = 0 })),
        ne_eqb kind 2 (never (HandBack record { offset = 0; metadata = record { 0 = 0 } })),
        ne_eqb kind 3 (never (SetUp record { 0 = 0 } 0)),
        ne_eqb kind 4 (never Reset),
      ) in
      judged_there whole high ∙ unknown

  wrong_length : (c : Call) → Whole bytes at → 2 ≤ length_in (drop at bytes) → kind_in (drop at bytes) ≡ kind_of c
      → 2 + length_in (drop at bytes) ≢ length (record_of c) → read_at bytes at ≡ Refused WrongLength
  wrong_length c whole high kind other =
      let named : ℕ = length_in (drop at bytes) in
      let own : length (record_of c) ≡ 2 + length (body_of c) = (own_lengths c).0 in
      judged_there whole high
      ∙ ap (λ (k : ℕ). judged named at (call_of k (drop at bytes))) kind
      ∙ wrong_of (length_in (drop at bytes)) at (drop at bytes) c (λ (e : named ≡ length (body_of c)). other (omega (arith, e, own)))

whole_exactly : (bytes : List ℕ) (at : ℕ) → at < length bytes → read_at bytes at ≢ Refused Cut → Whole bytes at
whole_exactly bytes at any not-cut = elim (below? (length bytes) (at + 4)) [
  | below few t ↦ absurd (not-cut (too_few bytes at any few))
  | beyond four t ↦ elim (below? (length bytes) (at + (2 + length_in (drop at bytes)))) [
    | below fewer u ↦ absurd (not-cut (cut_short bytes at four fewer))
    | beyond all u ↦ (four, all)
  ]
]

are_bytes : (bytes : List ℕ) → ((i : ℕ) → i < length bytes → get_or bytes i 0 < 256) → AllBytes bytes
are_bytes [] small = tt
are_bytes (byte ∷ bytes) small = (small 0 (omega arith), are_bytes bytes (λ i h. small (suc i) (omega (arith, h))))

pub journal_claims : JournalClaims
journal_claims = record {
  example = example;
  reads_back = reads_back;
  written_holds = written_holds;
  was_written = was_written;
  held_was_written = held_was_written;
  holds_some = holds_some;
  holds_one = λ bytes at cs ds end other p q. holds_one p q;
  the_end = the_end;
  too_few = too_few;
  cut_short = cut_short;
  length_below_2 = length_below_2;
  unknown_kind = unknown_kind;
  wrong_length = wrong_length;
  whole_exactly = whole_exactly;
  windowed = windowed;
  all_needed = all_needed;
  slid = slid;
  are_bytes = are_bytes;
  take_fits = λ n h. (h, tt);
  hand_back_fits = λ n m h k. (h, (k, tt));
  setup_fits = λ n m h k. (h, (k, tt));
  reset_fits = tt;
  one_writing = one_writing;
}
