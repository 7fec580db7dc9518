-- What stands at a place, test by test. Assumes nothing.
use Prim.Native.Nat.{ℕ, ◌+◌, ◌-◌, ◌≤◌, ◌<◌}
use native.Mathlib.Omega.{arith}
use mathlib.Core.Path.{◌≡◌, sym, ap, ◌∙◌}
use mathlib.Core.Bool.{Bool, cond}
use Rattle.std.specs.Prelude.{Option, None, Some}
use mathlib.Core.List.{List}
use borrow.Author.Tests.{eq-eqb, ne_eqb, lt-ltb, le-ltb}
use lib.ListN.{length, take, drop, length-drop}
use Rattle.basics.proofs.Clash.{clash}
use Rattle.basics.proofs.Decided.{same, differ, same?, below, beyond, below?}
use Rattle.calls.specs.declared.Call.{Call}
use Rattle.journal.specs.declared.entry.Broken.TheVariants.{Cut, WrongLength}
use Rattle.journal.specs.Bytes.{number}
use Rattle.journal.specs.Writing.{body_of}
use Rattle.journal.specs.Reading.{Read, End, Refused, length_in, kind_in, call_of, judged, read_here, read_at}

-- a record of some kind is no end
judged_no_end : (named at : ℕ) (found : Option Call) → judged named at found ≡ End → ⊥
unfolding judged
judged_no_end named at None e = clash (cc)
judged_no_end named at (Some c) e = elim (same? named (length (body_of c))) [
  | same p t ↦
      let read : Read c (at + (2 + named)) ≡ End = sym (ap (λ (b : Bool). cond b (Read c (at + (2 + named))) (Refused WrongLength)) t) ∙ e in
      clash (cc)
  | differ p t ↦
      let wrong : Refused WrongLength ≡ End = sym (ap (λ (b : Bool). cond b (Read c (at + (2 + named))) (Refused WrongLength)) t) ∙ e in
      clash (cc)
]

-- of the bytes that are left
module _ (here : List ℕ) (at : ℕ) where
  pub here_end : length here ≡ 0 → read_here here at ≡ End
  unfolding read_here
  here_end h = rw (eq-eqb (length here) 0 h)

  pub here_short : 0 < length here → length here < 4 → read_here here at ≡ Refused Cut
  unfolding read_here
  here_short any few = rw (ne_eqb (length here) 0 (λ (e : length here ≡ 0). omega (arith, e, any)), lt-ltb (length here) 4 few)

  pub here_cut : 4 ≤ length here → length here < 2 + length_in here → read_here here at ≡ Refused Cut
  unfolding read_here
  here_cut four fewer =
      rw (
        ne_eqb (length here) 0 (λ (e : length here ≡ 0). omega (arith, e, four)),
        le-ltb (length here) 4 four,
        lt-ltb (length here) (2 + length_in here) fewer,
      )

  pub here_low : 4 ≤ length here → 2 + length_in here ≤ length here → length_in here < 2 → read_here here at ≡ Refused WrongLength
  unfolding read_here
  here_low four whole low =
      rw (
        ne_eqb (length here) 0 (λ (e : length here ≡ 0). omega (arith, e, four)),
        le-ltb (length here) 4 four,
        le-ltb (length here) (2 + length_in here) whole,
        lt-ltb (length_in here) 2 low,
      )

  pub here_whole : 4 ≤ length here → 2 + length_in here ≤ length here → 2 ≤ length_in here
      → read_here here at ≡ judged (length_in here) at (call_of (kind_in here) here)
  unfolding read_here
  here_whole four whole high =
      rw (
        ne_eqb (length here) 0 (λ (e : length here ≡ 0). omega (arith, e, four)),
        le-ltb (length here) 4 four,
        le-ltb (length here) (2 + length_in here) whole,
        le-ltb (length_in here) 2 high,
      )

  -- while a byte is left it is not the end
  pub not_at_end : 0 < length here → read_here here at ≡ End → ⊥
  unfolding read_here judged
  not_at_end any e = elim (below? (length here) 4) [
    | below few t ↦ let cut = here_short any few in clash (cc)
    | beyond four t ↦ elim (below? (length here) (2 + length_in here)) [
      | below fewer u ↦ let cut = here_cut four fewer in clash (cc)
      | beyond whole u ↦ elim (below? (length_in here) 2) [
        | below low v ↦ let wrong = here_low four whole low in clash (cc)
        | beyond high v ↦ judged_no_end (length_in here) at (call_of (kind_in here) here) (sym (here_whole four whole high) ∙ e)
      ]
    ]
  ]

-- ---- the same at a place of all the bytes, with the length that was read there
module _ (bytes : List ℕ) (at : ℕ) where
  left : length (drop at bytes) ≡ length bytes - at
  left = length-drop at bytes

  pub read_end : length bytes ≤ at → End ≡ read_at bytes at
  unfolding read_at
  read_end h = sym (here_end (drop at bytes) at (omega (arith, h, left)))

  pub read_short : at < length bytes → length bytes - at < 4 → Refused Cut ≡ read_at bytes at
  unfolding read_at
  read_short any few = sym (here_short (drop at bytes) at (omega (arith, any, left)) (omega (arith, few, left)))

  module _ (named : ℕ) (found : named ≡ number (take 2 (drop at bytes))) (four : 4 ≤ length bytes - at) where
    named_there : named ≡ length_in (drop at bytes)
    unfolding length_in
    named_there = found

    pub read_cut : length bytes - at < 2 + named → Refused Cut ≡ read_at bytes at
    unfolding read_at
    read_cut fewer = sym (here_cut (drop at bytes) at (omega (arith, four, left)) (omega (arith, fewer, left, named_there)))

    pub read_low : 2 + named ≤ length bytes - at → named < 2 → Refused WrongLength ≡ read_at bytes at
    unfolding read_at
    read_low whole low =
        sym
        (here_low (drop at bytes) at (omega (arith, four, left)) (omega (arith, whole, left, named_there)) (omega (arith, low, named_there)))

    pub read_whole : 2 + named ≤ length bytes - at → 2 ≤ named
        → judged named at (call_of (number (take 2 (drop 2 (drop at bytes)))) (drop at bytes)) ≡ read_at bytes at
    unfolding read_at kind_in
    read_whole whole high =
        ap (λ (n : ℕ). judged n at (call_of (number (take 2 (drop 2 (drop at bytes)))) (drop at bytes))) named_there
        ∙ sym
        (here_whole (drop at bytes) at (omega (arith, four, left)) (omega (arith, whole, left, named_there)) (omega (arith, high, named_there)))
