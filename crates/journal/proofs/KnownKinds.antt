-- A record of a known kind, judged by its length. Assumes nothing.
use Prim.Native.Nat.{ℕ, ◌+◌, ◌*◌}
use mathlib.Core.Path.{◌≡◌, sym, ap, ◌∙◌}
use Rattle.std.specs.Prelude.{Some}
use mathlib.Core.List.{List}
use borrow.Author.Tests.{eq-eqb, ne_eqb}
use lib.ListN.{length, take, drop}
use lib.Seq.{drop-drop}
use Rattle.calls.specs.declared.Call.{Call}
use Rattle.journal.specs.declared.entry.Broken.TheVariants.{UnknownKind, WrongLength}
use Rattle.journal.specs.Bytes.{number}
use Rattle.journal.specs.Writing.{body_of}
use Rattle.journal.specs.Reading.{Read, Refused, field_in, call_of, judged}

-- a length other than its own record's
pub judged_wrong : (named at : ℕ) (c : Call) → (named ≡ length (body_of c) → ⊥) → Refused WrongLength ≡ judged named at (Some c)
unfolding judged
judged_wrong named at c h = rw (ne_eqb named (length (body_of c)) h)

-- the call that was found, if it is the one with the fields there
pub judged_right : (named at : ℕ) (c d : Call) → named ≡ length (body_of c) → d ≡ c → Read d (at + (2 + named)) ≡ judged named at (Some c)
unfolding judged
judged_right named at c d h e = rw (eq-eqb named (length (body_of c)) h, e)

-- the i-th field stands at its place
pub field_at : (i at place : ℕ) (bytes : List ℕ) → at + (4 + 4 * i) ≡ place → number (take 4 (drop place bytes)) ≡ field_in i (drop at bytes)
unfolding field_in
field_at i at place bytes e =
    ap (λ (p : ℕ). number (take 4 (drop p bytes))) (sym e) ∙ ap (λ (here : List ℕ). number (take 4 here)) (sym (drop-drop (4 + 4 * i) at bytes))

-- the kind stands behind the length
pub kind_at : (at : ℕ) (bytes : List ℕ) → number (take 2 (drop (at + 2) bytes)) ≡ number (take 2 (drop 2 (drop at bytes)))
kind_at at bytes = ap (λ (here : List ℕ). number (take 2 here)) (sym (drop-drop 2 at bytes))

-- judged by the kind that was read
pub by_kind : (named at kind known : ℕ) (bytes : List ℕ) → kind ≡ number (take 2 (drop (at + 2) bytes)) → kind ≡ known
    → judged named at (call_of known (drop at bytes)) ≡ judged named at (call_of (number (take 2 (drop 2 (drop at bytes)))) (drop at bytes))
by_kind named at kind known bytes read is =
    ap (λ (k : ℕ). judged named at (call_of k (drop at bytes))) (sym is ∙ read ∙ kind_at at bytes)

-- no kind of the four
pub unknown : (named at kind : ℕ) (bytes : List ℕ) → kind ≡ number (take 2 (drop (at + 2) bytes))
    → (kind ≡ 1 → ⊥) → (kind ≡ 2 → ⊥) → (kind ≡ 3 → ⊥) → (kind ≡ 4 → ⊥)
    → Refused UnknownKind ≡ judged named at (call_of (number (take 2 (drop 2 (drop at bytes)))) (drop at bytes))
unfolding call_of judged
unknown named at kind bytes read not-1 not_2 not_3 not-4 =
    let none-of-them : Refused UnknownKind ≡ judged named at (call_of kind (drop at bytes)) =
    rw (ne_eqb kind 1 not-1, ne_eqb kind 2 not_2, ne_eqb kind 3 not_3, ne_eqb kind 4 not-4) in
    none-of-them ∙ ap (λ (k : ℕ). judged named at (call_of k (drop at bytes))) (read ∙ kind_at at bytes)
