-- What comes of writing a record, by whether it has room. Assumes nothing.
use Prim.Native.Nat.{ℕ, ◌+◌, ◌≤◌}
use mathlib.Core.Path.{◌≡◌, sym, ap, subst, ◌∙◌}
use mathlib.Core.Bool.{Bool, true, false}
use mathlib.Core.List.{List}
use borrow.Author.Tests.{leb-true}
use lib.Dec.{leb}
use lib.ListN.{length}
use lib.Seq.{sets}
use Rattle.calls.specs.declared.Call.{Call}
use Rattle.journal.specs.Refusals.{Wrote, Before, NoRoom}
use Rattle.journal.specs.Writing.{record_of, Written}
use Rattle.journal.proofs.Stores.{stored}

module _ (c : Call) (before : List ℕ) (at wanted : ℕ) (own : wanted ≡ length (record_of c)) where
  tested : (t : Bool) → leb (at + wanted) (length before) ≡ t → leb (at + length (record_of c)) (length before) ≡ t
  tested t e = subst (λ (n : ℕ). leb (at + n) (length before) ≡ t) own e

  pub has_place : leb (at + wanted) (length before) ≡ true → at + length (record_of c) ≤ length before
  has_place room = leb-true (at + length (record_of c)) (length before) (tested true room)

  pub no_room : leb (at + wanted) (length before) ≡ false → Written c before at NoRoom before
  no_room full = record { told = rw (tested false full); left = rw (tested false full) }

  pub is_written : (after : List ℕ) → leb (at + wanted) (length before) ≡ true → after ≡ sets before at (record_of c)
      → Written c before at (Before (at + wanted)) after
  is_written after room e = record {
    told = rw (tested true room) (ap (λ (n : ℕ). Before (at + n)) own);
    left = rw (tested true room) (e ∙ stored (record_of c) before at (has_place room));
  }

-- any two outcomes that the statement allows coincide
pub one_writing : (c : Call) (before : List ℕ) (at : ℕ) (a b : Wrote) (left other : List ℕ) → Written c before at a left
    → Written c before at b other → (a ≡ b) × (left ≡ other)
one_writing c before at a b left other p q = (p.told ∙ sym q.told, p.left ∙ sym q.left)
