-- A number put from its last digit to its first. Assumes nothing.
use Prim.Native.Nat.{ℕ, suc, ◌+◌, ◌-◌, ◌/◌, ◌%◌, ◌≤◌, ◌<◌}
use native.Mathlib.Omega.{arith}
use mathlib.Core.Path.{◌≡◌, refl, sym, ap, ◌∙◌}
use mathlib.Core.List.{List, [], ◌∷◌, ◌++◌, append_assoc, append-nil}
use lib.ListN.{set}
use lib.Seq.{sets}
use Rattle.journal_text.specs.Decimal.{decimal}
use Rattle.journal_text.proofs.Decimals.{decimal_digit, decimal_more}
use Rattle.journal_text.proofs.Puts.{set_before}

-- the digits behind a place are put, and those of the rest are to come
pub record Tail (n rest : ℕ) (before after : List ℕ) (place : ℕ) : Type 0 where
  pub behind : List ℕ
  pub split : decimal n ≡ decimal rest ++ behind
  pub put : after ≡ sets before (suc place) behind

pub no_tail : (n : ℕ) (l : List ℕ) (place : ℕ) → Tail n n l l place
no_tail n l place = record { behind = []; split = sym (append-nil (decimal n)); put = refl }

-- one digit more, in front of them
pub one_before : {n rest x place : ℕ} {l out : List ℕ}
    → Tail n rest l out place
    → 10 ≤ rest
    → 1 ≤ place
    → x ≡ 48 + rest % 10
    → Tail n (rest / 10) l (set out place x) (place - 1)
one_before {n} {rest} {x} {place} {l} {out} t h k e =
    let at : place ≡ suc (place - 1) = omega arith in
    record {
      behind = x ∷ t.behind;
      split =
          t.split
          ∙ ap (λ (front : List ℕ). front ++ t.behind) (decimal_more rest h)
          ∙ append_assoc (decimal (rest / 10)) ((48 + rest % 10) ∷ []) t.behind
          ∙ ap (λ (y : ℕ). decimal (rest / 10) ++ (y ∷ t.behind)) (sym e);
      put =
          ap (λ (m : List ℕ). set m place x) t.put
          ∙ set_before t.behind l place (suc place) x (omega arith)
          ∙ ap (λ (p : ℕ). sets l p (x ∷ t.behind)) at;
    }

-- and the first one
pub put_whole : {n rest x place at : ℕ} {l out : List ℕ}
    → Tail n rest l out place
    → rest < 10
    → x ≡ 48 + rest
    → place ≡ at
    → set out place x ≡ sets l at (decimal n)
put_whole {n} {rest} {x} {place} {at} {l} {out} t h e p =
    let text : (x ∷ t.behind) ≡ decimal n =
    ap (λ (y : ℕ). y ∷ t.behind) e
    ∙ sym (t.split ∙ ap (λ (front : List ℕ). front ++ t.behind) (decimal_digit rest h)) in
    ap (λ (m : List ℕ). set m place x) t.put
    ∙ set_before t.behind l place (suc place) x (omega arith)
    ∙ ap (λ (i : ℕ). sets l i (x ∷ t.behind)) p
    ∙ ap (λ (digits : List ℕ). sets l at digits) text
