-- Texts put one behind the other are one text. Assumes nothing.
use Prim.Native.Nat.{ℕ, suc, ◌+◌, ◌<◌}
use native.Mathlib.Nat.{add-zero, add-suc, suc-add}
use native.Mathlib.Numerals.{add-one}
use native.Mathlib.Omega.{arith}
use mathlib.Core.Path.{◌≡◌, refl, sym, ap, subst, ◌∙◌}
use mathlib.Core.List.{List, [], ◌∷◌, ◌++◌, append_assoc, append-nil}
use lib.ListN.{length, drop, set, length-append, length-set}
use lib.Seq.{sets, length-sets, sets-eq, set_comm}
use Rattle.journal_text.specs.Decimal.{decimal, spaced}
use Rattle.answers.specs.declared.Refusal.{Refusal}
use Rattle.answers.specs.Refusals.{number_of}
use Rattle.calls.specs.Values.{Done, Refused}
use Rattle.journal_text.specs.Texts.{PutAt, Leads, answer_text}
use Rattle.journal_text.proofs.Decimals.{decimal_digit}

stored_on : (a b l : List ℕ) (i : ℕ) → sets (sets l i a) (i + length a) b ≡ sets l i (a ++ b)
stored_on [] b l i = ap (λ (n : ℕ). sets l n b) (add-zero i)
stored_on (x ∷ a) b l i =
    ap (λ (n : ℕ). sets (sets l i (x ∷ a)) n b) (add-suc i (length a) ∙ sym (suc-add i (length a)))
    ∙ stored_on a b (sets l i (x ∷ [])) (suc i)

-- as many bytes as before
pub as_long : {a l m : List ℕ} {at end : ℕ} → PutAt a l at m end → length m ≡ length l
as_long {a} {l} {m} {at} p = ap length p.left ∙ length-sets l at a

-- one text behind the other
pub and_then : {a b l m n : List ℕ} {at next end : ℕ} → PutAt a l at m next → PutAt b m next n end → PutAt (a ++ b) l at n end
and_then {a} {b} {l} {m} {n} {at} {next} {end} p q =
    record {
      told = omega (arith, p.told, q.told, length-append a b);
      room = omega (arith, p.told, q.room, length-append a b, as_long p);
      left =
          q.left
          ∙ ap (λ (x : List ℕ). sets x next b) p.left
          ∙ ap (λ (i : ℕ). sets (sets l at a) i b) p.told
          ∙ stored_on a b l at;
    }

-- at the front
pub leads : {a l m : List ℕ} {end : ℕ} → PutAt a l 0 m end → Leads a l m end
leads {a} {l} {m} {end} p =
    let count : 0 + length a ≡ length a = omega arith in
    record { many = p.told ∙ count; left = p.left ∙ sets-eq a l 0 p.room ∙ ap (λ (i : ℕ). a ++ drop i l) count }

-- another name of the text
pub of_text : {a b l m : List ℕ} {at end : ℕ} → a ≡ b → PutAt a l at m end → PutAt b l at m end
of_text {a} {b} {l} {m} {at} {end} e p = subst (λ (text : List ℕ). PutAt text l at m end) e p

-- a number behind a space
pub behind_space : {l m : List ℕ} {at end : ℕ} (n : ℕ) → PutAt (decimal n) (set l at 32) (at + 1) m end → PutAt (spaced (n ∷ [])) l at m end
unfolding spaced
behind_space {l} {m} {at} {end} n p =
    let text : 32 ∷ decimal n ≡ 32 ∷ (decimal n ++ []) = ap (λ (digits : List ℕ). 32 ∷ digits) (sym (append-nil (decimal n))) in
    of_text text record {
      told = omega (arith, p.told);
      room = omega (arith, p.room, length-set l at 32);
      left = p.left ∙ ap (λ (i : ℕ). sets (set l at 32) i (decimal n)) (add-one at);
    }

-- two numbers, each behind a space
pub spaced_two : (a b : ℕ) → spaced (a ∷ []) ++ spaced (b ∷ []) ≡ spaced (a ∷ b ∷ [])
unfolding spaced
spaced_two a b = ap (λ (text : List ℕ). 32 ∷ text) (append_assoc (decimal a) [] (32 ∷ (decimal b ++ [])))

-- a byte stored in front of what is stored from the next place on
pub set_before : (vs l : List ℕ) (i k x : ℕ) → i < k → set (sets l k vs) i x ≡ sets (set l i x) k vs
set_before [] l i k x h = refl
set_before (v ∷ vs) l i k x h =
    set_before vs (set l k v) i (suc k) x (omega arith)
    ∙ ap (λ (m : List ℕ). sets m (suc k) vs) (set_comm l k i v x (λ e. omega arith))

-- ---- the line of an answer without figures
pub done_text : 48 ∷ [] ≡ answer_text Done
unfolding answer_text spaced
done_text = ap (λ (text : List ℕ). text ++ []) (sym (decimal_digit 0 (omega arith)))

pub refused_text : {n : ℕ} (why : Refusal) → n ≡ number_of why → decimal n ≡ answer_text (Refused why)
unfolding answer_text spaced
refused_text why e = ap (λ (m : ℕ). decimal m) e ∙ sym (append-nil (decimal (number_of why)))
