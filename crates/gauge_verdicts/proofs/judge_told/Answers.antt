-- By the letter; what the numbers are judged is the verdict. Assumes nothing.
use Prim.Native.Nat.{ℕ}
use mathlib.Core.Path.{◌≡◌, sym, ap, ◌∙◌}
use mathlib.Core.Logic.{inl, inr}
use native.Mathlib.Omega.{arith}
use lib.IntN.{ℤ, pos, ◌-ℤ◌}
use lib.Ieee.{Float}
use mir.Syntax.{w64}
use mir.Val.{to_z, of_z}
use mir.Facts.{to_z-of_z}
use Rattle.gauge_verdicts.proofs.Signs.{below_fits}
use Rattle.oracle_lists.specs.declared.rows.Reader.{Reader}
use Rattle.oracle_lists.specs.declared.tally.Verdict.{Verdict}
use Rattle.gauge_verdicts.specs.Rows.{Judged, agrees, differs, Numbers, ToldRow}
use Rattle.gauge_verdicts.proofs.judge_told.Goals as goal

-- the same verdict for a row that holds exactly if another does
carried : {A B : Type 0} {v : Verdict} → (A → B) → (B → A) → Judged A v → Judged B v
carried to from (agrees a) = agrees (to a)
carried to from (differs not) = differs (λ b. not (from b))

two_letters : (n : ℕ) → n ≡ 117 → n ≡ 100 → ⊥
two_letters n p q = omega arith

-- the net change and the row's come back from their bits
told_up : (r : Reader) (fill : ℕ) (level peak : Float) (net net' change : ℤ) (v : Verdict)
    → r.letter ≡ 117
    → net' ≡ net
    → change ≡ pos r.d
    → Judged (Numbers r fill level peak net' change) v
    → Judged (ToldRow r fill level peak net) v
told_up r fill level peak net net' change v u p q =
    carried (λ a. inl (u, (a.0, a.1, a.2, a.3, sym p ∙ a.4 ∙ q))) from
  where
    from : ToldRow r fill level peak net → Numbers r fill level peak net' change
    from (inl b) = let a = b.1 in (a.0, a.1, a.2, a.3, p ∙ a.4 ∙ sym q)
    from (inr b) = absurd (two_letters r.letter u b.0)

told_down : (r : Reader) (fill : ℕ) (level peak : Float) (net net' change : ℤ) (v : Verdict)
    → r.letter ≡ 100
    → net' ≡ net
    → change ≡ pos 0 -ℤ pos r.d
    → Judged (Numbers r fill level peak net' change) v
    → Judged (ToldRow r fill level peak net) v
told_down r fill level peak net net' change v d p q =
    carried (λ a. inr (d, (a.0, a.1, a.2, a.3, sym p ∙ a.4 ∙ q))) from
  where
    from : ToldRow r fill level peak net → Numbers r fill level peak net' change
    from (inl b) = absurd (two_letters r.letter b.0 d)
    from (inr b) = let a = b.1 in (a.0, a.1, a.2, a.3, p ∙ a.4 ∙ sym q)

pub returns-in-117 : goal.returns-in-117
returns-in-117 c =
    let back = to_z-of_z {w = w64} (record { sfits = c.from.type_inv }) in
    told_up c.args.row _ _ _ c.args.net _ _ _ c.in-117.is (to_z-of_z c.ranges.net) (back ∙ c.from.ensures) c.judge_numbers.ensures

pub returns-in-100 : goal.returns-in-100
returns-in-100 c =
    let back = to_z-of_z {w = w64} (record { sfits = c.from-in-100.type_inv }) in
    let less = ap (λ (z : ℤ). to_z w64 (of_z w64 (pos 0 -ℤ z))) (back ∙ c.from-in-100.ensures) in
    let fits = below_fits c.args.row.d (rw c.from-in-100.ensures at c.from-in-100.type_inv) in
    told_down c.args.row _ _ _ c.args.net _ _ _ c.in-100.is (to_z-of_z c.ranges.net) (less ∙ to_z-of_z fits) c.judge_numbers-in-100.ensures
