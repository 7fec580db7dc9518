-- A value of the format that compares equal to a fill is that fill's own number, unless it is -0; so it stays at that fill. Assumes nothing.
use mathlib.Core.Path.{◌≡◌, refl, sym, ap, ◌∙◌}
use mathlib.Core.Logic.{◌≢◌}
use mathlib.Core.Bool.{Bool, true, false, ◌||◌, beq, true≢false}
use Prim.Native.Nat.{ℕ, zero, suc, ◌*◌, ◌^◌, ◌≤◌, ◌<◌}
use native.Mathlib.Nat.{mul_comm, mul_assoc, mul-pos, mul-one, one-mul, zero-lt-suc, pow-succ', eq_of_mul-eq-mul_right}
use native.Mathlib.Omega.{arith}
use lib.Dec.{T, eqb, eqb→eq}
use lib.Pow.{pow_pos}
use lib.IntN.{ℤ, pos, negsuc}
use lib.Ieee as ieee
use lib.Ieee.{Float, nan, inf, fin, binary32, fits, up, down}
use lib.Ieee.Fits.{of_int-fits, up_pos, down_pos, and_l, and_r}
use lib.Ieee.Exact.{HasValue}
use lib.Ieee.Back.{round_whole, whole_unique}
use Rattle.gauge.specs.Rule.{level_after}
use Rattle.gauge.specs.Claims.{minus_nought, whole}
use Rattle.gauge.proofs.Still.{still_at}

-- ---- a zero of the format has the exponent 0, so there are two of them
not_one : (p : ℕ) → 0 < p → 2 * p ≡ 1 → ⊥
not_one p h e = omega arith

no_exponent : (e : ℤ) → up e * down e ≡ 1 → e ≡ pos 0
no_exponent (pos zero) h = refl
no_exponent (pos (suc k)) h = absurd (not_one (2 ^ k) (pow_pos k) (sym (pow-succ' 2 k) ∙ sym (mul-one (2 ^ suc k)) ∙ h))
no_exponent (negsuc k) h = absurd (not_one (2 ^ k) (pow_pos k) (sym (pow-succ' 2 k) ∙ sym (one-mul (2 ^ suc k)) ∙ h))

the_minus_nought : (e : ℤ) → T (fits binary32 (fin true zero e)) → fin true zero e ≡ minus_nought
unfolding fits
the_minus_nought e t = ap (fin true zero) (no_exponent e (eqb→eq (up e * down e) 1 t))

-- ---- what `eq` says
-- p / q is n, and m / e is p / q
cross : (p q m e n : ℕ) → 0 < q → p * 1 ≡ n * q → p * e ≡ m * q → m * 1 ≡ n * e
cross p q m e n Q v h =
    let moved : n * e * q ≡ m * q =
    mul_assoc n e q ∙ ap (λ (x : ℕ). n * x) (mul_comm e q) ∙ sym (mul_assoc n q e) ∙ ap (λ (x : ℕ). x * e) (sym v ∙ mul-one p) ∙ h in
    mul-one m ∙ sym (eq_of_mul-eq-mul_right q Q (n * e) m moved)

-- with the other sign both are 0
plus : (s : Bool) (m : ℕ) (e : ℤ) (a q : ℕ) → 0 < q → T (fits binary32 (fin s m e)) → fin s m e ≢ minus_nought
    → T (beq false s || eqb a 0) → a ≡ m * up e * q → s ≡ false
plus false m e a q Q f z t h = refl
plus true zero e a q Q f z t h = absurd (z (the_minus_nought e f))
plus true (suc m) e a q Q f z t h =
    let none : a ≡ 0 = eqb→eq a 0 t in
    let some : 0 < suc m * up e * q = mul-pos (mul-pos (zero-lt-suc m) (up_pos e)) Q in
    absurd (omega arith)

same_number : (n : ℕ) (y x : Float) → HasValue y false n 1 → T (fits binary32 x) → x ≢ minus_nought → T (ieee.eq y x) → HasValue x false n 1
unfolding ieee.eq
same_number n nan x v f z t = absurd v
same_number n (inf s) x v f z t = absurd v
same_number n (fin true p q) x v f z t = absurd (true≢false v.0)
same_number n (fin false p q) nan v f z t = absurd t
same_number n (fin false p q) (inf s) v f z t = absurd t
same_number n (fin false p q) (fin s m e) v f z t =
    let a : ℕ = p * up q * down e in
    let b : ℕ = m * up e * down q in
    let same : a ≡ b = eqb→eq a b (and_l (eqb a b) (beq false s || eqb a 0) t) in (
      plus s m e a (down q) (down_pos q) f z (and_r (eqb a b) (beq false s || eqb a 0) t) same,
      cross (p * up q) (down q) (m * up e) (down e) n (down_pos q) v.1 same,
    )

pub whole_value : (n : ℕ) → n ≤ 256 → HasValue (whole n) false n 1
unfolding ieee.of_int
whole_value n h = round_whole binary32 false n (omega arith)

pub still_from : (level : Float) (fill : ℕ) → T (fits binary32 level) → level ≢ minus_nought → fill ≤ 256
    → ieee.eq (whole fill) level ≡ true → level_after level fill ≡ level
still_from level fill f z h e =
    let value : HasValue level false fill 1 = same_number fill (whole fill) level (whole_value fill h) f z (rw e tt) in
    let same : level ≡ whole fill = whole_unique binary32 level (whole fill) false fill f (of_int-fits binary32 (pos fill)) value (whole_value fill h) in
    ap (λ (x : Float). level_after x fill) same ∙ still_at fill h ∙ sym same
