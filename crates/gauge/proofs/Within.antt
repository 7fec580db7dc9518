-- A level from 0 to 256 is left there by a reading of a fill up to 256. The level m * 2 ^ e is written as the fraction N / E. Assumes nothing.
use mathlib.Core.Path.{◌≡◌, sym, ap, ◌∙◌, subst}
use mathlib.Core.Bool.{Bool, true, false, cond, true≢false}
use Prim.Native.Nat.{ℕ, suc, ◌+◌, ◌-◌, ◌*◌, ◌^◌, ◌≤◌, ◌<◌}
use native.Mathlib.Nat.{le_of_eq, le_trans, lt_trans, lt_of_lt_of_le, zero-lt-suc, mul_comm, mul_assoc, mul-one, mul_right_comm}
use native.Mathlib.Nat.{mul-sub, mul-pos, mul-le-mul_right, mul-lt-mul_of_pos_right}
use native.Mathlib.Omega.{arith}
use lib.Dec.{T, lit≤}
use lib.Pow.{pow_pos, pow_mono, shl_lt}
use lib.IntN.{ℤ, pos, negsuc}
use borrow.Author.Tests.{lt-ltb, le-ltb}
use lib.Ieee as ieee
use lib.Ieee.{Float, nan, inf, fin, binary32, emax, low, up, down, round, sum, neg, fits}
use lib.Ieee.Fits.{down_pos}
use lib.Ieee.Exact.{HasValue, round_exact}
use lib.Ieee.Back.{round_whole}
use lib.Ieee.Scale.{round_same}
use Rattle.basics.proofs.Decided.{below?, below, beyond}
use Rattle.gauge.specs.Rule.{eighth, level_after}
use Rattle.gauge.specs.Claims.{whole}
use Rattle.gauge.proofs.AtMost.{AtMost, at_most_more, at_most_itself, round_at_most, rounds_to_itself, few_digits, within_power, parts, minus_round}
use Rattle.gauge.proofs.Equal.{whole_value}

-- ---- a difference of two values with the sign +, one of them a whole number
difference : (f : ieee.Format) (a b c : ℕ) → b ≤ a → sum f false a true b c ≡ round f false (a - b) c
unfolding sum
difference f a b c h = ap (λ (t : Bool). cond t (round f true (b - a) c) (round f false (a - b) c)) (le-ltb a b h)

difference_below : (f : ieee.Format) (a b c : ℕ) → a < b → sum f false a true b c ≡ round f true (b - a) c
unfolding sum
difference_below f a b c h = ap (λ (t : Bool). cond t (round f true (b - a) c) (round f false (a - b) c)) (lt-ltb a b h)

-- P / Q is the whole number F
crossed : (P Q F E : ℕ) → P * 1 ≡ F * Q → P * E ≡ F * E * Q
crossed P Q F E v = ap (λ (x : ℕ). x * E) (sym (mul-one P) ∙ v) ∙ mul_right_comm F Q E

taken_out : (x y Q : ℕ) → x * Q - y * Q ≡ (x - y) * Q
taken_out x y Q = ap (λ (z : ℕ). z - y * Q) (mul_comm x Q) ∙ ap (λ (z : ℕ). Q * x - z) (mul_comm y Q) ∙ sym (mul-sub Q x y) ∙ mul_comm Q (x - y)

sub_above : (y : Float) (F m : ℕ) (e : ℤ) → HasValue y false F 1 → m * up e ≤ F * down e
    → ieee.sub binary32 y (fin false m e) ≡ round binary32 false (F * down e - m * up e) (down e)
unfolding ieee.sub
sub_above nan F m e v h = absurd v
sub_above (inf s) F m e v h = absurd v
sub_above (fin true p q) F m e v h = absurd (true≢false v.0)
sub_above (fin false p q) F m e v h =
    let N : ℕ = m * up e in
    let E : ℕ = down e in
    let Q : ℕ = down q in
    let P : ℕ = p * up q in
    let same : P * E ≡ F * E * Q = crossed P Q F E v.1 in
    let order : N * Q ≤ P * E = le_trans (mul-le-mul_right Q h) (le_of_eq (sym same)) in
    difference binary32 (P * E) (N * Q) (Q * E) order
    ∙ round_same binary32 false (P * E - N * Q) (Q * E) (F * E - N) E (mul-pos (down_pos q) (down_pos e)) (down_pos e)
    (ap (λ (x : ℕ). x * E) (ap (λ (x : ℕ). x - N * Q) same ∙ taken_out (F * E) N Q) ∙ mul_assoc (F * E - N) Q E)

sub_below : (y : Float) (F m : ℕ) (e : ℤ) → HasValue y false F 1 → F * down e < m * up e
    → ieee.sub binary32 y (fin false m e) ≡ neg (round binary32 false (m * up e - F * down e) (down e))
unfolding ieee.sub
sub_below nan F m e v h = absurd v
sub_below (inf s) F m e v h = absurd v
sub_below (fin true p q) F m e v h = absurd (true≢false v.0)
sub_below (fin false p q) F m e v h =
    let N : ℕ = m * up e in
    let E : ℕ = down e in
    let Q : ℕ = down q in
    let P : ℕ = p * up q in
    let same : P * E ≡ F * E * Q = crossed P Q F E v.1 in
    let order : P * E < N * Q = subst (λ (x : ℕ). x < N * Q) (sym same) (mul-lt-mul_of_pos_right h (down_pos q)) in
    difference_below binary32 (P * E) (N * Q) (Q * E) order
    ∙ round_same binary32 true (N * Q - P * E) (Q * E) (N - F * E) E (mul-pos (down_pos q) (down_pos e)) (down_pos e)
    (ap (λ (x : ℕ). x * E) (ap (λ (x : ℕ). N * Q - x) same ∙ taken_out N (F * E) Q) ∙ mul_assoc (N - F * E) Q E)
    ∙ minus_round binary32 (N - F * E) E

-- ---- an eighth of it
eighth_is_less : (x n a c : ℕ) → x * c ≤ a * n → x * (1 * 1) * c ≤ a * (n * 2 ^ 3)
eighth_is_less x n a c h =
    let l : x * (1 * 1) * c ≡ x * c = ap (λ (y : ℕ). y * c) (mul-one x) in
    let r : a * (n * 2 ^ 3) ≡ a * n * 2 ^ 3 = sym (mul_assoc a n (2 ^ 3)) in
    omega arith

eighth_below : (d : Float) (a c : ℕ) → 0 < c → HasValue (round binary32 false a c) false a c → AtMost d a c → AtMost (ieee.mul binary32 d eighth) a c
unfolding ieee.mul
eighth_below nan a c C v h = absurd h
eighth_below (inf s) a c C v h = absurd h
eighth_below (fin true m e) a c C v h = absurd h
eighth_below (fin false m e) a c C v h =
    round_at_most binary32 (m * up e * (1 * 1)) (down e * 2 ^ 3) a c (mul-pos (down_pos e) (pow_pos 3)) C v (eighth_is_less (m * up e) (down e) a c h)

eighth_is_32 : (x n : ℕ) → x * 1 ≤ 256 * n → x * (1 * 1) * 1 ≤ 32 * (n * 2 ^ 3)
eighth_is_32 x n h = omega arith

eighth_of_256 : (d : Float) → AtMost d 256 1 → AtMost (ieee.mul binary32 d eighth) 32 1
unfolding ieee.mul
eighth_of_256 nan h = absurd h
eighth_of_256 (inf s) h = absurd h
eighth_of_256 (fin true m e) h = absurd h
eighth_of_256 (fin false m e) h =
    round_at_most binary32 (m * up e * (1 * 1)) (down e * 2 ^ 3) 32 1 (mul-pos (down_pos e) (pow_pos 3)) (zero-lt-suc 0)
    (round_whole binary32 false 32 (lit≤ tt)) (eighth_is_32 (m * up e) (down e) h)

eighth_of_neg : (d : Float) (a c : ℕ) → AtMost d a c → ieee.mul binary32 (neg d) eighth ≡ neg (ieee.mul binary32 d eighth)
unfolding ieee.mul neg
eighth_of_neg nan a c h = absurd h
eighth_of_neg (inf s) a c h = absurd h
eighth_of_neg (fin true m e) a c h = absurd h
eighth_of_neg (fin false m e) a c h = minus_round binary32 (m * up e * (1 * 1)) (down e * 2 ^ 3)

-- ---- the fill is below the level: no more than the level is taken off, so the sum is from 0 to the level
less_taken : (N E x n : ℕ) → (N * n - x * E) * E ≤ N * (E * n)
less_taken N E x n =
    le_trans (mul-le-mul_right E (drop_le (N * n) (x * E))) (le_of_eq (mul_right_comm N n E ∙ mul_assoc N E n))
  where
    drop_le : (a b : ℕ) → a - b ≤ a
    drop_le a b = omega arith

taken_off : (m : ℕ) (e : ℤ) (p : Float) → T (fits binary32 (fin false m e)) → AtMost p (m * up e) (down e)
    → AtMost (ieee.add binary32 (fin false m e) (neg p)) (m * up e) (down e)
unfolding ieee.add neg
taken_off m e nan f h = absurd h
taken_off m e (inf s) f h = absurd h
taken_off m e (fin true n d) f h = absurd h
taken_off m e (fin false n d) f h =
    let N : ℕ = m * up e in
    let E : ℕ = down e in
    let a : ℕ = N * down d in
    let b : ℕ = n * up d * E in
    subst (λ (x : Float). AtMost x N E) (sym (difference binary32 a b (E * down d) h))
    (round_at_most binary32 (a - b) (E * down d) N E (mul-pos (down_pos e) (down_pos d)) (down_pos e) (rounds_to_itself binary32 false m e f)
    (less_taken N E (n * up d) (down d)))

fall : (m : ℕ) (e : ℤ) (fill : ℕ) → T (fits binary32 (fin false m e)) → fill ≤ 256 → fill * down e < m * up e
    → AtMost (level_after (fin false m e) fill) (m * up e) (down e)
unfolding level_after
fall m e fill f F h =
    let N : ℕ = m * up e in
    let E : ℕ = down e in
    let d : Float = round binary32 false (N - fill * E) E in
    let v : HasValue (round binary32 false N E) false N E = rounds_to_itself binary32 false m e f in
    let small : AtMost d N E = round_at_most binary32 (N - fill * E) E N E (down_pos e) (down_pos e) v (mul-le-mul_right E (omega arith)) in
    let p : Float = ieee.mul binary32 d eighth in
    let is : ieee.mul binary32 (ieee.sub binary32 (whole fill) (fin false m e)) eighth ≡ neg p =
    ap (λ (x : Float). ieee.mul binary32 x eighth) (sub_below (whole fill) fill m e (whole_value fill F) h) ∙ eighth_of_neg d N E small in
    subst (λ (x : Float). AtMost (ieee.add binary32 (fin false m e) x) N E) (sym is) (taken_off m e p f (eighth_below d N E (down_pos e) v small))

-- ---- the fill is not below the level: no more is added than what is left up to 256
room : (N E x n : ℕ) → N ≤ 256 * E → x * E ≤ (256 * E - N) * n → (N * n + x * E) * 1 ≤ 256 * (E * n)
room N E x n h k =
    let l : (256 * E - N) * n ≡ 256 * E * n - N * n = sym (taken_out (256 * E) N n) in
    let r : 256 * (E * n) ≡ 256 * E * n = sym (mul_assoc 256 E n) in
    let o : N * n ≤ 256 * E * n = mul-le-mul_right n h in
    omega arith

added : (m : ℕ) (e : ℤ) (p : Float) → m * up e ≤ 256 * down e → AtMost p (256 * down e - m * up e) (down e) → AtMost (ieee.add binary32 (fin false m e) p) 256 1
unfolding ieee.add sum
added m e nan l h = absurd h
added m e (inf s) l h = absurd h
added m e (fin true n d) l h = absurd h
added m e (fin false n d) l h =
    round_at_most binary32 (m * up e * down d + n * up d * down e) (down e * down d) 256 1 (mul-pos (down_pos e) (down_pos d)) (zero-lt-suc 0)
    (round_whole binary32 false 256 (lit≤ tt)) (room (m * up e) (down e) (n * up d) (down d) l h)

-- above 128 the difference has no more digits than the level, so it is exact
exact : (fill m : ℕ) (e : ℤ) → fill ≤ 256 → T (fits binary32 (fin false m e)) → 128 * down e < m * up e
    → HasValue (round binary32 false (fill * down e - m * up e) (down e)) false (fill * down e - m * up e) (down e)
exact fill m (pos i) F f h = round_whole binary32 false (fill * 1 - m * 2 ^ i) (omega arith)
exact fill m (negsuc i) F f h =
    let E : ℕ = 2 ^ suc i in
    let j : ℕ = low binary32 - suc i in
    let few : fill * E - m * 1 < 2 ^ 24 = lt_trans (fewer E (fill * E) m (mul-le-mul_right E F) h) (few_digits binary32 false m (negsuc i) f) in
    let deep : suc i ≤ low binary32 = within_power (suc i) (low binary32) (le_trans (coarse E m h (few_digits binary32 false m (negsuc i) f)) (lit≤ tt)) in
    let finite : 24 + j ≤ low binary32 + suc (emax binary32) = omega arith in
    round_exact binary32 false (fill * E - m * 1) E (fill * E - m * 1) j (pow_pos (suc i)) few
    (lt_of_lt_of_le (shl_lt 24 j few) (pow_mono finite))
    (ap (λ (x : ℕ). (fill * E - m * 1) * x) (sym (parts (suc i) (low binary32) deep)) ∙ sym (mul_assoc (fill * E - m * 1) (2 ^ j) E))
  where
    fewer : (E x m : ℕ) → x ≤ 256 * E → 128 * E < m * 1 → x - m * 1 < m
    fewer E x m k h = omega arith

    coarse : (E m : ℕ) → 128 * E < m * 1 → m < 2 ^ 24 → E ≤ 2 ^ 24
    coarse E m h k = omega arith

rise : (m : ℕ) (e : ℤ) (fill : ℕ) → T (fits binary32 (fin false m e)) → m * up e ≤ 256 * down e → fill ≤ 256 → m * up e ≤ fill * down e
    → AtMost (level_after (fin false m e) fill) 256 1
unfolding level_after
rise m e fill f l F h =
    let N : ℕ = m * up e in
    let E : ℕ = down e in
    let d : Float = round binary32 false (fill * E - N) E in
    let fills : fill * E ≤ 256 * E = mul-le-mul_right E F in
    let gain : AtMost (ieee.mul binary32 d eighth) (256 * E - N) E = elim (below? (128 * E) N) [
      | below high t ↦
          let v : HasValue d false (fill * E - N) E = exact fill m e F f high in
          at_most_more (ieee.mul binary32 d eighth) (fill * E - N) E (256 * E - N) E (down_pos e)
          (eighth_below d (fill * E - N) E (down_pos e) v (at_most_itself d (fill * E - N) E v)) (mul-le-mul_right E (omega arith))
      | beyond low t ↦
          let v : HasValue (round binary32 false 256 1) false 256 1 = round_whole binary32 false 256 (lit≤ tt) in
          let most : AtMost d 256 1 = round_at_most binary32 (fill * E - N) E 256 1 (down_pos e) (zero-lt-suc 0) v (omega arith) in
          at_most_more (ieee.mul binary32 d eighth) 32 1 (256 * E - N) E (zero-lt-suc 0) (eighth_of_256 d most) (omega arith)
    ] in
    subst (λ (x : Float). AtMost (ieee.add binary32 (fin false m e) (ieee.mul binary32 x eighth)) 256 1)
    (sym (sub_above (whole fill) fill m e (whole_value fill F) h))
    (added m e (ieee.mul binary32 d eighth) l gain)

pub level_kept : (level : Float) (fill : ℕ) → T (fits binary32 level) → AtMost level 256 1 → fill ≤ 256 → AtMost (level_after level fill) 256 1
level_kept nan fill f h F = absurd h
level_kept (inf s) fill f h F = absurd h
level_kept (fin true m e) fill f h F = absurd h
level_kept (fin false m e) fill f h F =
    let l : m * up e ≤ 256 * down e = le_trans (le_of_eq (sym (mul-one (m * up e)))) h in
    elim (below? (fill * down e) (m * up e)) [
      | below p t ↦ at_most_more (level_after (fin false m e) fill) (m * up e) (down e) 256 1 (down_pos e) (fall m e fill f F p) h
      | beyond p t ↦ rise m e fill f l F p
    ]
