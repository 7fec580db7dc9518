-- What is rounded stays below a bound that the format holds: `round` keeps the order, and leaves a value of the format as it is. Assumes nothing.
use mathlib.Core.Path.{◌≡◌, refl, sym, ap, ◌∙◌, subst}
use mathlib.Core.Bool.{Bool, true, false, not, ◌&&◌, ◌||◌, cond, true≢false}
use Prim.Native.Nat.{ℕ, zero, suc, ◌+◌, ◌-◌, ◌*◌, ◌/◌, ◌%◌, ◌^◌, ◌≤◌, ◌<◌, compare}
use native.Mathlib.Nat.{le_of_eq, le_of_lt, zero-mul, mul_comm, mul_assoc, mul-lt-mul_of_pos_right, lt_of_mul-lt-mul_right, one-mul}
use native.Mathlib.Omega.{arith}
use lib.Dec.{T, ltb, leb, eqb, ltb→lt, leb→le, eqb→eq}
use lib.Pow.{pow_pos, pow-add, pow-lt}
use lib.IntN.{ℤ, pos, negsuc}
use lib.Ieee.{Float, nan, inf, fin, Format, prec, emax, low, up, down, size, nearest, odd, units, round, neg, fits, le}
use lib.Ieee.Fits.{round_is, down_pos, and_l, and_r}
use lib.Ieee.Exact.{HasValue, round_exact}
use lib.Ieee.Order.{round_mono}
use lib.Ieee.Positive.{through}
use Rattle.basics.proofs.Decided.{below?, below, beyond}

-- a finite value with the sign +, so not -0, that is a / c at most
abbrev pub AtMost : Float → ℕ → ℕ → Type 0
AtMost nan a c = ⊥
AtMost (inf s) a c = ⊥
AtMost (fin true m e) a c = ⊥
AtMost (fin false m e) a c = m * up e * c ≤ a * down e

pub at_most_more : (x : Float) (a c b d : ℕ) → 0 < c → AtMost x a c → a * d ≤ b * c → AtMost x b d
at_most_more nan a c b d C h k = absurd h
at_most_more (inf s) a c b d C h k = absurd h
at_most_more (fin true m e) a c b d C h k = absurd h
at_most_more (fin false m e) a c b d C h k = through (m * up e) a b (down e) c d C h k

pub at_most_itself : (x : Float) (a c : ℕ) → HasValue x false a c → AtMost x a c
at_most_itself nan a c v = absurd v
at_most_itself (inf s) a c v = absurd v
at_most_itself (fin true m e) a c v = absurd (true≢false v.0)
at_most_itself (fin false m e) a c v = le_of_eq v.1

-- ---- what is rounded with the sign + has it
abbrev not_minus : Float → Bool
not_minus nan = true
not_minus (inf s) = not s
not_minus (fin s m e) = not s

either : (t : Bool) (x y : Float) → T (not_minus x) → T (not_minus y) → T (not_minus (cond t x y))
either true x y p q = p
either false x y p q = q

plus_odd : (d q k l : ℕ) → T (not_minus (odd d false q k l))
unfolding odd
plus_odd d zero k l = tt
plus_odd d (suc q) k l = tt

plus_units : (f : Format) (q k : ℕ) → T (not_minus (units f false q k))
unfolding units
plus_units f q k =
    either (ltb (q * 2 ^ k) (2 ^ (low f + suc (emax f)))) (odd (suc (prec f)) false q k (low f)) (inf false) (plus_odd (suc (prec f)) q k (low f)) tt

plus_round : (f : Format) (a c : ℕ) → T (not_minus (round f false a c))
plus_round f a c =
    let n : ℕ = a * 2 ^ low f in
    let k : ℕ = size (n / c) - prec f in
    let u : ℕ = c * 2 ^ k in
    subst (λ (x : Float). T (not_minus x)) (sym (round_is f false a c)) (plus_units f (nearest (n / u) (compare (n % u * 2) u)) k)

-- ---- the bound
lt_or_eq : (a b : ℕ) (t u : Bool) → (T t → a < b) → (T u → a ≡ b) → T (t || (u && true)) → a ≤ b
lt_or_eq a b true u p q t = le_of_lt (p tt)
lt_or_eq a b false true p q t = le_of_eq (q tt)
lt_or_eq a b false false p q t = absurd t

below_value : (x y : Float) (a c : ℕ) → T (not_minus x) → HasValue y false a c → T (le x y) → AtMost x a c
unfolding le
below_value nan y a c p v h = absurd h
below_value (inf true) y a c p v h = absurd p
below_value (inf false) nan a c p v h = absurd v
below_value (inf false) (inf t) a c p v h = absurd v
below_value (inf false) (fin t n d) a c p v h = absurd h
below_value (fin true m e) y a c p v h = absurd p
below_value (fin false m e) nan a c p v h = absurd v
below_value (fin false m e) (inf t) a c p v h = absurd v
below_value (fin false m e) (fin true n d) a c p v h = absurd (true≢false v.0)
below_value (fin false m e) (fin false n d) a c p v h =
    let l : ℕ = m * up e * down d in
    let r : ℕ = n * up d * down e in
    through (m * up e) (n * up d) a (down e) (down d) c (down_pos d) (lt_or_eq l r (ltb l r) (eqb l r) (ltb→lt l r) (eqb→eq l r) h) (le_of_eq v.1)

-- b / d is a value of the format
pub round_at_most : (f : Format) (a c b d : ℕ) → 0 < c → 0 < d → HasValue (round f false b d) false b d → a * d ≤ b * c
    → AtMost (round f false a c) b d
round_at_most f a c b d C D v h = below_value (round f false a c) (round f false b d) b d (plus_round f a c) v (round_mono f a c b d C D h)

-- ---- a value of the format is rounded to itself
pub few_digits : (f : Format) (s : Bool) (m : ℕ) (e : ℤ) → T (fits f (fin s m e)) → m < 2 ^ prec f
unfolding fits
few_digits f s zero e t = pow_pos (prec f)
few_digits f s (suc m) e t =
    let a : Bool = eqb (suc m % 2) 1 in
    let b : Bool = ltb (suc m) (2 ^ prec f) in
    let c : Bool = leb (down e) (2 ^ low f) in
    ltb→lt (suc m) (2 ^ prec f) (and_r a b (and_l (a && b) c (and_l (a && b && c) (ltb (suc m * up e) (2 ^ suc (emax f) * down e)) t)))

not_too_fine : (f : Format) (s : Bool) (m : ℕ) (e : ℤ) → T (fits f (fin s (suc m) e)) → down e ≤ 2 ^ low f
unfolding fits
not_too_fine f s m e t =
    let a : Bool = eqb (suc m % 2) 1 in
    let b : Bool = ltb (suc m) (2 ^ prec f) in
    let c : Bool = leb (down e) (2 ^ low f) in
    leb→le (down e) (2 ^ low f) (and_r (a && b) c (and_l (a && b && c) (ltb (suc m * up e) (2 ^ suc (emax f) * down e)) t))

not_too_large : (f : Format) (s : Bool) (m : ℕ) (e : ℤ) → T (fits f (fin s (suc m) e)) → suc m * up e < 2 ^ suc (emax f) * down e
unfolding fits
not_too_large f s m e t =
    let a : Bool = eqb (suc m % 2) 1 in
    let b : Bool = ltb (suc m) (2 ^ prec f) in
    let c : Bool = leb (down e) (2 ^ low f) in
    let d : Bool = ltb (suc m * up e) (2 ^ suc (emax f) * down e) in
    ltb→lt (suc m * up e) (2 ^ suc (emax f) * down e) (and_r (a && b && c) d t)

-- 2 ^ e is 2 ^ grains of the smallest values
pub record Grains (f : Format) (e : ℤ) : Type 0 where
  pub grains : ℕ
  pub counted : up e * 2 ^ low f ≡ 2 ^ grains * down e

pub within_power : (i l : ℕ) → 2 ^ i ≤ 2 ^ l → i ≤ l
within_power i l h = elim (below? l i) [ below p e ↦ absurd (omega (arith, pow-lt p)) | beyond p e ↦ p ]

-- the smallest values in 1 / 2 ^ i
pub parts : (i l : ℕ) → i ≤ l → 2 ^ (l - i) * 2 ^ i ≡ 2 ^ l
parts i l h = sym (pow-add 2 (l - i) i) ∙ ap (λ (x : ℕ). 2 ^ x) (omega arith)

pub grains_of : (f : Format) (e : ℤ) → down e ≤ 2 ^ low f → Grains f e
grains_of f (pos i) h = record { grains = i + low f; counted = sym (pow-add 2 i (low f)) ∙ sym (times_one (2 ^ (i + low f))) }
  where
    times_one : (x : ℕ) → x * 1 ≡ x
    times_one x = omega arith
grains_of f (negsuc i) h = record { grains = low f - suc i; counted = one-mul (2 ^ low f) ∙ sym (parts (suc i) (low f) (within_power (suc i) (low f) h)) }

-- m * u / d is below the top, and u / d is g of the parts of which 1 has l: so m * u / d is fewer of them than the top has
under_top : (m u d l g top : ℕ) → 0 < l → u * l ≡ g * d → m * u < top * d → m * g < l * top
under_top m u d l g top L e h =
    let moved : m * g * d ≡ m * u * l = mul_assoc m g d ∙ ap (λ (x : ℕ). m * x) (sym e) ∙ sym (mul_assoc m u l) in
    let scaled : m * u * l < l * top * d = subst (λ (x : ℕ). m * u * l < x) (mul_comm (top * d) l ∙ sym (mul_assoc l top d)) (mul-lt-mul_of_pos_right h L) in
    lt_of_mul-lt-mul_right d (subst (λ (x : ℕ). x < l * top * d) (sym moved) scaled)

pub rounds_to_itself : (f : Format) (s : Bool) (m : ℕ) (e : ℤ) → T (fits f (fin s m e))
    → HasValue (round f false (m * up e) (down e)) false (m * up e) (down e)
rounds_to_itself f s zero e t =
    round_exact f false (zero * up e) (down e) 0 0 (down_pos e) (pow_pos (prec f)) (pow_pos (low f + suc (emax f)))
    (ap (λ (x : ℕ). x * 2 ^ low f) (zero-mul (up e)) ∙ zero-mul (2 ^ low f) ∙ sym (zero-mul (down e)))
rounds_to_itself f s (suc m) e t =
    let its = grains_of f e (not_too_fine f s m e t) in
    round_exact f false (suc m * up e) (down e) (suc m) its.grains (down_pos e) (few_digits f s (suc m) e t)
    (subst (λ (x : ℕ). suc m * 2 ^ its.grains < x) (sym (pow-add 2 (low f) (suc (emax f))))
    (under_top (suc m) (up e) (down e) (2 ^ low f) (2 ^ its.grains) (2 ^ suc (emax f)) (pow_pos (low f)) its.counted (not_too_large f s m e t)))
    (mul_assoc (suc m) (up e) (2 ^ low f) ∙ ap (λ (x : ℕ). suc m * x) its.counted ∙ sym (mul_assoc (suc m) (2 ^ its.grains) (down e)))

-- ---- the sign goes through the rounding
minus_odd : (d q k l : ℕ) → odd d true q k l ≡ neg (odd d false q k l)
unfolding odd neg
minus_odd d zero k l = refl
minus_odd d (suc q) k l = refl

minus_units : (f : Format) (q k : ℕ) → units f true q k ≡ neg (units f false q k)
unfolding units neg
minus_units f q k = go (ltb (q * 2 ^ k) (2 ^ (low f + suc (emax f))))
  where
    go : (t : Bool) → cond t (odd (suc (prec f)) true q k (low f)) (inf true) ≡ neg (cond t (odd (suc (prec f)) false q k (low f)) (inf false))
    go true = minus_odd (suc (prec f)) q k (low f)
    go false = refl

pub minus_round : (f : Format) (a c : ℕ) → round f true a c ≡ neg (round f false a c)
minus_round f a c =
    let n : ℕ = a * 2 ^ low f in
    let k : ℕ = size (n / c) - prec f in
    let u : ℕ = c * 2 ^ k in
    round_is f true a c ∙ minus_units f (nearest (n / u) (compare (n % u * 2) u)) k ∙ sym (ap neg (round_is f false a c))
