-- Three digits behind the point, cut and not rounded: how many thousandths of 1 a number is. Assumes nothing.
use Rattle.std.specs.Prelude.{◌≡◌, ℕ, true, false, cond, ◌&&◌, pos, negsuc, refl, Float}
use Rattle.std.specs.Float.{fin, nan, binary64}
use Rattle.std.specs.Float.Ieee.{mul, lt, to_unsigned}

-- above -1 and below 2 ^ 64, the whole part; otherwise 0
unfoldable pub whole_part : Float → ℕ
whole_part s = cond (lt (fin true 1 (pos 0)) s && lt s (fin false 1 (pos 64))) (to_unsigned 64 s) 0

-- 1000 is 125 * 2 ^ 3. A level is within 0 and 256 and has at most 24 binary digits: 1000 times it has at most 34, so that an f64 holds it
unfoldable pub thousandths : Float → ℕ
thousandths x = whole_part (mul binary64 x (fin false 125 (pos 3)))

-- 6.375, 21.578125 and 256; -0.0001220703125; what is no number
example_level : thousandths (fin false 51 (negsuc 2)) ≡ 6375
unfolding thousandths whole_part mul lt to_unsigned
example_level = refl

example_cut : thousandths (fin false 1381 (negsuc 5)) ≡ 21578
unfolding thousandths whole_part mul lt to_unsigned
example_cut = refl

example_full : thousandths (fin false 1 (pos 8)) ≡ 256000
unfolding thousandths whole_part mul lt to_unsigned
example_full = refl

example_below : thousandths (fin true 1 (negsuc 12)) ≡ 0
unfolding thousandths whole_part mul lt to_unsigned
example_below = refl

example_none : thousandths nan ≡ 0
unfolding thousandths whole_part mul lt to_unsigned
example_none = refl
