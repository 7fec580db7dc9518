-- Size classes, as document 01 gives them, on numbers of any size, and document 02's sizes without a class. Assumes nothing.
use Rattle.std.specs.Prelude.{ℕ, zero, suc, ◌+◌, ◌-◌, ◌*◌, ◌/◌, ◌%◌, ◌^◌, ◌≤◌, cond, ltb}
use Rattle.std.proofs.Math.Option.{Option, none, some}

-- The highest set bit of a number: how often it can be halved before 1 is left.
-- The first argument only bounds the depth; a number can be halved less often than it is large.
unfoldable pub halvings : ℕ → ℕ → ℕ
halvings zero s = 0
halvings (suc depth) zero = 0
halvings (suc depth) (suc zero) = 0
halvings (suc depth) (suc (suc s)) = suc (halvings depth (suc (suc s) / 2))

unfoldable pub highest_bit : ℕ → ℕ
unfolding halvings
highest_bit s = halvings s s

-- "For s of 8 or more with highest set bit h, let g = h - 3."
unfoldable pub grain : ℕ → ℕ
unfolding highest_bit
grain s = highest_bit s - 3

-- "Sizes 0 to 7 are their own class. .. The class rounded down is 8(g + 1) + (floor(s / 2^g) mod 8)"
unfoldable pub down : ℕ → ℕ
unfolding grain
down s = cond (ltb s 8) s (8 * (grain s + 1) + (s / 2 ^ grain s) % 8)

-- "rounded up adds 1 if 2^g does not divide s": 1 if anything is left over
unfoldable pub one_if_any : ℕ → ℕ
one_if_any zero = 0
one_if_any (suc rest) = 1

-- as a number, whatever the size: `rounded_up` below is what the rounding answers
unfoldable pub up : ℕ → ℕ
unfolding down grain one_if_any
up s = cond (ltb s 8) s (down s + one_if_any (s % 2 ^ grain s))

-- "The value of class c below 8 is c; otherwise it is (8 + c mod 8) * 2^(floor(c / 8) - 1)."
unfoldable pub value : ℕ → ℕ
value c = cond (ltb c 8) c ((8 + c % 8) * 2 ^ (c / 8 - 1))

-- The classes that a region of a 32-bit store can have: 0 to 239.
abbrev pub classes_in_use : ℕ
classes_in_use = 240

-- The greatest size that has a class of its own or above it: the value of class 239.
abbrev pub greatest_served : ℕ
greatest_served = 4026531840

-- Document 02: "Above 4,026,531,840 the rounded-up class is a number no region can have. Let that rounding answer "no class" instead of 240". What a
-- size is rounded up to: a class, or none.
unfoldable pub rounded_up : ℕ → Option ℕ
unfolding up
rounded_up s = cond (ltb greatest_served s) none (some (up s))

-- a region's class reaches what a size is rounded up to: it is that class or a higher one; where there is no class, none reaches it
abbrev pub Reaches : (class : ℕ) → Option ℕ → Type 0
Reaches class none = ⊥
Reaches class (some wanted) = wanted ≤ class
