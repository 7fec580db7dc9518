-- Numbers as bytes, and back. Assumes nothing.
use Prim.Native.Nat.{ℕ, zero, suc, ◌+◌, ◌*◌, ◌/◌, ◌%◌, ◌^◌, ◌≤◌, ◌<◌}
use native.Mathlib.Omega.{arith}
use mathlib.Core.Path.{◌≡◌, refl, ap}
use mathlib.Core.List.{List, [], ◌∷◌, ◌++◌}
use lib.ListN.{length, take, drop, get_or}
use lib.Seq.{drop-cons}
use Rattle.journal.specs.Bytes.{in_bytes, number, AllBytes}

-- a number in bytes has as many
pub in_bytes_length : (width n : ℕ) → length (in_bytes width n) ≡ width
unfolding in_bytes
in_bytes_length zero n = refl
in_bytes_length (suc width) n = ap suc (in_bytes_length width (n / 256))

-- and they make it up again
pub made_again : (width n : ℕ) → n < 256 ^ width → number (in_bytes width n) ≡ n
unfolding in_bytes number
made_again zero n h = omega arith
made_again (suc width) n h =
    let rest : number (in_bytes width (n / 256)) ≡ n / 256 = made_again width (n / 256) (omega arith) in
    omega (arith, rest)

-- bytes are those of their number
pub from_number : (bytes : List ℕ) → AllBytes bytes → in_bytes (length bytes) (number bytes) ≡ bytes
unfolding in_bytes number
from_number [] all = refl
from_number (byte ∷ bytes) all =
    let small : byte < 256 = all.0 in
    let low : (byte + 256 * number bytes) % 256 ≡ byte = omega (arith, small) in
    let high : (byte + 256 * number bytes) / 256 ≡ number bytes = omega (arith, small) in
    rw (low, high, from_number bytes all.1)

-- the number of the bytes from a place on begins with the byte there
pub number_at : (k at : ℕ) (bytes : List ℕ) → at < length bytes
    → number (take (suc k) (drop at bytes)) ≡ get_or bytes at 0 + 256 * number (take k (drop (suc at) bytes))
unfolding number
number_at k at bytes h = rw (drop-cons bytes at 0 h)

-- two bytes, and twice two
pub two_bytes : (bytes : List ℕ) (at : ℕ) → at + 2 ≤ length bytes
    → number (take 2 (drop at bytes)) ≡ get_or bytes at 0 + 256 * get_or bytes (at + 1) 0
unfolding number
two_bytes bytes at h =
    let next : at + 1 ≡ suc at = omega arith in
    let first : number (take 2 (drop at bytes)) ≡ get_or bytes at 0 + 256 * number (take 1 (drop (suc at) bytes)) =
    number_at 1 at bytes (omega (arith, h)) in
    let second : number (take 1 (drop (suc at) bytes)) ≡ get_or bytes (suc at) 0 + 256 * 0 = number_at 0 (suc at) bytes (omega (arith, h)) in
    rw next (omega (arith, first, second))

pub four_bytes : (bytes : List ℕ) (at : ℕ) → at + 4 ≤ length bytes
    → number (take 4 (drop at bytes)) ≡ number (take 2 (drop at bytes)) + 65536 * number (take 2 (drop (at + 2) bytes))
four_bytes bytes at h =
    let next : at + 2 ≡ suc (suc at) = omega arith in
    let first : number (take 4 (drop at bytes)) ≡ get_or bytes at 0 + 256 * number (take 3 (drop (suc at) bytes)) =
    number_at 3 at bytes (omega (arith, h)) in
    let second : number (take 3 (drop (suc at) bytes)) ≡ get_or bytes (suc at) 0 + 256 * number (take 2 (drop (suc (suc at)) bytes)) =
    number_at 2 (suc at) bytes (omega (arith, h)) in
    let low : number (take 2 (drop at bytes)) ≡ get_or bytes at 0 + 256 * get_or bytes (at + 1) 0 = two_bytes bytes at (omega (arith, h)) in
    let one : get_or bytes (at + 1) 0 ≡ get_or bytes (suc at) 0 = ap (λ (i : ℕ). get_or bytes i 0) (omega arith) in
    rw next (omega (arith, first, second, low, one))

-- a record's front has four bytes, and eight with a field
pub front_length : (len kind : ℕ) → length (in_bytes 2 len ++ in_bytes 2 kind) ≡ 4
unfolding in_bytes
front_length len kind = refl

pub with_field_length : (len kind field : ℕ) → length ((in_bytes 2 len ++ in_bytes 2 kind) ++ in_bytes 4 field) ≡ 8
unfolding in_bytes
with_field_length len kind field = refl
