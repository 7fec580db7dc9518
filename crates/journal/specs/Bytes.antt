-- Numbers as bytes, the low byte first. Assumes nothing.
use Rattle.std.specs.Prelude.{ℕ, zero, suc, ◌+◌, ◌*◌, ◌/◌, ◌%◌, ◌<◌, List, [], ◌∷◌}

-- "little-endian": a number in so many bytes
unfoldable pub in_bytes : (width n : ℕ) → List ℕ
in_bytes zero n = []
in_bytes (suc width) n = n % 256 ∷ in_bytes width (n / 256)

-- and the number that bytes make
unfoldable pub number : List ℕ → ℕ
number [] = 0
number (byte ∷ bytes) = byte + 256 * number bytes

-- each is a byte
abbrev pub AllBytes : List ℕ → Type 0
AllBytes [] = Unit
AllBytes (byte ∷ bytes) = (byte < 256) × AllBytes bytes
