-- What is drawn from a seed: seeds and words are numbers below 2 ^ 32. Assumes nothing.
use Rattle.std.specs.Prelude.{ℕ, zero, suc, ◌+◌, ◌*◌, ◌/◌, ◌%◌}

abbrev pub next_seed : ℕ → ℕ
next_seed seed = (seed * 1664525 + 1013904223) % 4294967296

abbrev pub high_half : ℕ → ℕ
high_half seed = seed / 65536

-- below n, and 0 where nothing is
abbrev pub high_below : ℕ → ℕ → ℕ
high_below seed zero = 0
high_below seed (suc n) = high_half seed % suc n

-- the high halves of the next two seeds
unfoldable pub whole_word : ℕ → ℕ
whole_word seed = high_half (next_seed seed) * 65536 + high_half (next_seed (next_seed seed))
