-- How a line is taken apart: words, parted by one blank or several. Assumes nothing.
use Rattle.std.specs.List.{prefix_len}
use Rattle.std.specs.Str.{bytes_eq}
use Rattle.std.specs.Prelude.{ℕ, Bool, true, false, cond, not, List, eqb, leb, ltb, length, take, drop}

-- a blank is a space, a tab or a carriage return
unfoldable pub is_blank : ℕ → Bool
is_blank b = cond (eqb b 32) true (cond (eqb b 9) true (eqb b 13))

-- any other byte belongs to a word
unfoldable pub is_ink : ℕ → Bool
unfolding is_blank
is_ink b = not (is_blank b)

-- 0 to 9
unfoldable pub is_digit : ℕ → Bool
is_digit b = cond (ltb b 48) false (leb b 57)

-- how many bytes in front are such
abbrev pub leading : (ℕ → Bool) → List ℕ → ℕ
leading such text = prefix_len such text

-- nothing stands there
unfoldable pub only_blanks : List ℕ → Bool
only_blanks text = eqb (leading is_blank text) (length text)

-- without the blanks in front
unfoldable pub trimmed : List ℕ → List ℕ
trimmed text = drop (leading is_blank text) text

-- the first word, and what stands behind it
unfoldable pub word_in : List ℕ → List ℕ
unfolding trimmed
word_in text = take (leading is_ink (trimmed text)) (trimmed text)

unfoldable pub behind_word : List ℕ → List ℕ
unfolding trimmed
behind_word text = drop (leading is_ink (trimmed text)) (trimmed text)

-- two texts are byte for byte the same
abbrev pub same : List ℕ → List ℕ → Bool
same a b = bytes_eq a b
