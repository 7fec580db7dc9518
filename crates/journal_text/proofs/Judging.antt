-- Where the first word of a text stands. Assumes nothing.
use Prim.Native.Nat.{ℕ, ◌+◌, ◌-◌}
use native.Mathlib.Omega.{arith}
use mathlib.Core.Path.{◌≡◌, sym, ap, ◌∙◌}
use mathlib.Core.List.{List}
use lib.ListN.{take, drop, get_or}
use lib.Seq.{drop-drop, get_or-drop}
use Rattle.journal_text.specs.Words.{is_blank, is_ink, leading, trimmed, word_in, behind_word}

-- ---- the first word stands from the blanks in front to where its bytes end
module _ (text : List ℕ) (start many : ℕ) (blank : start ≡ leading is_blank text) (ink : many ≡ leading is_ink (drop start text)) where
  pub word_there : take ((start + many) - start) (drop start text) ≡ word_in text
  unfolding word_in trimmed
  word_there =
      let length_is : (start + many) - start ≡ leading is_ink (drop start text) = omega (arith, ink) in
      ap (λ (n : ℕ). take n (drop start text)) length_is
      ∙ ap (λ (n : ℕ). take (leading is_ink (drop n text)) (drop n text)) blank

  pub behind_there : drop (start + many) text ≡ behind_word text
  unfolding behind_word trimmed
  behind_there =
      sym (drop-drop many start text)
      ∙ ap (λ (n : ℕ). drop n (drop start text)) ink
      ∙ ap (λ (n : ℕ). drop (leading is_ink (drop n text)) (drop n text)) blank

-- the byte there is the first that is no blank
pub first_there : (text : List ℕ) (start : ℕ) → start ≡ leading is_blank text → get_or text start 0 ≡ get_or (trimmed text) 0 0
unfolding trimmed
first_there text start e =
    let same_place : start + 0 ≡ start = omega arith in
    ap (λ (n : ℕ). get_or text n 0) (sym same_place) ∙ sym (get_or-drop start text 0 0) ∙ ap (λ (n : ℕ). get_or (drop n text) 0 0) e
