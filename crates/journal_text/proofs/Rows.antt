-- Each row by computing. Assumes nothing.
use mathlib.Core.Path.{refl}
use Rattle.journal_text.specs.Words.{is_blank, is_ink, is_digit, only_blanks, trimmed, word_in, behind_word}
use Rattle.journal_text.specs.Lines.{made_on, valued, number_of, ended, last_number, holds, holds_two, resets, call_in, line_in}
use Rattle.journal_text.specs.Rows.{Rows}

pub rows : Rows
unfolding is_blank is_ink is_digit only_blanks trimmed word_in behind_word made_on valued number_of ended last_number holds holds_two resets call_in line_in
rows = record {
  set_up = refl;
  zeros_in_front = refl;
  blanks_anywhere = refl;
  nothing = refl;
  comment = refl;
  no_word = refl;
  no_number = refl;
  no_offset = refl;
  not_digits = refl;
  too_large = refl;
  largest = refl;
  too_much = refl;
  too_much_behind = refl;
}
