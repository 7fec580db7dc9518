-- Lines and what they hold, computed: proofs/Rows.antt makes it. Assumes nothing.
use Rattle.std.specs.Prelude.{◌≡◌, [], ◌∷◌}
use Rattle.calls.specs.declared.Call.TheVariants.{Take, HandBack, SetUp}
use Rattle.journal_text.specs.declared.line.Fault.TheVariants.{UnknownWord, MissingNumber, NotANumber, TooLarge, TooMuch}
use Rattle.journal_text.specs.Lines.{Holds, Blank, Bad, line_in}

pub record Rows : Type 0 where
  -- setup 100 6
  pub set_up : line_in (115 ∷ 101 ∷ 116 ∷ 117 ∷ 112 ∷ 32 ∷ 49 ∷ 48 ∷ 48 ∷ 32 ∷ 54 ∷ []) ≡ Holds (SetUp record { 0 = 100 } 6)
  -- take 007
  pub zeros_in_front : line_in (116 ∷ 97 ∷ 107 ∷ 101 ∷ 32 ∷ 48 ∷ 48 ∷ 55 ∷ []) ≡ Holds (Take record { 0 = 7 })
  -- back, the record 7 and the offset 9, with spaces, a tab and a carriage return about them
  pub blanks_anywhere : line_in (32 ∷ 98 ∷ 97 ∷ 99 ∷ 107 ∷ 9 ∷ 32 ∷ 55 ∷ 32 ∷ 57 ∷ 32 ∷ 13 ∷ [])
      ≡ Holds (HandBack record { offset = 9; metadata = record { 0 = 7 } })
  -- two spaces
  pub nothing : line_in (32 ∷ 32 ∷ []) ≡ Blank
  -- # take 1
  pub comment : line_in (32 ∷ 35 ∷ 32 ∷ 116 ∷ 97 ∷ 107 ∷ 101 ∷ 32 ∷ 49 ∷ []) ≡ Blank
  -- taken 1
  pub no_word : line_in (116 ∷ 97 ∷ 107 ∷ 101 ∷ 110 ∷ 32 ∷ 49 ∷ []) ≡ Bad UnknownWord
  -- setup 100
  pub no_number : line_in (115 ∷ 101 ∷ 116 ∷ 117 ∷ 112 ∷ 32 ∷ 49 ∷ 48 ∷ 48 ∷ []) ≡ Bad MissingNumber
  -- back 0
  pub no_offset : line_in (98 ∷ 97 ∷ 99 ∷ 107 ∷ 32 ∷ 48 ∷ []) ≡ Bad MissingNumber
  -- take 1O
  pub not_digits : line_in (116 ∷ 97 ∷ 107 ∷ 101 ∷ 32 ∷ 49 ∷ 79 ∷ []) ≡ Bad NotANumber
  -- take 4294967296
  pub too_large : line_in (116 ∷ 97 ∷ 107 ∷ 101 ∷ 32 ∷ 52 ∷ 50 ∷ 57 ∷ 52 ∷ 57 ∷ 54 ∷ 55 ∷ 50 ∷ 57 ∷ 54 ∷ []) ≡ Bad TooLarge
  -- back 4294967295 4294967295
  pub largest : line_in
      (98 ∷ 97 ∷ 99 ∷ 107 ∷ 32 ∷ 52 ∷ 50 ∷ 57 ∷ 52 ∷ 57 ∷ 54 ∷ 55 ∷ 50 ∷ 57 ∷ 53 ∷ 32 ∷ 52 ∷ 50 ∷ 57 ∷ 52 ∷ 57 ∷ 54 ∷ 55 ∷ 50 ∷ 57 ∷ 53 ∷ [])
      ≡ Holds (HandBack record { offset = 4294967295; metadata = record { 0 = 4294967295 } })
  -- reset 1
  pub too_much : line_in (114 ∷ 101 ∷ 115 ∷ 101 ∷ 116 ∷ 32 ∷ 49 ∷ []) ≡ Bad TooMuch
  -- take 1 # one
  pub too_much_behind : line_in (116 ∷ 97 ∷ 107 ∷ 101 ∷ 32 ∷ 49 ∷ 32 ∷ 35 ∷ 32 ∷ 111 ∷ 110 ∷ 101 ∷ []) ≡ Bad TooMuch
