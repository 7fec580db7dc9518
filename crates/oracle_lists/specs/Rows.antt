-- How a list is read: what each byte makes of the row read so far. Assumes nothing.
use Rattle.std.specs.Prelude.{ℕ, ◌+◌, ◌-◌, ◌*◌, Bool, true, false, cond, List, [], ◌∷◌, eqb, leb, ltb}
use Rattle.oracle_lists.specs.declared.rows.State.{State}
use Rattle.oracle_lists.specs.declared.rows.State.TheVariants.{Between, Within, Opened, Whole, Spoiled}
use Rattle.oracle_lists.specs.declared.rows.Reader.{Reader}

-- a row with a letter and no number yet
abbrev pub fresh : State → ℕ → Reader
fresh s letter = record { state = s; letter = letter; fields = 0; a = 0; b = 0; c = 0; d = 0 }

-- what a byte that fits nowhere leaves
abbrev pub no_list : Reader
no_list = fresh Spoiled 0

-- a row begins with a letter, a to z
unfoldable pub begun : ℕ → Reader
begun byte = cond (ltb byte 97) no_list (cond (ltb 122 byte) no_list (fresh Within byte))

-- and ends with a newline
abbrev pub ended : Reader → Reader
ended r = record { state = Whole; letter = r.letter; fields = r.fields; a = r.a; b = r.b; c = r.c; d = r.d }

-- after a space a number begins; a row has four at most
unfoldable pub with_field : Reader → Reader
with_field r =
    cond (leb 4 r.fields) no_list
    record { state = Opened; letter = r.letter; fields = r.fields + 1; a = r.b; b = r.c; c = r.d; d = 0 }

-- a digit makes the last number ten times as large and adds itself; the number stays below 2^32
unfoldable pub with_digit : Reader → ℕ → Reader
with_digit r n =
    cond (ltb 4294967295 (10 * r.d + n)) no_list
    record { state = Within; letter = r.letter; fields = r.fields; a = r.a; b = r.b; c = r.c; d = 10 * r.d + n }

-- a byte that must be a digit, 0 to 9
unfoldable pub with_figure : Reader → ℕ → Reader
with_figure r byte = cond (ltb byte 48) no_list (cond (ltb 57 byte) no_list (with_digit r (byte - 48)))

-- after the letter a newline or a space; after a digit one of these, or a digit
unfoldable pub continued : Reader → ℕ → Reader
continued r byte =
    cond (eqb byte 10) (ended r)
    (cond (eqb byte 32) (with_field r) (cond (eqb r.fields 0) no_list (with_figure r byte)))

unfoldable pub fed_at : State → Reader → ℕ → Reader
fed_at Between r byte = begun byte
fed_at Within r byte = continued r byte
fed_at Opened r byte = with_figure r byte
fed_at Whole r byte = begun byte
fed_at Spoiled r byte = r

-- the reader after one byte more
abbrev pub fed : Reader → ℕ → Reader
fed r byte = fed_at r.state r byte

-- the reader after all of the bytes
unfoldable pub fed_all : Reader → List ℕ → Reader
fed_all r [] = r
fed_all r (byte ∷ bytes) = fed_all (fed r byte) bytes

-- the last byte ended a row
abbrev pub is_whole : State → Bool
is_whole Between = false
is_whole Within = false
is_whole Opened = false
is_whole Whole = true
is_whole Spoiled = false

-- a list may end before its first row, or after a whole one
abbrev pub ends_well : State → Bool
ends_well Between = true
ends_well Within = false
ends_well Opened = false
ends_well Whole = true
ends_well Spoiled = false
