-- The record of a call: "a little-endian 16-bit length of what follows, a two-byte kind, then 32-bit fields". Assumes nothing.
use Rattle.std.specs.Prelude.{◌≡◌, cond, List, [], ◌∷◌, ◌++◌, ℕ, ◌+◌, leb, length, take, drop}
use Rattle.calls.specs.Values.{fields_of}
use Rattle.calls.specs.declared.Call.{Call}
use Rattle.calls.specs.declared.Call.TheVariants.{Take, HandBack, SetUp, Reset}
use Rattle.journal.specs.Refusals.{Wrote, Before, NoRoom}
use Rattle.journal.specs.Bytes.{in_bytes}

-- "Kind 1 is take (size), 2 hand back (record), 3 setup (size, count), 4 reset (no field)." Request 3 amends it: "Journal kind 2 gains the offset
-- after the record and its length becomes 10".
abbrev pub kind_of : Call → ℕ
kind_of (Take size) = 1
kind_of (HandBack span) = 2
kind_of (SetUp size count) = 3
kind_of Reset = 4

-- "32-bit fields", one after the other
unfoldable pub in_fields : List ℕ → List ℕ
unfolding in_bytes
in_fields [] = []
in_fields (n ∷ ns) = in_bytes 4 n ++ in_fields ns

-- "what follows": kind and fields
unfoldable pub body_of : Call → List ℕ
unfolding in_fields
body_of c = in_bytes 2 (kind_of c) ++ in_fields (fields_of c)

unfoldable pub record_of : Call → List ℕ
unfolding body_of
record_of c = in_bytes 2 (length (body_of c)) ++ body_of c

-- the records of calls, one after the other
unfoldable pub journal_of : List Call → List ℕ
unfolding record_of
journal_of [] = []
journal_of (c ∷ cs) = record_of c ++ journal_of cs

-- A record written at a place of lent bytes: where it has room, its bytes stand there, the others stay, and the answer is the place behind it;
-- "too little room to write a record is 16, nothing written".
pub record Written (c : Call) (before : List ℕ) (at : ℕ) (answer : Wrote) (after : List ℕ) : Type 0 where
  pub told : answer ≡ cond (leb (at + length (record_of c)) (length before)) (Before (at + length (record_of c))) NoRoom
  pub left : after
      ≡ cond (leb (at + length (record_of c)) (length before)) (take at before ++ (record_of c ++ drop (at + length (record_of c)) before)) before
