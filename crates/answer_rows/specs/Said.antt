-- An answer as the row of the list of runs that the port would write. oracle/README.md has the letters. Assumes nothing.
use Rattle.std.specs.Prelude.{ℕ, cond, eqb, Option, None, Some}
use Rattle.call_verdicts.specs.declared.Said.{Said}
use Rattle.call_values.specs.declared.answer.Answer.{Answer}
use Rattle.call_values.specs.declared.answer.Answer.TheVariants as answer
use Rattle.call_values.specs.declared.call.Call.{Call}
use Rattle.call_values.specs.declared.call.Call.TheVariants as call

-- a letter and the last two numbers, 0 where the row has fewer; None where no list has such an answer
abbrev pub row : (letter c d : ℕ) → Option Said
row letter c d = Some record { letter = letter; c = c; d = d }

-- n SIZE COUNT, z, f OFFSET RECORD
abbrev pub done_said : Call → Option Said
done_said (call.SetUp size count) = row 110 size count
done_said call.Reset = row 122 0 0
done_said (call.Take size) = None
done_said (call.HandBack offset number) = row 102 offset number
done_said (call.SizeOf offset number) = None
done_said call.Report = None
done_said (call.ClassOf class) = None
done_said call.ClassesHeld = None

-- l OFFSET RECORD LENGTH
abbrev pub length_said : Call → ℕ → Option Said
length_said (call.SetUp size count) length = None
length_said call.Reset length = None
length_said (call.Take size) length = None
length_said (call.HandBack offset number) length = None
length_said (call.SizeOf offset number) length = row 108 number length
length_said call.Report length = None
length_said (call.ClassOf class) length = None
length_said call.ClassesHeld length = None

-- x SIZE: refused with 3 or 4; the Rust does not say which
unfoldable pub no_grant_said : (size refusal : ℕ) → Option Said
no_grant_said size refusal = cond (eqb refusal 3) (row 120 0 size) (cond (eqb refusal 4) (row 120 0 size) None)

-- a row of a span that is none of the live ones: refused with 5, the record is not live; with 8, it is, and starts elsewhere
unfoldable pub no_span_said : (dead elsewhere c d refusal : ℕ) → Option Said
no_span_said dead elsewhere c d refusal = cond (eqb refusal 5) (row dead c d) (cond (eqb refusal 8) (row elsewhere c d) None)

-- x SIZE; b OFFSET RECORD and w the same; u OFFSET RECORD LENGTH and m the same
abbrev pub refused_said : Call → ℕ → Option Said
refused_said (call.SetUp size count) refusal = None
refused_said call.Reset refusal = None
refused_said (call.Take size) refusal = no_grant_said size refusal
refused_said (call.HandBack offset number) refusal = no_span_said 98 119 offset number refusal
refused_said (call.SizeOf offset number) refusal = no_span_said 117 109 number 0 refusal
refused_said call.Report refusal = None
refused_said (call.ClassOf class) refusal = None
refused_said call.ClassesHeld refusal = None

-- those, and t SIZE OFFSET RECORD, r TOTAL LARGEST, g CLASS SIZE COUNT, e CLASSES
abbrev pub said_of : Call → Answer → Option Said
said_of c answer.Done = done_said c
said_of c (answer.Granted offset number) = row 116 offset number
said_of c (answer.Length length) = length_said c length
said_of c (answer.Free total largest) = row 114 total largest
said_of c (answer.Regions value regions) = row 103 value regions
said_of c (answer.Held classes) = row 101 0 classes
said_of c (answer.Refused number) = refused_said c number
said_of c answer.Nothing = None
