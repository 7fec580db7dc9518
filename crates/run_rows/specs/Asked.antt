-- A row of the list of runs as a call. oracle/README.md has the letters. Assumes nothing.
use Rattle.std.specs.Prelude.{ℕ, Bool, false, cond, eqb, Option, None, Some}
use Rattle.oracle_lists.specs.declared.rows.Reader.{Reader}
use Rattle.call_values.specs.declared.call.Call.{Call}
use Rattle.call_values.specs.declared.call.Call.TheVariants as call

-- a row of this letter, with as many numbers
unfoldable pub is_row : (letter fields : ℕ) → Reader → Bool
is_row letter fields r = cond (eqb r.letter letter) (eqb r.fields fields) false

-- the questions: l OFFSET RECORD LENGTH, u and m the same, r TOTAL LARGEST, g CLASS SIZE COUNT, e CLASSES; any other row stands for no call
unfoldable pub question_of : Reader → Option Call
question_of r =
    cond (is_row 108 3 r) (Some (call.SizeOf r.b r.c))
    (cond (is_row 117 3 r) (Some (call.SizeOf r.b r.c))
    (cond (is_row 109 3 r) (Some (call.SizeOf r.b r.c))
    (cond (is_row 114 2 r) (Some call.Report)
    (cond (is_row 103 3 r) (Some (call.ClassOf r.b))
    (cond (is_row 101 1 r) (Some call.ClassesHeld) None)))))

-- f OFFSET RECORD, b and w the same, and the questions
unfoldable pub hand_back_of : Reader → Option Call
hand_back_of r =
    cond (is_row 102 2 r) (Some (call.HandBack r.c r.d))
    (cond (is_row 98 2 r) (Some (call.HandBack r.c r.d))
    (cond (is_row 119 2 r) (Some (call.HandBack r.c r.d)) (question_of r)))

-- n SIZE COUNT, z, t SIZE OFFSET RECORD, x SIZE, and those above
unfoldable pub call_of : Reader → Option Call
call_of r =
    cond (is_row 110 2 r) (Some (call.SetUp r.c r.d))
    (cond (is_row 122 0 r) (Some call.Reset)
    (cond (is_row 116 3 r) (Some (call.Take r.b))
    (cond (is_row 120 1 r) (Some (call.Take r.d)) (hand_back_of r))))
