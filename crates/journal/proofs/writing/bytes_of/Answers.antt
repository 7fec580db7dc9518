-- By the call. Assumes nothing.
use mathlib.Core.Path.{sym, ap}
use lib.ListN.{length}
use Rattle.calls.specs.declared.Call.{Call}
use Rattle.journal.specs.Bytes.{in_bytes}
use Rattle.journal.specs.Writing.{in_fields, body_of, record_of}
use Rattle.journal.proofs.writing.bytes_of.Goals as goal

pub returns-in-Take : goal.returns-in-Take
unfolding record_of body_of in_fields in_bytes
returns-in-Take c = sym (ap (λ (call : Call). length (record_of call)) c.in-Take.is)

pub returns-in-HandBack : goal.returns-in-HandBack
unfolding record_of body_of in_fields in_bytes
returns-in-HandBack c = sym (ap (λ (call : Call). length (record_of call)) c.in-HandBack.is)

pub returns-in-SetUp : goal.returns-in-SetUp
unfolding record_of body_of in_fields in_bytes
returns-in-SetUp c = sym (ap (λ (call : Call). length (record_of call)) c.in-SetUp.is)

pub returns-in-Reset : goal.returns-in-Reset
unfolding record_of body_of in_fields in_bytes
returns-in-Reset c = sym (ap (λ (call : Call). length (record_of call)) c.in-Reset.is)
