-- By the call. Assumes nothing.
use Prim.Native.Nat.{◌+◌, ◌≤◌}
use mathlib.Core.Path.{◌≡◌, sym, ap, subst, ◌∙◌}
use lib.ListN.{length}
use lib.Seq.{sets}
use Rattle.calls.specs.declared.Call.{Call}
use Rattle.journal.specs.Bytes.{in_bytes}
use Rattle.journal.specs.Writing.{in_fields, body_of, record_of}
use Rattle.journal.proofs.writing.put.Goals as goal

pub put_one-requires : goal.put_one-requires
unfolding record_of body_of in_fields in_bytes
put_one-requires c =
    let came : c.args.call ≡ _ = c.in-Take.is in
    let room : c.args.at + length (record_of c.args.call) ≤ length c.args.out.now = c.requires in
    subst (λ (call : Call). c.args.at + length (record_of call) ≤ length c.args.out.now) came room

pub put_two-requires : goal.put_two-requires
unfolding record_of body_of in_fields in_bytes
put_two-requires c =
    let came : c.args.call ≡ _ = c.in-HandBack.is in
    let room : c.args.at + length (record_of c.args.call) ≤ length c.args.out.now = c.requires in
    subst (λ (call : Call). c.args.at + length (record_of call) ≤ length c.args.out.now) came room

pub put_two-requires-in-SetUp : goal.put_two-requires-in-SetUp
unfolding record_of body_of in_fields in_bytes
put_two-requires-in-SetUp c =
    let came : c.args.call ≡ _ = c.in-SetUp.is in
    let room : c.args.at + length (record_of c.args.call) ≤ length c.args.out.now = c.requires in
    subst (λ (call : Call). c.args.at + length (record_of call) ≤ length c.args.out.now) came room

pub put_front-requires : goal.put_front-requires
unfolding record_of body_of in_fields in_bytes
put_front-requires c =
    let came : c.args.call ≡ _ = c.in-Reset.is in
    let room : c.args.at + length (record_of c.args.call) ≤ length c.args.out.now = c.requires in
    subst (λ (call : Call). c.args.at + length (record_of call) ≤ length c.args.out.now) came room

pub returns-in-Take : goal.returns-in-Take
unfolding record_of body_of in_fields in_bytes
returns-in-Take c =
    c.put_one.ensures
    ∙ sym (ap (λ (call : Call). sets c.args.out.now c.args.at (record_of call)) c.in-Take.is)

pub returns-in-HandBack : goal.returns-in-HandBack
unfolding record_of body_of in_fields in_bytes
returns-in-HandBack c =
    c.put_two.ensures
    ∙ sym (ap (λ (call : Call). sets c.args.out.now c.args.at (record_of call)) c.in-HandBack.is)

pub returns-in-SetUp : goal.returns-in-SetUp
unfolding record_of body_of in_fields in_bytes
returns-in-SetUp c =
    c.put_two-in-SetUp.ensures
    ∙ sym (ap (λ (call : Call). sets c.args.out.now c.args.at (record_of call)) c.in-SetUp.is)

pub returns-in-Reset : goal.returns-in-Reset
unfolding record_of body_of in_fields in_bytes
returns-in-Reset c =
    c.put_front.ensures
    ∙ sym (ap (λ (call : Call). sets c.args.out.now c.args.at (record_of call)) c.in-Reset.is)
