-- By whether the byte has a place, and is one. Assumes nothing.
use borrow.Author.Tests.{lt-ltb, le-ltb, lt-leb, le-leb}
use Rattle.audit_trials.proofs.parts.put_leaf.Goals as goal

pub returns-then-at-ge32 : goal.returns-then-at-ge32
returns-then-at-ge32 c = (rw (le-ltb _ 32 c.if-at-ge32.true), rw (le-ltb _ 32 c.if-at-ge32.true))

pub returns-then-v-gt255 : goal.returns-then-v-gt255
returns-then-v-gt255 c =
    let inside = lt-ltb _ 32 c.if-at-ge32.false in
    let longer = lt-leb _ 255 c.if-v-gt255.true in
    (rw (inside, longer), rw (inside, longer))

pub returns : goal.returns
returns c =
    let inside = lt-ltb _ 32 c.if-at-ge32.false in
    let byte = le-leb _ 255 c.if-v-gt255.false in
    (rw (inside, byte), rw (inside, byte))
