-- Test by test, as the definition. Assumes nothing.
use native.Mathlib.Omega.{arith}
use mathlib.Core.Path.{◌∙◌}
use Rattle.journal.proofs.Places.{read_end, read_short, read_cut, read_low, read_whole}
use Rattle.journal.proofs.reading.read.Goals as goal

pub returns-then-n-at : goal.returns-then-n-at
returns-then-n-at c =
    read_end c.args.bytes.now c.args.at c.if-n-at.true

pub returns-then-left-lt4 : goal.returns-then-left-lt4
returns-then-left-lt4 c =
    read_short c.args.bytes.now c.args.at c.if-n-at.false c.if-left-lt4.true

pub returns-then-left-len : goal.returns-then-left-len
returns-then-left-len c =
    read_cut c.args.bytes.now c.args.at c.get16-len.result c.get16-len.ensures.0 c.if-left-lt4.false
    (omega arith)

pub returns-then-len-lt2 : goal.returns-then-len-lt2
returns-then-len-lt2 c =
    read_low c.args.bytes.now c.args.at c.get16-len.result c.get16-len.ensures.0
    c.if-left-lt4.false (omega arith) (omega arith)

pub returns : goal.returns
returns c =
    c.record_at.ensures
    ∙ read_whole c.args.bytes.now c.args.at c.get16-len.result c.get16-len.ensures.0 c.if-left-lt4.false (omega arith)
    (omega arith)
