-- Cleared, tested, and cleared again. Assumes nothing.
use Rattle.tables.specs.Calls.{edition32}
use Rattle.audit_words.proofs.Verdicts.{scratch_short, tested}
use Rattle.auditing.proofs.behind_gate.Goals as goal

pub returns-then-scratch-n : goal.returns-then-scratch-n
returns-then-scratch-n c = scratch_short edition32 _ _ c.if-scratch-n.true

pub returns : goal.returns
returns c =
    tested edition32 _ _ _ c.if-scratch-n.false c.clear.ensures c.words_are_sound-sound.ensures.value
    c.words_are_sound-sound.ensures.scratch_unchanged c.clear-2.ensures c.verdict.ensures
