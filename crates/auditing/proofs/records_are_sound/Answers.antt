-- Chain, lists and bits, as the model joins them. Assumes nothing.
use mathlib.Core.Path.{sym, ◌∙◌}
use Rattle.tables.specs.Calls.{edition32}
use Rattle.audit_words.proofs.Verdicts.{chain_walked, chain_refused, lists_refused, bits_decide}
use Rattle.auditing.proofs.records_are_sound.Goals as goal

pub returns-then-not-walk_ends : goal.returns-then-not-walk_ends
returns-then-not-walk_ends c = λ pile.
    let walked = chain_walked edition32 _ _ c.first_record-first.ensures c.walk_from-end.ensures.value in
    sym (chain_refused edition32 _ _ _ walked (sym c.walk_ends.ensures ∙ c.if-not-walk_ends.true))

pub returns-then-not-lists_are_sound : goal.returns-then-not-lists_are_sound
returns-then-not-lists_are_sound c = λ pile.
    let walked = chain_walked edition32 _ _ c.first_record-first.ensures c.walk_from-end.ensures.value in
    sym (lists_refused edition32 _ _ _ walked
    (sym c.walk_ends.ensures ∙ c.if-not-walk_ends.false)
    (sym c.lists_are_sound.ensures ∙ c.if-not-lists_are_sound.true))

pub returns : goal.returns
returns c = λ pile.
    let walked = chain_walked edition32 _ _ c.first_record-first.ensures c.walk_from-end.ensures.value in
    c.bits_agree.ensures
    ∙ sym (bits_decide edition32 _ _ _ walked
    (sym c.walk_ends.ensures ∙ c.if-not-walk_ends.false)
    (sym c.lists_are_sound.ensures ∙ c.if-not-lists_are_sound.false))
