-- The store that is named takes it back; the other one is as it was. Assumes nothing.
use mathlib.Core.Path.{sym, ap, ◌∙◌}
use Rattle.ledger.specs.Ledger.{done}
use Rattle.packets.specs.Answers.{done_says}
use Rattle.tables.specs.Calls.{edition32}
use Rattle.answers.specs.Asked.{token_of}
use Rattle.packets.specs.Calls.{HandBack}
use Rattle.packets.specs.declared.Store.TheVariants.{OnChip, External}
use Rattle.packets.proofs.Named.{says_from_store, as_named, refused_9, gave_back, handed_back_lem}
use Rattle.packet_giving.proofs.hand_back.Goals as goal

pub returns-then-too_short : goal.returns-then-too_short
returns-then-too_short c =
    refused_9 edition32 (HandBack _ _) _ tt (sym c.too_short.ensures.value ∙ c.if-too_short.true)

pub returns-in-OnChip : goal.returns-in-OnChip
returns-in-OnChip c =
    as_named edition32 (λ s. HandBack s (token_of c.args.packet.span)) c.in-OnChip.is
    (handed_back_lem edition32 OnChip _ _ _ _ (sym c.too_short.ensures.value ∙ c.if-too_short.false)
    (gave_back edition32 _ _ _ _ _ c.free-returned.ensures (ap done_says c.of_store.ensures ∙ says_from_store (λ _. done) _)))

pub returns-in-External : goal.returns-in-External
returns-in-External c =
    as_named edition32 (λ s. HandBack s (token_of c.args.packet.span)) c.in-External.is
    (handed_back_lem edition32 External _ _ _ _ (sym c.too_short.ensures.value ∙ c.if-too_short.false)
    (gave_back edition32 _ _ _ _ _ c.free-returned-in-External.ensures (ap done_says c.of_store-in-External.ensures ∙ says_from_store (λ _. done) _)))
