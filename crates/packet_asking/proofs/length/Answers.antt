-- Told by the store that is named. Assumes nothing.
use mathlib.Core.Path.{sym, ap, ◌∙◌}
use Rattle.tables.specs.Calls.{edition32}
use Rattle.answers.specs.Asked.{token_of}
use Rattle.ledger.specs.Ledger.{Answer, length_is}
use Rattle.packets.specs.Calls.{LengthOf, plain}
use Rattle.packets.specs.declared.Store.TheVariants.{OnChip, External}
use Rattle.packets.specs.Answers.{length_says}
use Rattle.packets.proofs.Named.{says_from_store, as_named, refused_9, measured}
use Rattle.packet_asking.proofs.length.Goals as goal

pub returns-then-too_short : goal.returns-then-too_short
returns-then-too_short c =
    refused_9 edition32 (LengthOf _ _) _ tt (sym c.too_short.ensures.value ∙ c.if-too_short.true)

pub returns-in-OnChip : goal.returns-in-OnChip
returns-in-OnChip c =
    as_named edition32 (λ s. LengthOf s (token_of c.args.packet.span)) c.in-OnChip.is
    (measured edition32 OnChip _ _ _ (sym c.too_short.ensures.value ∙ c.if-too_short.false)
    ((ap length_says c.of_store.ensures ∙ says_from_store (λ size. length_is size.0) _) ∙ ap (λ (a : Answer). plain a) (c.length_of.ensures c.args.on_bytes.now)))

pub returns-in-External : goal.returns-in-External
returns-in-External c =
    as_named edition32 (λ s. LengthOf s (token_of c.args.packet.span)) c.in-External.is
    (measured edition32 External _ _ _ (sym c.too_short.ensures.value ∙ c.if-too_short.false)
    ((ap length_says c.of_store-in-External.ensures ∙ says_from_store (λ size. length_is size.0) _) ∙ ap (λ (a : Answer). plain a) (c.length_of-in-External.ensures c.args.ex_bytes.now)))
