-- Told by the store that is named; refused as 9, the scratch is as it came. Assumes nothing.
use mathlib.Core.Path.{sym, ap, ◌∙◌}
use Rattle.tables.specs.Calls.{edition32}
use Rattle.ledger.specs.Ledger.{done}
use Rattle.packets.specs.declared.Store.TheVariants.{OnChip, External}
use Rattle.packets.specs.Answers.{done_says}
use Rattle.packets.proofs.Named.{says_from_store, audit_as_named, audit_9, audited}
use Rattle.packet_asking.proofs.audit.Goals as goal

pub returns-then-too_short : goal.returns-then-too_short
returns-then-too_short c =
    audit_9 edition32 _ _ _ (sym c.too_short.ensures.value ∙ c.if-too_short.true)

pub returns-in-OnChip : goal.returns-in-OnChip
returns-in-OnChip c =
    audit_as_named edition32 c.in-OnChip.is
    (audited edition32 OnChip _ _ _ _ _ (sym c.too_short.ensures.value ∙ c.if-too_short.false) (ap done_says c.of_store.ensures ∙ says_from_store (λ _. done) _) c.audit.ensures)

pub returns-in-External : goal.returns-in-External
returns-in-External c =
    audit_as_named edition32 c.in-External.is
    (audited edition32 External _ _ _ _ _ (sym c.too_short.ensures.value ∙ c.if-too_short.false) (ap done_says c.of_store-in-External.ensures ∙ says_from_store (λ _. done) _) c.audit-in-External.ensures)
