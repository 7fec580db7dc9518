-- Told by the store that is named. Assumes nothing.
use mathlib.Core.Path.{sym, ap, ◌∙◌}
use Rattle.tables.specs.Calls.{edition32}
use Rattle.ledger.specs.Ledger.{reported}
use Rattle.packets.specs.Calls.{ReportOf}
use Rattle.packets.specs.declared.Store.TheVariants.{OnChip, External}
use Rattle.packets.specs.Answers.{report_says}
use Rattle.packets.proofs.Named.{says_from_store, as_named, refused_9, reported_of}
use Rattle.packet_asking.proofs.report.Goals as goal

pub returns-then-too_short : goal.returns-then-too_short
returns-then-too_short c =
    refused_9 edition32 (ReportOf _) _ tt (sym c.too_short.ensures.value ∙ c.if-too_short.true)

pub returns-in-OnChip : goal.returns-in-OnChip
returns-in-OnChip c =
    as_named edition32 ReportOf c.in-OnChip.is
    (reported_of edition32 OnChip _ _ _ (sym c.too_short.ensures.value ∙ c.if-too_short.false) (ap report_says c.of_store.ensures ∙ says_from_store (λ r. reported r.total_free_space.0 r.largest_free_region.0) _)
    c.storage_report.ensures)

pub returns-in-External : goal.returns-in-External
returns-in-External c =
    as_named edition32 ReportOf c.in-External.is
    (reported_of edition32 External _ _ _ (sym c.too_short.ensures.value ∙ c.if-too_short.false) (ap report_says c.of_store-in-External.ensures ∙ says_from_store (λ r. reported r.total_free_space.0 r.largest_free_region.0) _)
    c.storage_report-in-External.ensures)
