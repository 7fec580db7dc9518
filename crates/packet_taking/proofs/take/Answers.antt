-- One store after the other, if neither is too short. Assumes nothing.
use mathlib.Core.Path.{sym, ◌∙◌}
use Rattle.tables.specs.Calls.{edition32}
use lib.ListN.{length}
use Rattle.packets.specs.Calls.{Take}
use Rattle.packets.proofs.Steps.{both_long}
use Rattle.packets.proofs.Named.{refused_9, taken_both}
use Rattle.packet_taking.proofs.take.Goals as goal

pub returns-then-too_short : goal.returns-then-too_short
returns-then-too_short c =
    refused_9 edition32 (Take _) _ tt (sym c.too_short.ensures.value ∙ c.if-too_short.true)

pub take-first-requires : goal.take-first-requires
take-first-requires c =
    (both_long (length c.args.on_bytes.now) c.args.on_chip.size (length c.args.ex_bytes.now) c.args.external.size
    (sym c.too_short.ensures.value ∙ c.if-too_short.false)).0

pub after_first-tried-requires : goal.after_first-tried-requires
after_first-tried-requires c =
    (both_long (length c.args.on_bytes.now) c.args.on_chip.size (length c.args.ex_bytes.now) c.args.external.size
    (sym c.too_short.ensures.value ∙ c.if-too_short.false)).1

pub returns : goal.returns
returns c =
    taken_both edition32 _ _ _ _ _ _ (sym c.too_short.ensures.value ∙ c.if-too_short.false)
    c.take-first.ensures (c.after_first-tried.ensures _)
