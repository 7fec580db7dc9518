-- The store that is named is filled; the other one is as it was. Assumes nothing.
use Rattle.packets.specs.declared.Store.TheVariants.{OnChip, External}
use mathlib.Core.Path.{sym, ◌∙◌}
use Rattle.tables.specs.Calls.{edition32}
use Rattle.answers.specs.Asked.{token_of}
use native.Mathlib.Omega.{arith}
use lib.ListN.{length}
use Rattle.packets.specs.Calls.{Fill}
use Rattle.packets.proofs.Steps.{both_long}
use Rattle.packets.proofs.Named.{as_named, refused_9, filled}
use Rattle.packet_filling.proofs.fill.Goals as goal

pub returns-then-too_short : goal.returns-then-too_short
returns-then-too_short c =
    refused_9 edition32 (Fill _ _ _) _ tt
    (sym c.too_short.ensures.value ∙ c.if-too_short.true)

pub fill-requires : goal.fill-requires
fill-requires c =
    let long =
    both_long (length c.args.on_bytes.now) c.args.on_chip.size (length c.args.ex_bytes.now) c.args.external.size
    (sym c.too_short.ensures.value ∙ c.if-too_short.false) in
    omega (arith, long.0, long.1)

pub fill-requires-in-External : goal.fill-requires-in-External
fill-requires-in-External c =
    let long =
    both_long (length c.args.on_bytes.now) c.args.on_chip.size (length c.args.ex_bytes.now) c.args.external.size
    (sym c.too_short.ensures.value ∙ c.if-too_short.false) in
    omega (arith, long.0, long.1)

pub returns-in-OnChip : goal.returns-in-OnChip
returns-in-OnChip c =
    as_named edition32 (λ s. Fill s (token_of c.args.packet.span) c.args.new.now) c.in-OnChip.is
    (filled edition32 OnChip _ _ _ _ _ (sym c.too_short.ensures.value ∙ c.if-too_short.false)
    c.fill.ensures)

pub returns-in-External : goal.returns-in-External
returns-in-External c =
    as_named edition32 (λ s. Fill s (token_of c.args.packet.span) c.args.new.now) c.in-External.is
    (filled edition32 External _ _ _ _ _ (sym c.too_short.ensures.value ∙ c.if-too_short.false)
    c.fill-in-External.ensures)
