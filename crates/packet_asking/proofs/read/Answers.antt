-- The part is of the store that is named. Assumes nothing.
use mathlib.Core.Path.{sym, ◌∙◌}
use Rattle.tables.specs.Calls.{edition32}
use Rattle.answers.specs.Asked.{token_of}
use native.Mathlib.Omega.{arith}
use lib.ListN.{length}
use Rattle.packets.specs.Calls.{Read}
use Rattle.packets.specs.declared.Store.TheVariants.{OnChip, External}
use Rattle.packets.proofs.Steps.{both_long}
use Rattle.packets.proofs.Named.{as_named, shows_none, shown}
use Rattle.packet_asking.proofs.read.Goals as goal

pub returns-then-too_short : goal.returns-then-too_short
returns-then-too_short c =
    rw c.no_part.ensures (shows_none edition32 _ _ _ (sym c.too_short.ensures.value ∙ c.if-too_short.true))

pub read-requires : goal.read-requires
read-requires c =
    let long =
    both_long (length c.args.on_bytes.now) c.args.on_chip.size (length c.args.ex_bytes.now) c.args.external.size
    (sym c.too_short.ensures.value ∙ c.if-too_short.false) in
    omega (arith, long.0, long.1)

pub read-requires-in-External : goal.read-requires-in-External
read-requires-in-External c =
    let long =
    both_long (length c.args.on_bytes.now) c.args.on_chip.size (length c.args.ex_bytes.now) c.args.external.size
    (sym c.too_short.ensures.value ∙ c.if-too_short.false) in
    omega (arith, long.0, long.1)

pub returns-in-OnChip : goal.returns-in-OnChip
returns-in-OnChip c =
    as_named edition32 (λ s. Read s (token_of c.args.packet.span)) c.in-OnChip.is
    (shown edition32 OnChip _ _ _ (sym c.too_short.ensures.value ∙ c.if-too_short.false) c.read.ensures)

pub returns-in-External : goal.returns-in-External
returns-in-External c =
    as_named edition32 (λ s. Read s (token_of c.args.packet.span)) c.in-External.is
    (shown edition32 External _ _ _ (sym c.too_short.ensures.value ∙ c.if-too_short.false) c.read-in-External.ensures)
