-- A refusal shows nothing; a length is that of the part that is lent. Assumes nothing.
use mathlib.Core.Path.{sym, ap, ◌∙◌}
use native.Mathlib.Omega.{arith}
use Rattle.tables.specs.Calls.{edition32}
use Rattle.answers.specs.Answers.{size_says}
use Rattle.answers.specs.Asked.{token_of}
use Rattle.answers.specs.Refusals.{number_of}
use Rattle.packets.specs.Stores.{store_of}
use Rattle.packets.proofs.Steps.{length_in_bytes, shows_nothing, shows_part}
use Rattle.packet_store.proofs.read.Goals as goal

pub part-requires : goal.part-requires
part-requires c =
    let k = store_of c.args.t c.args.bin_indices.now c.args.used_bins.now c.args.nodes.now c.args.free_nodes.now c.args.bytes.now in
    omega (
      arith,
      length_in_bytes edition32 (token_of c.args.span) k c.in-Ok.n.0
          (ap size_says (sym c.in-Ok.is) ∙ c.length_of.ensures c.args.bytes.now) c.requires,
    )

pub returns-in-Err : goal.returns-in-Err
returns-in-Err c =
    let k = store_of c.args.t c.args.bin_indices.now c.args.used_bins.now c.args.nodes.now c.args.free_nodes.now c.args.bytes.now in
    c.no_part.ensures ∙ shows_nothing edition32 (token_of c.args.span) k (number_of c.in-Err.field-0)
    (ap size_says (sym c.in-Err.is) ∙ c.length_of.ensures c.args.bytes.now)

pub returns-in-Ok : goal.returns-in-Ok
returns-in-Ok c =
    let k = store_of c.args.t c.args.bin_indices.now c.args.used_bins.now c.args.nodes.now c.args.free_nodes.now c.args.bytes.now in
    c.part.ensures ∙ shows_part edition32 (token_of c.args.span) k c.in-Ok.n.0
    (ap size_says (sym c.in-Ok.is) ∙ c.length_of.ensures c.args.bytes.now)
