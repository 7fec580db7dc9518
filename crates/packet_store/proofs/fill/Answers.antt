-- A refusal is the answer; a length is that of the part that is filled. Assumes nothing.
use mathlib.Core.Path.{sym, ap, ◌∙◌}
use native.Mathlib.Omega.{arith}
use Rattle.std.proofs.lemmas.Result.{err_from_is_err_and}
use Rattle.tables.specs.Calls.{edition32}
use Rattle.answers.specs.Answers.{size_says}
use Rattle.answers.specs.Asked.{token_of}
use Rattle.answers.specs.Refusals.{number_of}
use Rattle.packets.specs.Stores.{store_of}
use Rattle.packets.proofs.Steps.{length_in_bytes, fill_refused, fill_goes_on}
use Rattle.packet_store.proofs.fill.Goals as goal

pub fill_part-requires : goal.fill_part-requires
fill_part-requires c =
    let k = store_of c.args.t c.args.bin_indices.now c.args.used_bins.now c.args.nodes.now c.args.free_nodes.now c.args.bytes.now in
    omega (
      arith,
      length_in_bytes edition32 (token_of c.args.span) k c.in_ok-n.n.0
          (ap size_says (sym c.in_ok-n.was) ∙ c.length_of.ensures c.args.bytes.now) c.requires,
    )

pub returns-in_err-n : goal.returns-in_err-n
returns-in_err-n c =
    let k = store_of c.args.t c.args.bin_indices.now c.args.used_bins.now c.args.nodes.now c.args.free_nodes.now c.args.bytes.now in
    let p = err_from_is_err_and c.from_residual.result c.from_residual.ensures.1 in
    rw (p.1, p.2) (fill_refused edition32 (token_of c.args.span) c.args.new.now k (number_of c.in_err-n.field-0.0)
    (c.in_err-n.ensures c.args.bytes.now))

pub returns : goal.returns
returns c =
    let k = store_of c.args.t c.args.bin_indices.now c.args.used_bins.now c.args.nodes.now c.args.free_nodes.now c.args.bytes.now in
    fill_goes_on edition32 (token_of c.args.span) c.args.new.now k c.in_ok-n.n.0 _ _
    (ap size_says (sym c.in_ok-n.was) ∙ c.length_of.ensures c.args.bytes.now) c.fill_part.ensures
