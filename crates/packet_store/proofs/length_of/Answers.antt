-- What the question below promises, held to the size. Assumes nothing.
use Rattle.std.specs.Prelude.{Result}
use Rattle.answers.specs.declared.Refusal.{Refusal}
use Rattle.small_float.specs.declared.Size.{Size}
use Rattle.tables.specs.Calls.{answer_words}
use Rattle.ledger.specs.Calls.{SizeOf, Ask}
use mathlib.Core.Path.{◌≡◌, subst}
use Rattle.std.proofs.lemmas.Result.{err_from_is_err_and}
use Rattle.tables.specs.Calls.{edition32}
use Rattle.answers.specs.Answers.{size_says}
use Rattle.answers.specs.Asked.{token_of}
use Rattle.answers.specs.Refusals.{number_of}
use Rattle.packets.specs.Stores.{store_of}
use Rattle.packets.proofs.Steps.{length_refused, length_held}
use Rattle.packet_store.proofs.length_of.Goals as goal

pub returns-in_err-n : goal.returns-in_err-n
returns-in_err-n c =
    let k = store_of c.args.t c.args.bin_indices.now c.args.used_bins.now c.args.nodes.now c.args.free_nodes.now in
    let p = err_from_is_err_and c.from_residual.result c.from_residual.ensures.1 in
    λ bytes. rw (p.1, p.2) (length_refused edition32 (token_of c.args.span) (k bytes) (number_of c.in_err-n.field-0.0) c.in_err-n.ensures.exact)

pub returns : goal.returns
returns c =
    let k = store_of c.args.t c.args.bin_indices.now c.args.used_bins.now c.args.nodes.now c.args.free_nodes.now in
    λ bytes. length_held edition32 (token_of c.args.span) (k bytes) c.in_ok-n.n.0 _
    (subst (λ (a : Result Size Refusal). (size_says a, (k bytes).words) ≡ answer_words edition32 (Ask (SizeOf (token_of c.args.span))) (k bytes).words)
    c.in_ok-n.was c.allocation_size.ensures.exact)
    c.inside.ensures
