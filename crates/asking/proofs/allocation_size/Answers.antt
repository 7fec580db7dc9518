-- Shut out by the gate, or let in; a live record is below the count. Assumes nothing.
use mathlib.Core.Path.{refl, sym, ap, ◌∙◌}
use mathlib.Core.List.{[]}
use Rattle.std.proofs.lemmas.Result.{err_from_is_err_and}
use Rattle.ledger.specs.Ledger.{length_is}
use Rattle.ledger.specs.Calls.{SizeOf, Ask}
use Rattle.tables.specs.Questions.{told_by}
use Rattle.tables.specs.Calls.{edition32, behind}
use Rattle.tables.proofs.Gate.{let_in}
use Rattle.tables.proofs.Guards.{live_low}
use Rattle.tables.proofs.Commits.{outcome_is}
use Rattle.tables.proofs.Promise.{promise}
use Rattle.answers.specs.Asked.{token_of}
use Rattle.records.specs.InWords.{words_of}
use Rattle.records.proofs.GateWalk.{shut_out, opened, has_room}
use Rattle.asking.proofs.Lengths.{tells_5, tells_8, tells_length}
use native.Mathlib.Omega.{arith}
use Rattle.asking.proofs.allocation_size.Goals as goal

pub is_live-requires : goal.is_live-requires
is_live-requires c =
    (has_room edition32 (words_of c.args.t [] [] c.args.nodes.now c.args.free_nodes.now) c.test.ensures c.in_ok-test.was).nodes_room

pub word-requires : goal.word-requires
word-requires c =
    let room = has_room edition32 (words_of c.args.t [] [] c.args.nodes.now c.args.free_nodes.now) c.test.ensures c.in_ok-test.was in
    let low = live_low _ _ _ (sym c.is_live.ensures ∙ c.if-not-is_live.false) in
    omega (arith, room.nodes_room, low)

pub returns-then-word-span : goal.returns-then-word-span
unfolding behind told_by
returns-then-word-span c =
    let w = words_of c.args.t c.args.bin_indices.now c.args.used_bins.now c.args.nodes.now c.args.free_nodes.now in
    let span = token_of c.args.span in
    promise edition32 (Ask (SizeOf _)) _
    (let_in edition32 (Ask (SizeOf _)) _ (opened edition32 _ c.test.ensures c.in_ok-test.was)
    (outcome_is (tells_8 w span (sym c.is_live.ensures ∙ c.if-not-is_live.false) (λ e. c.if-word-span.true (c.word.ensures ∙ e))) refl))

pub word-requires-2 : goal.word-requires-2
word-requires-2 c =
    let room = has_room edition32 (words_of c.args.t [] [] c.args.nodes.now c.args.free_nodes.now) c.test.ensures c.in_ok-test.was in
    let low = live_low _ _ _ (sym c.is_live.ensures ∙ c.if-not-is_live.false) in
    omega (arith, room.nodes_room, low)

pub returns : goal.returns
unfolding behind told_by
returns c =
    let w = words_of c.args.t c.args.bin_indices.now c.args.used_bins.now c.args.nodes.now c.args.free_nodes.now in
    let span = token_of c.args.span in
    promise edition32 (Ask (SizeOf _)) _
    (let_in edition32 (Ask (SizeOf _)) _ (opened edition32 _ c.test.ensures c.in_ok-test.was)
    (outcome_is
    (ap length_is c.word-2.ensures
    ∙ tells_length w span (sym c.is_live.ensures ∙ c.if-not-is_live.false) (sym c.word.ensures ∙ c.if-word-span.false))
    refl))

pub returns-in_err-test : goal.returns-in_err-test
returns-in_err-test c =
    let left = err_from_is_err_and c.from_residual.result c.from_residual.ensures.1 in
    rw (left.1, left.2) (promise edition32 (Ask (SizeOf _)) _ (shut_out edition32 _ (Ask (SizeOf _)) c.test.ensures c.in_err-test.was))

pub returns-then-not-is_live : goal.returns-then-not-is_live
unfolding behind told_by
returns-then-not-is_live c =
    let w = words_of c.args.t c.args.bin_indices.now c.args.used_bins.now c.args.nodes.now c.args.free_nodes.now in
    let span = token_of c.args.span in
    promise edition32 (Ask (SizeOf _)) _
    (let_in edition32 (Ask (SizeOf _)) _ (opened edition32 _ c.test.ensures c.in_ok-test.was)
    (outcome_is (tells_5 w span (sym c.is_live.ensures ∙ c.if-not-is_live.true)) refl))
