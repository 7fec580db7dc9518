-- Both are set up, or neither. Assumes nothing.
use mathlib.Core.Path.{sym, ◌∙◌}
use Rattle.tables.specs.Calls.{edition32}
use Rattle.tables.proofs.Gate.{sizes_pass}
use Rattle.answers.specs.Refusals.{number_of}
use Rattle.records.specs.declared.totals.Totals.{Totals}
use Rattle.records.proofs.GateWalk.{shut_is, open_is_0, not_0}
use Rattle.packets.specs.Stores.{Kept, two, store_of}
use Rattle.packets.proofs.Setups.{both_9, shut_here, shut_there, both_open}
use Rattle.packet_starting.proofs.NoneLeft.{none_left}
use native.Mathlib.Omega.{arith}
use Rattle.packet_starting.proofs.set_up_both.Goals as goal

pub returns-then-too_short : goal.returns-then-too_short
returns-then-too_short c =
    let on_store : Totals → Kept = λ t.
    store_of t c.args.on_bin_indices.now c.args.on_used_bins.now c.args.on_nodes.now c.args.on_free_nodes.now c.args.on_bytes.now in
    let ex-store : Totals → Kept = λ t.
    store_of t c.args.ex_bin_indices.now c.args.ex_used_bins.now c.args.ex_nodes.now c.args.ex_free_nodes.now c.args.ex_bytes.now in
    λ on ex. none_left on_store ex-store c.neither.ensures.0 c.neither.ensures.1 c.neither.ensures.2
    (both_9 edition32 c.args.on_size.0 c.args.on_max_allocs c.args.ex_size.0 c.args.ex_max_allocs (two (on_store on) (ex-store ex))
    c.too_short.ensures.on_size_bound.0 c.too_short.ensures.on_size_bound.1 (sym c.too_short.ensures.value ∙ c.if-too_short.true))

pub returns-in-Err : goal.returns-in-Err
returns-in-Err c =
    let on_store : Totals → Kept = λ t.
    store_of t c.args.on_bin_indices.now c.args.on_used_bins.now c.args.on_nodes.now c.args.on_free_nodes.now c.args.on_bytes.now in
    let ex-store : Totals → Kept = λ t.
    store_of t c.args.ex_bin_indices.now c.args.ex_used_bins.now c.args.ex_nodes.now c.args.ex_free_nodes.now c.args.ex_bytes.now in
    λ on ex. none_left on_store ex-store c.neither-in-Err.ensures.0 c.neither-in-Err.ensures.1 c.neither-in-Err.ensures.2
    (shut_here edition32 c.args.on_size.0 c.args.on_max_allocs c.args.ex_size.0 c.args.ex_max_allocs (two (on_store on) (ex-store ex))
    c.too_short.ensures.on_size_bound.0 c.too_short.ensures.on_size_bound.1 (number_of c.in-Err.why)
    (sym c.too_short.ensures.value ∙ c.if-too_short.false)
    (sizes_pass edition32 _ _ _ _ (omega (arith, c.too_short.ensures.on_size_bound.0)) ∙ shut_is c.test.ensures c.in-Err.is)
    (not_0 c.in-Err.why))

pub returns-in-Err-test : goal.returns-in-Err-test
returns-in-Err-test c =
    let on_store : Totals → Kept = λ t.
    store_of t c.args.on_bin_indices.now c.args.on_used_bins.now c.args.on_nodes.now c.args.on_free_nodes.now c.args.on_bytes.now in
    let ex-store : Totals → Kept = λ t.
    store_of t c.args.ex_bin_indices.now c.args.ex_used_bins.now c.args.ex_nodes.now c.args.ex_free_nodes.now c.args.ex_bytes.now in
    λ on ex. none_left on_store ex-store c.neither-in-Err-test.ensures.0 c.neither-in-Err-test.ensures.1 c.neither-in-Err-test.ensures.2
    (shut_there edition32 c.args.on_size.0 c.args.on_max_allocs c.args.ex_size.0 c.args.ex_max_allocs (two (on_store on) (ex-store ex))
    c.too_short.ensures.on_size_bound.0 c.too_short.ensures.on_size_bound.1 (number_of c.in-Err-test.why)
    (sym c.too_short.ensures.value ∙ c.if-too_short.false)
    (sizes_pass edition32 _ _ _ _ (omega (arith, c.too_short.ensures.on_size_bound.0)) ∙ open_is_0 c.test.ensures c.in-Ok.is)
    (sizes_pass edition32 _ _ _ _ (omega (arith, c.too_short.ensures.on_size_bound.1)) ∙ shut_is c.test-in-Ok.ensures c.in-Err-test.is)
    (not_0 c.in-Err-test.why))

pub returns-in-Ok-test : goal.returns-in-Ok-test
returns-in-Ok-test c =
    let on_store : Totals → Kept = λ t.
    store_of t c.args.on_bin_indices.now c.args.on_used_bins.now c.args.on_nodes.now c.args.on_free_nodes.now c.args.on_bytes.now in
    let ex-store : Totals → Kept = λ t.
    store_of t c.args.ex_bin_indices.now c.args.ex_used_bins.now c.args.ex_nodes.now c.args.ex_free_nodes.now c.args.ex_bytes.now in
    λ on ex. both_open edition32 c.args.on_size.0 c.args.on_max_allocs c.args.ex_size.0 c.args.ex_max_allocs (two (on_store on) (ex-store ex))
    c.too_short.ensures.on_size_bound.0 c.too_short.ensures.on_size_bound.1 _ _ _ _
    (sym c.too_short.ensures.value ∙ c.if-too_short.false)
    (sizes_pass edition32 _ _ _ _ (omega (arith, c.too_short.ensures.on_size_bound.0)) ∙ open_is_0 c.test.ensures c.in-Ok.is)
    (sizes_pass edition32 _ _ _ _ (omega (arith, c.too_short.ensures.on_size_bound.1))
    ∙ open_is_0 c.test-in-Ok.ensures c.in-Ok-test.is)
    c.with_max_allocs-on_started.ensures c.with_max_allocs-ex_started.ensures
