-- The store that is meant is set up, if neither is too short. Assumes nothing.
use mathlib.Core.Path.{sym, ap, subst, ◌∙◌}
use native.Mathlib.Omega.{arith}
use mathlib.Core.List.{List}
use Prim.Native.Nat.{ℕ}
use Rattle.ledger.specs.Ledger.{done, refused}
use Rattle.tables.specs.Calls.{edition32}
use Rattle.records.specs.declared.totals.Totals.{Totals}
use Rattle.packets.specs.Stores.{Kept, placed, store_of}
use Rattle.packets.specs.Calls.{plain}
use Rattle.packets.specs.Promise.{PacketSetup}
use Rattle.packets.specs.Answers.{done_says}
use Rattle.packets.proofs.Named.{says_from_store}
use Rattle.packets.proofs.Setups.{setup_9, setup_below}
use Rattle.packet_starting.proofs.set_up.Goals as goal

pub returns-then-too_short : goal.returns-then-too_short
returns-then-too_short c =
    let k : Totals → Kept = λ t. store_of t c.args.bin_indices.now c.args.used_bins.now c.args.nodes.now c.args.free_nodes.now c.args.bytes.now in
    let m : (heads leaves others-nodes others-pile : List ℕ) → Kept = λ heads leaves others-nodes others-pile. store_of
    c.args.beside heads leaves others-nodes others-pile c.args.bytes_beside.now in
    λ s t heads leaves others-nodes others-pile. subst
    (λ (u : Totals). PacketSetup edition32 s c.args.size.0 c.args.max_allocs (placed s (k t) (m heads leaves others-nodes others-pile))
    (placed s (k u) (m heads leaves others-nodes others-pile)) (plain (refused 9)))
    (sym c.zeros.ensures)
    (setup_9 edition32 s c.args.size.0 c.args.max_allocs (k t) (m heads leaves others-nodes others-pile)
    (omega (arith, c.too_short.ensures.on_size_bound))
    (sym c.too_short.ensures.value ∙ c.if-too_short.true))

pub returns : goal.returns
returns c =
    let k : Totals → Kept = λ t. store_of t c.args.bin_indices.now c.args.used_bins.now c.args.nodes.now c.args.free_nodes.now c.args.bytes.now in
    let m : (heads leaves others-nodes others-pile : List ℕ) → Kept = λ heads leaves others-nodes others-pile. store_of
    c.args.beside heads leaves others-nodes others-pile c.args.bytes_beside.now in
    λ s t heads leaves others-nodes others-pile.
    setup_below edition32 s c.args.size.0 c.args.max_allocs (k t) (m heads leaves others-nodes others-pile) _ _ _
    (sym c.too_short.ensures.value ∙ c.if-too_short.false) c.with_max_allocs-started.ensures
    (ap done_says c.of_store.ensures ∙ says_from_store (λ _. done) _)
