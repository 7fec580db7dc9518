-- The blank words, and record 0 put in. Assumes nothing.
use mathlib.Core.Path.{ap}
use mathlib.Core.List.{[]}
use Rattle.tables.specs.Words.{Words}
use Rattle.tables.specs.Steps.{pop_pile}
use Rattle.tables.specs.Setup.{blank}
use Rattle.tables.specs.Calls.{edition32}
use Rattle.tables.proofs.Commits.{afresh}
use Rattle.records.specs.declared.totals.Totals.{Totals}
use native.Mathlib.Omega.{arith}
use Rattle.starting.proofs.start_afresh.Goals as goal

pub pop-t-requires : goal.pop-t-requires
pop-t-requires c =
    omega (arith, ap (λ (t : Totals). t.free_offset) c.blank-blank.ensures, c.requires)

pub one_region-requires : goal.one_region-requires
unfolding pop_pile
one_region-requires c =
    let t = ap (λ (w : Words). w.count) (c.pop-t.ensures [] [] [] []) in
    record { bound = omega (arith, t, ap (λ (t : Totals). t.max_allocs) c.blank-blank.ensures, c.mark_not_live.auto, c.requires); has_room = omega (arith, t, ap (λ (t : Totals). t.max_allocs) c.blank-blank.ensures, c.mark_not_live.auto, c.requires) }

pub returns : goal.returns
unfolding blank
returns c =
    afresh edition32 _ _ _ _
    (rw (c.blank-blank.ensures, c.pile_up.ensures, c.mark_not_live.ensures, c.clear_used_bins.ensures, c.clear_bin_indices.ensures))
    (c.pop-t.ensures _ _ _ _)
    (c.one_region.ensures _)
