-- The neighbour before, then the one after. Assumes nothing.
use Rattle.tables.specs.Calls.{edition32}
use Rattle.tables.proofs.Drops.{dropped_count, dropped_off, both_dropped}
use native.Mathlib.Omega.{arith}
use borrow.Author.Rules.{rules}
use Rattle.back_commit.proofs.drop_both.Goals as goal

pub drop_if-u-requires : goal.drop_if-u-requires
drop_if-u-requires c =
    record { has_room = c.requires.has_room; max_allocs_in_bounds = c.requires.max_allocs_in_bounds; link_bound = search rules; free_bound = omega arith }

pub drop_if-requires : goal.drop_if-requires
drop_if-requires c =
    let same_count = dropped_count edition32 _ c.args.prev.link.0 c.args.prev.free c.drop_if-u.ensures in
    let spares = dropped_off edition32 _ c.args.prev.link.0 c.args.prev.free c.drop_if-u.ensures in record { has_room = omega (arith, same_count, c.drop_if-u.auto, c.requires); max_allocs_in_bounds = omega (arith, same_count, c.drop_if-u.auto, c.requires); link_bound = λ free. omega (arith, same_count, c.requires.link_bound_2 free); free_bound = omega (arith, same_count, spares, c.requires.free_bound) }

pub returns : goal.returns
returns c =
    both_dropped edition32 _ c.args.prev.link.0 c.args.prev.free c.drop_if-u.ensures
    c.args.next.link.0 c.args.next.free c.drop_if.ensures
