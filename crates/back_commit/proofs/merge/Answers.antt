-- Both neighbours are dropped, the merged region is put in, the total is set. Assumes nothing.
use Rattle.tables.specs.Calls.{edition32}
use Rattle.tables.proofs.Drops.{both_count, merged}
use Rattle.back_plan.specs.Plan.{merged_in}
use native.Mathlib.Omega.{arith}
use Rattle.back_commit.proofs.merge.Goals as goal

pub drop_both-u-requires : goal.drop_both-u-requires
drop_both-u-requires c =
    record { has_room = c.requires.has_room; max_allocs_in_bounds = c.requires.max_allocs_in_bounds; link_bound = c.requires.merge_guards.before_low; link_bound_2 = c.requires.merge_guards.after_low; free_bound = c.requires.merge_guards.pile_room }

pub insert_node_into_bin-v-requires : goal.insert_node_into_bin-v-requires
insert_node_into_bin-v-requires c =
    let same_count = both_count edition32 _ c.args.prev.link.0 c.args.next.link.0 c.args.prev.free c.args.next.free c.drop_both-u.ensures in
    record { in_table = omega (arith, same_count, c.drop_both-u.auto, c.requires.has_room, c.requires.merge_guards.record_low); has_room = omega (arith, same_count, c.drop_both-u.auto, c.requires.has_room, c.requires.merge_guards.record_low) }

pub returns : goal.returns
returns c =
    rw c.with_free_storage.ensures
    (merged edition32 _ c.args.prev.link.0 c.args.next.link.0 c.args.prev.free c.args.next.free c.drop_both-u.ensures
    c.args.m.record.0 (merged_in c.args.m) (c.insert_node_into_bin-v.ensures _))
