-- The commit of `split`: the region is granted, then the remainder put in. Assumes nothing.
use Prim.Native.Nat.{◌-◌}
use mathlib.Core.Path.{ap, ◌∙◌}
use mathlib.Core.List.{[]}
use Rattle.tables.specs.Words.{Words, with_total}
use Rattle.tables.specs.Steps.{unlink_at, pop_pile}
use Rattle.tables.specs.Take.{granting}
use Rattle.tables.specs.Calls.{edition32}
use Rattle.tables.proofs.Commits.{remainder_put}
use native.Mathlib.Omega.{arith}
use Rattle.take_commit.proofs.grant_part.Goals as goal

pub pop-v-requires : goal.pop-v-requires
unfolding granting unlink_at
pop-v-requires c =
    omega (arith, ap (λ (w : Words). w.free_offset) (c.make_live-u.ensures []), c.requires.grant_guards.spare)

pub insert_node_into_bin-w-requires : goal.insert_node_into_bin-w-requires
unfolding granting unlink_at pop_pile
insert_node_into_bin-w-requires c =
    record {
      in_table = omega (
        arith,
        ap (λ (w : Words). w.count) (c.pop-v.ensures [] [] [] []),
        ap (λ (w : Words). w.count) (c.make_live-u.ensures []),
        c.make_live-u.auto,
        c.requires.has_room,
        c.requires.split_guards.spare_low,
      );
      has_room = omega (
        arith,
        ap (λ (w : Words). w.count) (c.pop-v.ensures [] [] [] []),
        ap (λ (w : Words). w.count) (c.make_live-u.ensures []),
        c.make_live-u.auto,
        c.requires.has_room,
        c.requires.split_guards.spare_low,
      );
    }

pub returns : goal.returns
returns c ps =
    rw c.with_free_storage.ensures
    (ap (λ (v : Words). with_total v (c.args.t.free_storage - c.args.size.0))
    (c.insert_node_into_bin-w.ensures ps
    ∙ remainder_put edition32 _ _ _ _ _ _ _ _ _ _ (c.make_live-u.ensures ps) (c.pop-v.ensures _ _ _ ps) c.word.ensures))
