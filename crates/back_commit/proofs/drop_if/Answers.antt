-- The record leaves its class, then goes onto the pile. Assumes nothing.
use Prim.Native.Nat.{◌≤◌}
use mathlib.Core.Path.{sym, ap, subst, ◌∙◌}
use mathlib.Core.Bool.{Bool}
use mathlib.Core.List.{[]}
use Rattle.basics.specs.Sum.{one}
use Rattle.tables.specs.Words.{Words}
use Rattle.tables.specs.Steps.{push_pile}
use Rattle.tables.proofs.Drops.{unlink_count, unlink_off}
use native.Mathlib.Omega.{arith}
use Rattle.back_commit.proofs.drop_if.Goals as goal

pub remove_node_from_bin-u-requires : goal.remove_node_from_bin-u-requires
remove_node_from_bin-u-requires c =
    let low = c.requires.link_bound (subst (λ (b : Bool). 1 ≤ one b) (sym c.if-beside.true) (omega arith)) in
    record { in_table = omega (arith, low, c.requires.has_room); has_room = omega (arith, low, c.requires.has_room) }

pub push-requires : goal.push-requires
push-requires c =
    let same = c.remove_node_from_bin-u.ensures [] in
    record {
      free_offset_in_bounds = omega (
        arith,
        ap (λ (w : Words). w.free_offset) same ∙ unlink_off _ _ _,
        ap (λ (w : Words). w.count) same ∙ unlink_count _ _ _,
        c.remove_node_from_bin-u.type_inv,
        ap one c.if-beside.true,
        c.requires,
      );
      free_offset_bound = omega (
        arith,
        ap (λ (w : Words). w.free_offset) same ∙ unlink_off _ _ _,
        ap (λ (w : Words). w.count) same ∙ unlink_count _ _ _,
        c.remove_node_from_bin-u.type_inv,
        ap one c.if-beside.true,
        c.requires,
      );
    }

pub returns-then-beside : goal.returns-then-beside
returns-then-beside c =
    rw c.if-beside.true
    (c.push.ensures _ _ _ ∙ ap (λ (w : Words). push_pile w c.args.beside.link.0) (c.remove_node_from_bin-u.ensures _))

pub returns : goal.returns
returns c = rw c.if-beside.false
