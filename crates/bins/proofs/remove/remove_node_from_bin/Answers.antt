-- The class is that of the record's size, and the links are the record's. Assumes nothing.
use Rattle.tables.specs.Steps.{unlink}
use native.Mathlib.Omega.{arith}
use Rattle.bins.proofs.remove.remove_node_from_bin.Goals as goal

pub remove_from_class-requires : goal.remove_from_class-requires
remove_from_class-requires c =
    record { c_bound = c.class_of-class.ensures.1; has_room = omega arith }

pub returns : goal.returns
unfolding unlink
returns c ps =
    rw (
      c.remove_from_class.ensures ps,
      c.word-3.ensures,
      c.word-2.ensures,
      c.class_of-class.ensures.0,
      c.word.ensures,
    )
