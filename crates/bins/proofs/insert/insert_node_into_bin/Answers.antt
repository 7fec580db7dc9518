-- The class is the size's, rounded down, and below 256. Assumes nothing.
use Rattle.tables.specs.Steps.{insert}
use native.Mathlib.Omega.{arith}
use Rattle.bins.proofs.insert.insert_node_into_bin.Goals as goal

pub insert_into_class-requires : goal.insert_into_class-requires
insert_into_class-requires c =
    record { c_bound = c.class_of-class.ensures.1; in_table = omega arith; has_room = omega arith }

pub returns : goal.returns
unfolding insert
returns c ps =
    rw (c.insert_into_class.ensures ps, c.class_of-class.ensures.0)
