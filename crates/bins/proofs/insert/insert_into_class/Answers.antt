-- The code is `insert_at`: the record, then the old top or the bits, then its neighbours, then the top. Assumes nothing.
use Rattle.tables.specs.Steps.{insert_at, insert_nodes}
use Rattle.bins.proofs.insert.insert_into_class.Goals as goal

pub returns : goal.returns
unfolding insert_at insert_nodes
returns c ps =
    rw (
      c.with_used_bins_top.ensures,
      c.join_neighbors.ensures,
      c.put_on_top-top.ensures.2,
      c.write_record.ensures,
      c.put_on_top-top.ensures.0,
      c.put_on_top-top.ensures.1,
    )
