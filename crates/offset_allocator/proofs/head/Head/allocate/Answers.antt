-- What the call in place promises of the copy. Assumes nothing.
use Rattle.offset_allocator.proofs.Copied.{on_a_copy}
use Rattle.offset_allocator.proofs.head.Head.allocate.Goals as goal

pub returns : goal.returns
returns c =
    on_a_copy _ _ _ _ c.copied-t.ensures c.allocate-taken.ensures
