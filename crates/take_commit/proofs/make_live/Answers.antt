-- The code is `granting`: the record leaves its list, then its two words are written. Assumes nothing.
use Rattle.tables.proofs.Commits.{made_live}
use Rattle.take_commit.proofs.make_live.Goals as goal

pub returns : goal.returns
returns c ps =
    rw (c.put-2.ensures, c.put.ensures)
    (made_live _ _ _ _ _ _ _ c.word.ensures (c.remove_from_class-u.ensures ps))
