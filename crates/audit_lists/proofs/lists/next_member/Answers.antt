-- The next link, and one member more. Assumes nothing.
use Rattle.audit_words.specs.Lists.{next_member}
use Rattle.audit_lists.proofs.lists.next_member.Goals as goal

pub returns : goal.returns
unfolding next_member
returns c = rw c.word.ensures
