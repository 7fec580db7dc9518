-- By the call that came. Assumes nothing.
use Rattle.calling.proofs.Promised.{as_came}
use Rattle.calling.proofs.make.Goals as goal

pub returns-in-Take : goal.returns-in-Take
returns-in-Take c =
    as_came c.in-Take.is c.take.ensures

pub returns-in-HandBack : goal.returns-in-HandBack
returns-in-HandBack c =
    as_came c.in-HandBack.is c.hand_back.ensures

pub returns-in-SetUp : goal.returns-in-SetUp
returns-in-SetUp c =
    as_came c.in-SetUp.is (c.set_up.ensures c.args.t)

pub returns-in-Reset : goal.returns-in-Reset
returns-in-Reset c =
    as_came c.in-Reset.is c.reset.ensures
