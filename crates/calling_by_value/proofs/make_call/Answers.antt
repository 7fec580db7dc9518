-- By the call that came. Assumes nothing.
use Rattle.telling.specs.Made.{by_value}
use Rattle.telling.proofs.Promised.{as_came}
use Rattle.calling_by_value.proofs.make_call.Goals as goal

pub returns-in-SetUp : goal.returns-in-SetUp
returns-in-SetUp c =
    as_came by_value _ c.in-SetUp.is (c.set_up.ensures c.args.head)

pub returns-in-Reset : goal.returns-in-Reset
returns-in-Reset c =
    as_came by_value _ c.in-Reset.is c.reset.ensures

pub returns-in-Take : goal.returns-in-Take
returns-in-Take c = as_came by_value _ c.in-Take.is c.take.ensures

pub returns-in-HandBack : goal.returns-in-HandBack
returns-in-HandBack c =
    as_came by_value _ c.in-HandBack.is c.hand_back.ensures

pub returns-in-SizeOf : goal.returns-in-SizeOf
returns-in-SizeOf c = as_came by_value _ c.in-SizeOf.is c.size_of.ensures

pub returns-in-Report : goal.returns-in-Report
returns-in-Report c = as_came by_value _ c.in-Report.is c.report.ensures

pub returns-in-ClassOf : goal.returns-in-ClassOf
returns-in-ClassOf c = as_came by_value _ c.in-ClassOf.is c.class_of.ensures

pub returns-in-ClassesHeld : goal.returns-in-ClassesHeld
returns-in-ClassesHeld c = as_came by_value _ c.in-ClassesHeld.is c.classes_held.ensures
