-- By the call that came. Assumes nothing.
use Rattle.telling.specs.Made.{in_place}
use Rattle.telling.proofs.Promised.{as_came}
use Rattle.calling_in_place.proofs.make_call.Goals as goal

pub returns-in-SetUp : goal.returns-in-SetUp
returns-in-SetUp c =
    as_came in_place _ c.in-SetUp.is c.change.ensures

pub returns-in-Reset : goal.returns-in-Reset
returns-in-Reset c =
    as_came in_place _ c.in-Reset.is c.change-in-Reset.ensures

pub returns-in-Take : goal.returns-in-Take
returns-in-Take c =
    as_came in_place _ c.in-Take.is c.change-in-Take.ensures

pub returns-in-HandBack : goal.returns-in-HandBack
returns-in-HandBack c =
    as_came in_place _ c.in-HandBack.is c.change-in-HandBack.ensures

pub returns-in-SizeOf : goal.returns-in-SizeOf
returns-in-SizeOf c = as_came in_place _ c.in-SizeOf.is c.size_of.ensures

pub returns-in-Report : goal.returns-in-Report
returns-in-Report c = as_came in_place _ c.in-Report.is c.report.ensures

pub returns-in-ClassOf : goal.returns-in-ClassOf
returns-in-ClassOf c = as_came in_place _ c.in-ClassOf.is c.class_of.ensures

pub returns-in-ClassesHeld : goal.returns-in-ClassesHeld
returns-in-ClassesHeld c = as_came in_place _ c.in-ClassesHeld.is c.classes_held.ensures
