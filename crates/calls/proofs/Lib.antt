-- OneValue: an answer is given by what it says.
pub mod OneValue
