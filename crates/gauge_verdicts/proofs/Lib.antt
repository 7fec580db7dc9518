-- Signs: numbers of 32 bits as signed ones. OneAnswer: a row agrees with one answer and one gauge alone. Facts: that, made.
pub mod Signs
pub mod OneAnswer
pub mod Facts
