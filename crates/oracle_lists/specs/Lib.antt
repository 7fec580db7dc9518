-- What the programs that compare with the oracle's lists rely on: how a row is read, how verdicts are counted, when a row of the list of classes
-- agrees, and what a whole list of classes gives; then what can be said of these.
pub mod Rows
pub mod Tally
pub mod Verdicts
pub mod Comparison
pub mod Facts
