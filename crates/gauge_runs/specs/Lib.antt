-- Runs: runs of calls with readings among them, and the same from the other side. Claims: what document 02 says of the gauge, over them.
pub mod Runs
pub mod Claims
