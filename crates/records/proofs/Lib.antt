-- GateWalk: what the gate's answer means for any call. Rooms: which words a table that has room holds. Outcome: an answer and
-- the scalars beside it make an outcome. Liveness: when a record counts as live. Arrays: an array and the scalars in it say the same. InPlace: words fix what they are made of.
pub mod GateWalk
pub mod Rooms
pub mod Outcome
pub mod Arrays
pub mod InPlace
pub mod Liveness
