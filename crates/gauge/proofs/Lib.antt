-- Nets, Together: what the walks of the code go by. Promised: a reading of a store keeps its promise; OneReading: which allows one result.
-- Anything: of any gauge. Rows: readings computed. Still, Equal: a fill equal to the level leaves it. AtMost, Within: the level stays within 0 and 256.
-- Peak; Kept: what holds in every gauge begun at 0. Claims: all of it.
pub mod Nets
pub mod Together
pub mod Promised
pub mod OneReading
pub mod Anything
pub mod Rows
pub mod Still
pub mod Equal
pub mod AtMost
pub mod Within
pub mod Peak
pub mod Kept
pub mod Claims
