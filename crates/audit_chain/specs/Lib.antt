-- For the code alone: no claim of the audit speaks of it.
-- Comes: what is known of a part of the walk along the neighbour chain.
pub mod Comes
