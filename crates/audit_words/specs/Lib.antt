-- The audit on words, to be read in this order.
-- Scratch: the marks. Spares: the pile. Chain: the neighbour chain. Lists: the class lists. Bits: the two levels of bits.
-- Audit: all the tests together, and the call. Claims: all that is claimed of the audit.
-- Promise: what the audit in code promises. Bounded: what its walk along the chain keeps to.
pub mod Scratch
pub mod Spares
pub mod Chain
pub mod Lists
pub mod Bits
pub mod Audit
pub mod Claims
pub mod Promise
pub mod Bounded
