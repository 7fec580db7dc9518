-- Told: answers in numbers. Made: what a call is answered and leaves.
pub mod Told
pub mod Made
