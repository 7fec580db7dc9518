-- Changed: what a call that changes something is answered and leaves.
pub mod Changed
