-- What the steps on the bits leave, and what a search found.
pub mod InBits
