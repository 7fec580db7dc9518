-- Values: what a call holds, and what an answer says.
pub mod Values
