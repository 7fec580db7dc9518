-- Makes: what a call that comes as a value promises.
pub mod Makes
