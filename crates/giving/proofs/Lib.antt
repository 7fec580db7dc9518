-- Walk: a plan that goes on, and what its commit comes to.
pub mod Walk
