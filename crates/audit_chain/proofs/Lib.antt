-- Coming: how a walk comes further along the chain.
pub mod Coming
