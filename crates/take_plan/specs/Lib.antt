-- A take's plan as the model's.
pub mod Plan
