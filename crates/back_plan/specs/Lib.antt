-- A hand-back's plan as the model's.
pub mod Plan
