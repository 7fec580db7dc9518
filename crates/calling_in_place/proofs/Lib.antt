-- Changes: what a call that came as a value promised, told.
pub mod Changes
