-- Asked: no answer but the model's is promised.
pub mod Asked
pub mod Lengths
