-- Asked: what stops a take before it looks at a region.
pub mod Asked
