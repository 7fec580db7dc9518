-- Audited: the audit of scalars in an array. OneResult: any two results coincide.
pub mod Audited
pub mod OneResult
