-- Classes: size classes, smallest stores and lengths of tables in plain numbers. OneResult: any two results coincide.
pub mod Classes
pub mod OneResult
