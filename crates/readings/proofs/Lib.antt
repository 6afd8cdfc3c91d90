pub mod Digits
pub mod Texts
pub mod Shapes
pub mod Cuts
pub mod Unique
