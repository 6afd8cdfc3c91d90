-- The laws of the pieces' sizes.
pub mod Ready
pub mod Rows
pub mod Spreading
pub mod Bounding
