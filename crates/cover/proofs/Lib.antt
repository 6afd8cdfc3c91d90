-- The laws of the cover call.
pub mod Counted
pub mod Outcomes
pub mod Demands
pub mod Forbidden
