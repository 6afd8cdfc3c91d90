-- The laws of thinned drives, the call's promises, and what it rules out.
pub mod Picks
pub mod Outcomes
pub mod Unique
pub mod Rows
pub mod Demands
pub mod Forbidden
