-- The laws of turning a graph round.
pub mod Turns
pub mod Forbidden
