-- Distances: what the two questions ask, and what the calls say.
pub mod Questions
pub mod Calls
pub mod workings
pub mod Lent
