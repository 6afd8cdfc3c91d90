-- The laws of distances.
pub mod Telling
pub mod Searches
pub mod Nodes
pub mod Gates
pub mod Asked
pub mod Outcomes
pub mod Passing
pub mod Demands
pub mod Forbidden
