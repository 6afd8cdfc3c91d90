-- The laws of paths that the other crates cite.
pub mod Lists
pub mod Ways
pub mod Turned
pub mod Least
pub mod Weights
