-- The path under trial, and when it can be completed.
pub mod Trails
pub mod workings
