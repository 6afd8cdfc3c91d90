-- The twelve small graphs of document 01 as data, and what it says of each.
pub mod Graphs
pub mod Claims
pub mod Examples
