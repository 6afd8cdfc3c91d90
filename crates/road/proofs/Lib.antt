-- The laws of the graph as lent and of its faults.
pub mod Refusals
pub mod Faults
pub mod Rows
pub mod Scans
pub mod Drives
pub mod Orders
pub mod Filled
pub mod Counting
pub mod Left
pub mod Verdicts
pub mod Forbidden
