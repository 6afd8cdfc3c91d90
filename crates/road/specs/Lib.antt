-- The graph as lent, its limits, the refusals and the faults that they tell.
pub mod Limits
pub mod Refusals
pub mod Order
pub mod Roads
pub mod Lent
pub mod Faults
pub mod Drives
pub mod Chains
pub mod Counting
pub mod workings
