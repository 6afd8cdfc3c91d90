-- Drives, thinned drives, the call, and what the van can never miss.
pub mod Thinning
pub mod Calls
pub mod Promise
pub mod workings
