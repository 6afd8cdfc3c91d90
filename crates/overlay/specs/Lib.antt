-- The overlay: what its arcs, rows and counts are, when one that is lent is refused, and what the call says.
pub mod Numbers
pub mod Overlays
pub mod Lent
pub mod Calls
pub mod workings
