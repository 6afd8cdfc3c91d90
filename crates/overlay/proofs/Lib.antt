-- The laws of the overlay.
pub mod Numbers
pub mod Locals
pub mod Written
pub mod Parts
pub mod Stays
pub mod Rooms
pub mod Ends
pub mod Outcomes
pub mod Unique
pub mod Crossing
pub mod Demands
pub mod Forbidden
