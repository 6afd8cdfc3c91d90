-- The twelve examples hold: tests that compute, and the laws that show the tests right.
pub mod Deciding
pub mod Listing
pub mod Trips
pub mod Covering
pub mod Overlaying
pub mod Asking
pub mod Refusing
pub mod Faulting
pub mod AllRight
pub mod Outcomes
