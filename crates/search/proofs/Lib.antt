-- The laws of the queue and of the search.
pub mod Stores
pub mod Heaps
pub mod States
pub mod Forbidden
