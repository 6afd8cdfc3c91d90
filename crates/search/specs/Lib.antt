-- The search: what it finds, and its queue.
pub mod Lent
pub mod workings
