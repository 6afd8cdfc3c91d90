-- The pruning rule, and what a cover promises.
pub mod Rule
pub mod Promise
pub mod workings
