-- The pieces' sizes, and what pruning is lent.
pub mod workings
