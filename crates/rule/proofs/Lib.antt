-- The laws of the rule: it yields one cover, which meets every path that counts and has no point too many.
pub mod Rules
pub mod Few
