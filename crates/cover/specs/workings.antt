-- What serves the proofs alone: no public contract cites it.
pub mod Ready
pub mod Few
