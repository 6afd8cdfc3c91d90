-- What serves the proofs alone: no public contract cites it.
pub mod Labels
pub mod Ready
pub mod Through
