-- What serves the proofs alone: no public contract cites it.
pub mod Held
pub mod Judging
