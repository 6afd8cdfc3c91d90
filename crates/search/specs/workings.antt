-- What serves the proofs alone: no public contract cites it.
pub mod Queue
pub mod Rows
pub mod States
pub mod Lent
