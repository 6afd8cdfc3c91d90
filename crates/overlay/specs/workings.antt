-- What serves the proofs alone: no public contract cites it.
pub mod Ends
pub mod Writing
pub mod Ready
pub mod Lending
