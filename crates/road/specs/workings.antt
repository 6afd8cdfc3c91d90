-- What serves the proofs alone: no public contract cites it.
pub mod Sound
pub mod Verdicts
pub mod Scans
pub mod Sums
pub mod Left
