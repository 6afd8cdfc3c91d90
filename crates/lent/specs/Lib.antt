-- What a slice that is lent holds when a call begins, and when it ends.
pub mod Slices
