pub mod Values
pub mod Growing
