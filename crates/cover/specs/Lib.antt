-- The cover call.
pub mod Calls
pub mod workings
