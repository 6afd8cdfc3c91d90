-- The structs say what the answers say.
pub mod Told
pub mod Demands
