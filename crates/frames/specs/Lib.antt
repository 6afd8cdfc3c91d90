-- The program's state, what each line does to it, and what the code leaves.
pub mod Steps
pub mod Held
pub mod Stages
pub mod workings
