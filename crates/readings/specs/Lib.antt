-- The lines that the program reads, and what a line of bytes is read as.
pub mod Frames
pub mod workings
