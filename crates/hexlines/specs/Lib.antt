-- Hexadecimal text, the writer, and the lines of the output.
pub mod Text
pub mod Writers
pub mod Outputs
