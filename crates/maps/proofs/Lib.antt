pub mod Fills
pub mod Printed
pub mod Founds
