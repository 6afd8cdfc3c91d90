-- The laws of the path under trial and of the search.
pub mod Trails
pub mod Searching
pub mod Halves
pub mod Completing
pub mod Forbidden
