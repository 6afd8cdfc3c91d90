-- What turning a graph round does.
pub mod workings
