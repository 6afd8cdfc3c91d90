-- What a path is: lists of nodes, graphs and their paths, least weights.
pub mod Lists
pub mod Graphs
pub mod Least
