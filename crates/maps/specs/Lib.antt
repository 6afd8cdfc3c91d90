-- A map: the graph that the arcs read make, its cover, its overlay, and its lines.
pub mod Lists
pub mod workings
