-- A graph as it is lent: what it means, and that its slices stay the same slices where it is written.
use Rattle.std.specs.Prelude.{◌≡◌}
use Rattle.paths.specs.Graphs as Paths
use Rattle.road.specs.declared.Graph.{Graph}
use Rattle.road.specs.declared.GraphMut.{GraphMut}
use Rattle.road.specs.Roads.{road}

-- the graph that its three slices mean
abbrev pub road_of : Graph → Paths.Graph
road_of graph = road graph.starts.now graph.heads.now graph.weights.now

-- the three slices of a graph that is written are the same slices, whatever they hold
pub record SameSlices (old new : GraphMut) : Type 0 where
  pub starts : new.starts.ghost_name ≡ old.starts.ghost_name
  pub heads : new.heads.ghost_name ≡ old.heads.ghost_name
  pub weights : new.weights.ghost_name ≡ old.weights.ghost_name
