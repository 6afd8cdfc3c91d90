-- The graphs of the examples, as they are lent.
use Rattle.std.specs.Prelude.{List, [], ◌∷◌, ℕ}
use Rattle.paths.specs.Graphs.{Graph}
use Rattle.road.specs.Roads.{road}

-- the three slices of a graph, or of an overlay
pub record Lent : Type 0 where
  pub starts : List ℕ
  pub heads : List ℕ
  pub weights : List ℕ

-- what they mean
abbrev pub road_of : Lent → Graph
road_of g = road g.starts g.heads g.weights

abbrev pub one_node : Lent
one_node = record { starts = 0 ∷ 0 ∷ []; heads = []; weights = [] }

-- 0 to 4, each joined to the next both ways, by weights 5, 7, 9 and 11
abbrev pub line : Lent
line =
    record {
      starts = 0 ∷ 1 ∷ 3 ∷ 5 ∷ 7 ∷ 8 ∷ [];
      heads = 1 ∷ 0 ∷ 2 ∷ 1 ∷ 3 ∷ 2 ∷ 4 ∷ 3 ∷ [];
      weights = 5 ∷ 5 ∷ 7 ∷ 7 ∷ 9 ∷ 9 ∷ 11 ∷ 11 ∷ [];
    }

-- 0 and 1 joined both ways
abbrev pub both_ways : Lent
both_ways = record { starts = 0 ∷ 1 ∷ 2 ∷ []; heads = 1 ∷ 0 ∷ []; weights = 1 ∷ 1 ∷ [] }

-- 0 to 1 of weight 1, 1 to 2 of weight 2, 2 to 0 of weight 4
abbrev pub ring : Lent
ring = record { starts = 0 ∷ 1 ∷ 2 ∷ 3 ∷ []; heads = 1 ∷ 2 ∷ 0 ∷ []; weights = 1 ∷ 2 ∷ 4 ∷ [] }

-- 0 to 1 of weight 10, 0 to 2 of weight 3, 2 to 1 of weight 4
abbrev pub wedge : Lent
wedge = record { starts = 0 ∷ 2 ∷ 2 ∷ 3 ∷ []; heads = 1 ∷ 2 ∷ 1 ∷ []; weights = 10 ∷ 3 ∷ 4 ∷ [] }

-- three nodes and no arc: what the overlay of a set of one node is
abbrev pub no_arc : Lent
no_arc = record { starts = 0 ∷ 0 ∷ 0 ∷ 0 ∷ []; heads = []; weights = [] }
