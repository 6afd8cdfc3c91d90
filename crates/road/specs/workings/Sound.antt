-- What the checks leave of a graph.
use Rattle.std.specs.Prelude.{◌≡◌, ◌≢◌, List, ℕ, ◌+◌, ◌≤◌, ◌<◌, length, get_or}
use Rattle.road.specs.declared.Limits.{Limits}
use Rattle.road.specs.Limits.{most_nodes}
use Rattle.road.specs.Roads.{nodes_of, Owns, Arc}

-- the slices are of lengths that a graph can have
pub record Sized (L : Limits) (starts heads weights : List ℕ) : Type 0 where
  pub least : 2 ≤ length starts
  pub most : length starts ≤ most_nodes + 1
  pub alike : length heads ≡ length weights
  pub few : length heads ≤ L.arcs.0

-- the starts begin at 0, do not fall, and end at m
pub record Rising (starts heads : List ℕ) : Type 0 where
  pub begins : get_or starts 0 0 ≡ 0
  pub rises : (u : ℕ) → u + 1 < length starts → get_or starts u 0 ≤ get_or starts (u + 1) 0
  pub ends : get_or starts (nodes_of starts) 0 ≡ length heads

-- what checks 1 and 2 leave, whatever the limits: each place is in its row
pub record Listed (starts heads weights : List ℕ) : Type 0 where
  pub least : 2 ≤ length starts
  pub alike : length heads ≡ length weights
  pub rising : Rising starts heads

-- the rows are in order, and the heads of one tail ascend
pub record Sorted (starts heads : List ℕ) : Type 0 where
  pub least : 2 ≤ length starts
  pub rising : Rising starts heads
  pub ascends : (u p : ℕ) → Owns starts u p → Owns starts u (p + 1) → get_or heads p 0 < get_or heads (p + 1) 0

-- a well-formed graph under the limits L
pub record Sound (L : Limits) (starts heads weights : List ℕ) : Type 0 where
  pub sized : Sized L starts heads weights
  pub rising : Rising starts heads
  pub inside : (p : ℕ) → p < length heads → get_or heads p 0 < nodes_of starts
  pub unlooped : (u p : ℕ) → Owns starts u p → get_or heads p 0 ≢ u
  pub ascends : (u p : ℕ) → Owns starts u p → Owns starts u (p + 1) → get_or heads p 0 < get_or heads (p + 1) 0
  pub light : (p : ℕ) → p < length heads → get_or weights p 0 ≤ L.weight

-- the second graph has an arc from v to u exactly where the first has one from u to v of that weight
pub record TurnedRound (starts heads weights starts' heads' weights' : List ℕ) : Type 0 where
  pub turns : (u v w : ℕ) → Arc starts heads weights u v w → Arc starts' heads' weights' v u w
  pub comes : (u v w : ℕ) → Arc starts' heads' weights' v u w → Arc starts heads weights u v w
