-- The graph as it is lent: n + 1 starts, m heads, m weights.
use Rattle.std.specs.Prelude.{◌≡◌, List, ℕ, ◌+◌, ◌-◌, ◌≤◌, ◌<◌, length, get_or}
use Rattle.paths.specs.Graphs.{Graph}

-- n, of n + 1 starts
abbrev pub nodes_of : List ℕ → ℕ
nodes_of starts = length starts - 1

-- the place is one of tail u's: from u's start up to, but not including, the next. Past the end of the starts `get_or` gives 0, so a
-- number that is no node has no place.
pub record Owns (starts : List ℕ) (u place : ℕ) : Type 0 where
  pub from : get_or starts u 0 ≤ place
  pub below : place < get_or starts (u + 1) 0

-- there is an arc from u to v of weight w
pub record Arc (starts heads weights : List ℕ) (u v w : ℕ) : Type 0 where
  pub place : ℕ
  pub listed : place < length heads
  pub owned : Owns starts u place
  pub head : get_or heads place 0 ≡ v
  pub weight : get_or weights place 0 ≡ w

-- what the three slices mean
abbrev pub road : List ℕ → List ℕ → List ℕ → Graph
road starts heads weights = record { nodes = nodes_of starts; Step = Arc starts heads weights }
