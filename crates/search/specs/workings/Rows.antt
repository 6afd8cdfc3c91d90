-- What the search finds: for each node the least weight over paths from the source with no blocked node strictly inside.
use Rattle.std.specs.Prelude.{◌≡◌, List, ℕ, ◌≤◌, ◌<◌, length, get_or, replicate}
use Rattle.paths.specs.Graphs.{Graph, Reaches}
use Rattle.paths.specs.Least.{Told}
use Rattle.road.specs.Limits.{overlay_limits}
use Rattle.road.specs.Roads.{nodes_of}
use Rattle.road.specs.workings.Sound.{Sound}

-- v is not blocked
abbrev pub Free : List ℕ → ℕ → Type 0
Free blocked v = get_or blocked v 0 ≡ 0

-- the label of node v, and 0 where there is no such node
abbrev pub label_at : List ℕ → ℕ → ℕ
label_at labels v = get_or labels v 0

-- a label for each node: 0 where there is no such path, else one more than the least weight
pub record Row (G : Graph) (blocked : List ℕ) (source : ℕ) (labels : List ℕ) : Type 0 where
  pub long : length labels ≡ G.nodes
  pub told : (v : ℕ) → v < G.nodes → Told (Reaches G (Free blocked) source v) (label_at labels v)

-- what the search asks: a well-formed graph under the overlay's limits, a source that is a node, a byte and a label for each node, and a
-- queue that is empty, its slices being zeros
pub record Asks (starts heads weights blocked : List ℕ) (source : ℕ) (labels heap places : List ℕ) : Type 0 where
  pub sound : Sound overlay_limits starts heads weights
  pub node : source < nodes_of starts
  pub bytes : length blocked ≡ nodes_of starts
  pub room : length labels ≡ nodes_of starts
  pub queue : nodes_of starts ≤ length heap
  pub heap_zero : heap ≡ replicate (length heap) 0
  pub places_zero : places ≡ replicate (nodes_of starts) 0
