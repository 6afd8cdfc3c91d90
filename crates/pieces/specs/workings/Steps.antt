-- Pruning on its way.
use Rattle.std.specs.Prelude.{◌≡◌, List, ℕ, length}
use Rattle.paths.specs.Graphs.{Graph}
use Rattle.road.specs.Limits.{overlay_limits}
use Rattle.road.specs.Lent as Lent
use Rattle.road.specs.Roads.{nodes_of}
use Rattle.road.specs.workings.Sound.{Sound}
use Rattle.turning.specs.workings.Turning.{Turned}
use Rattle.pieces.specs.declared.Roads.{Roads}

-- a well-formed graph, the same turned round, and a byte for each node
pub record Prunable (starts heads weights starts' heads' weights' cover : List ℕ) : Type 0 where
  pub sound : Sound overlay_limits starts heads weights
  pub turned : Turned starts heads weights starts' heads' weights'
  pub as_long : length starts' ≡ length starts
  pub bytes : length cover ≡ nodes_of starts

-- the same of the roads as they are lent
abbrev pub PrunableOver : Roads → List ℕ → Type 0
PrunableOver r cover = Prunable r.ahead.starts.now r.ahead.heads.now r.ahead.weights.now r.back.starts.now r.back.heads.now r.back.weights.now cover

-- and what they mean
abbrev pub road_of : Roads → Graph
road_of r = Lent.road_of r.ahead
