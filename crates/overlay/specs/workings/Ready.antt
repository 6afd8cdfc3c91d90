-- What the checks leave.
use Rattle.std.specs.Prelude.{◌≡◌, List, ℕ, ◌+◌, ◌*◌, ◌≤◌, length, get_or}
use Rattle.road.specs.Limits.{road_limits}
use Rattle.road.specs.Refusals.{None}
use Rattle.road.specs.Roads.{nodes_of}
use Rattle.road.specs.workings.Sound.{Sound}
use Rattle.overlay.specs.Calls.{Areas, faults_of}

-- what the checks leave: the graph is well formed, the set is one of its nodes, and the lengths are right
pub record Ready (starts heads weights chosen : List ℕ) (a : Areas) : Type 0 where
  pub sound : Sound road_limits starts heads weights
  pub none : None (faults_of starts heads weights chosen a)
  pub bytes : length chosen ≡ nodes_of starts
  pub bits : (v : ℕ) → get_or chosen v 0 ≤ 1
  pub starts_long : length a.starts ≡ nodes_of starts + 1
  pub rooms_alike : length a.heads ≡ length a.weights
  pub labels_long : length a.labels ≡ nodes_of starts
  pub heap_long : length a.heap ≡ 2 * nodes_of starts
  pub places_long : length a.places ≡ nodes_of starts
  pub touched_long : length a.touched ≡ nodes_of starts
