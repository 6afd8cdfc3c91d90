-- What the checks of a call leave, by name.
use Rattle.std.specs.Prelude.{◌≡◌, List, ℕ, ◌≤◌, length, get_or}
use Rattle.road.specs.Drives.{BadDrive}
use Rattle.road.specs.Faults.{Permutation}
use Rattle.road.specs.Limits.{most_k, most_nodes, road_limits}
use Rattle.road.specs.Roads.{nodes_of}
use Rattle.road.specs.workings.Sound.{Sound}

-- 4
pub record OfK (k : ℕ) : Type 0 where
  pub some : 1 ≤ k
  pub most : k ≤ most_k

-- 6: a byte of 0 or 1 for each of the n nodes
pub record SetOf (n : ℕ) (set : List ℕ) : Type 0 where
  pub bytes : length set ≡ n
  pub bits : (v : ℕ) → get_or set v 0 ≤ 1

-- 1 2 3 4 5
pub record CoverLeft (starts heads weights : List ℕ) (k : ℕ) (order : List ℕ) : Type 0 where
  pub sound : Sound road_limits starts heads weights
  pub k_right : OfK k
  pub order_right : Permutation (nodes_of starts) order

-- 1 2 3 6
pub record RoadAndSetLeft (starts heads weights set : List ℕ) : Type 0 where
  pub sound : Sound road_limits starts heads weights
  pub set_right : SetOf (nodes_of starts) set

-- 1 6
pub record LoneSetLeft (set : List ℕ) : Type 0 where
  pub few : length set ≤ most_nodes
  pub set_right : SetOf (length set) set

-- 1 2 3 6 10
pub record DriveLeft (starts heads weights set drive : List ℕ) : Type 0 where
  pub road_and_set : RoadAndSetLeft starts heads weights set
  pub drive_right : BadDrive starts heads drive → ⊥
