-- What the van can never miss.
use Rattle.std.specs.Prelude.{List, ℕ, ◌+◌, ◌≤◌, ◌<◌, length, get_or, take, drop}
use Rattle.paths.specs.Lists.{Mem}
use Rattle.road.specs.Faults.{InSet}

-- the nodes at k positions in a row, from position i on
abbrev pub stretch : List ℕ → ℕ → ℕ → List ℕ
stretch drive i k = take k (drop i drive)

-- one of these k positions is kept
pub record Includes (kept : List ℕ) (i k : ℕ) : Type 0 where
  pub position : ℕ
  pub from : i ≤ position
  pub below : position < i + k
  pub is_kept : Mem position kept

-- each position whose node is in the set is kept, whatever else is
pub record KeepsSet (bytes drive kept : List ℕ) : Type 0 where
  pub keeps : (i : ℕ) → i < length drive → InSet bytes (get_or drive i 0) → Mem i kept
