-- Drives and thinned drives.
use Rattle.std.specs.Prelude.{List, [], ◌∷◌, ℕ, ◌+◌, ◌<◌, length, get_or}
use Rattle.paths.specs.Lists.{Mem, Each}
use Rattle.road.specs.Drives.{Joined}
use Rattle.road.specs.Faults.{InSet}
use Rattle.road.specs.Roads.{nodes_of}

-- a drive: a list of nodes, each joined to the next by an arc of the road. Nodes may repeat.
pub record IsDrive (starts heads drive : List ℕ) : Type 0 where
  pub nodes : (i : ℕ) → i < length drive → get_or drive i 0 < nodes_of starts
  pub joins : (i : ℕ) → i + 1 < length drive → Joined starts heads (get_or drive i 0) (get_or drive (i + 1) 0)

-- each number of the list is below those after it
abbrev pub Ascending : List ℕ → Type 0
Ascending [] = Unit {0}
Ascending (x ∷ l) = Each (λ (y : ℕ). x < y) l × Ascending l

-- the ascending list of the numbers of which P holds, and nothing else
pub record ListOf (P : ℕ → Type 0) (list : List ℕ) : Type 0 where
  pub ascends : Ascending list
  pub only : (i : ℕ) → Mem i list → P i
  pub all : (i : ℕ) → P i → Mem i list

-- position i is kept: it is one of the drive's, and its node is in the set
pub record Kept (bytes drive : List ℕ) (i : ℕ) : Type 0 where
  pub position : i < length drive
  pub in_set : InSet bytes (get_or drive i 0)

-- the thinned drive
abbrev pub ThinnedDrive : List ℕ → List ℕ → List ℕ → Type 0
ThinnedDrive bytes drive list = ListOf (Kept bytes drive) list
