-- The faults that each call looks for before its lengths, in document 01's order.
use Rattle.std.specs.Prelude.{List, [], ◌∷◌, ◌++◌, ℕ, length}
use Rattle.road.specs.Drives.{drive_fault}
use Rattle.road.specs.Faults.{graph_faults, k_fault, order_fault, set_size, set_fault}
use Rattle.road.specs.Limits.{road_limits}
use Rattle.road.specs.Refusals.{Fault}
use Rattle.road.specs.Roads.{nodes_of}

-- 1 2 3 4 5
abbrev pub cover_faults : List ℕ → List ℕ → List ℕ → ℕ → List ℕ → List Fault
cover_faults starts heads weights k order =
    graph_faults road_limits starts heads weights ++ (k_fault k ∷ order_fault (nodes_of starts) order ∷ [])

-- 1 2 3 6
abbrev pub road_and_set_faults : List ℕ → List ℕ → List ℕ → List ℕ → List Fault
road_and_set_faults starts heads weights bytes = graph_faults road_limits starts heads weights ++ (set_fault (nodes_of starts) bytes ∷ [])

-- 1 6
abbrev pub lone_set_faults : List ℕ → List Fault
lone_set_faults bytes = set_size bytes ∷ set_fault (length bytes) bytes ∷ []

-- 1 2 3 6 10
abbrev pub drive_faults : List ℕ → List ℕ → List ℕ → List ℕ → List ℕ → List Fault
drive_faults starts heads weights bytes drive = road_and_set_faults starts heads weights bytes ++ (drive_fault starts heads drive ∷ [])
