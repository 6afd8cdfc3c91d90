-- Two verdicts that a chain's contract allows are equal.
use mathlib.Core.Path.{◌≡◌}
use mathlib.Core.List.{List, [], ◌∷◌, ◌++◌}
use Prim.Native.Nat.{ℕ}
use Rattle.road.specs.declared.Limits.{Limits}
use Rattle.road.specs.Chains.{cover_faults, road_and_set_faults, lone_set_faults, drive_faults}
use Rattle.road.specs.Faults.{graph_faults, k_fault, order_fault, set_fault}
use Rattle.road.specs.Drives.{drive_fault}
use Rattle.road.specs.Limits.{road_limits}
use Rattle.road.specs.Refusals.{Fault}
use Rattle.road.specs.workings.Verdicts.{Verdict, Singles, Judges}
use Rattle.road.specs.Roads.{nodes_of}
use Rattle.road.proofs.Faults.{graph_singles}
use Rattle.road.proofs.Refusals.{of_single, judges_one}

pub singles_both : (Fs Gs : List Fault) → Singles Fs → Singles Gs → Singles (Fs ++ Gs)
singles_both [] Gs s t = t
singles_both (F ∷ Fs) Gs s t = (s.0, singles_both Fs Gs s.1 t)

module _ (starts heads weights : List ℕ) where
  pub graph_one : (L : Limits) (v w : Verdict) → Judges (graph_faults L starts heads weights) v → Judges (graph_faults L starts heads weights) w → v ≡ w
  graph_one L v w = judges_one (graph_singles L starts heads weights) v w

  pub cover_singles : (k : ℕ) (order : List ℕ) → Singles (cover_faults starts heads weights k order)
  cover_singles k order = singles_both (graph_faults road_limits starts heads weights) (k_fault k ∷ order_fault (nodes_of starts) order ∷ []) (graph_singles road_limits starts heads weights) (of_single, (of_single, tt))

  pub cover_input_one :
      (k : ℕ) (order : List ℕ) (v w : Verdict) → Judges (cover_faults starts heads weights k order) v → Judges (cover_faults starts heads weights k order) w → v ≡ w
  cover_input_one k order v w = judges_one (cover_singles k order) v w

  pub road_and_set_singles : (bytes : List ℕ) → Singles (road_and_set_faults starts heads weights bytes)
  road_and_set_singles bytes = singles_both (graph_faults road_limits starts heads weights) (set_fault (nodes_of starts) bytes ∷ []) (graph_singles road_limits starts heads weights) (of_single, tt)

  pub road_and_set_one :
      (bytes : List ℕ) (v w : Verdict) → Judges (road_and_set_faults starts heads weights bytes) v → Judges (road_and_set_faults starts heads weights bytes) w → v ≡ w
  road_and_set_one bytes v w = judges_one (road_and_set_singles bytes) v w

  pub drive_singles : (bytes drive : List ℕ) → Singles (drive_faults starts heads weights bytes drive)
  drive_singles bytes drive = singles_both (road_and_set_faults starts heads weights bytes) (drive_fault starts heads drive ∷ []) (road_and_set_singles bytes) (of_single, tt)

  pub drive_input_one :
      (bytes drive : List ℕ) (v w : Verdict) → Judges (drive_faults starts heads weights bytes drive) v → Judges (drive_faults starts heads weights bytes drive) w → v ≡ w
  drive_input_one bytes drive v w = judges_one (drive_singles bytes drive) v w

pub lone_set_singles : (bytes : List ℕ) → Singles (lone_set_faults bytes)
lone_set_singles bytes = (of_single, (of_single, tt))

pub lone_set_one : (bytes : List ℕ) (v w : Verdict) → Judges (lone_set_faults bytes) v → Judges (lone_set_faults bytes) w → v ≡ w
lone_set_one bytes v w = judges_one (lone_set_singles bytes) v w
