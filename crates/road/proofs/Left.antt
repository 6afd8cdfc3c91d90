-- From no fault of a list to what that leaves.
use mathlib.Core.Path.{◌≡◌}
use mathlib.Core.List.{List, [], ◌∷◌}
use Prim.Native.Nat.{ℕ, ◌≤◌, ◌<◌}
use native.Mathlib.Decide.{dec_lt, ℕ_discrete}
use native.Mathlib.Omega.{arith}
use lib.ListN.{length, get_or, get_or-eq_default}
use Rattle.road.specs.Chains.{cover_faults, road_and_set_faults, lone_set_faults, drive_faults}
use Rattle.road.specs.Drives.{drive_fault}
use Rattle.road.specs.Faults.{BadK, BadSet, BadSetSize, graph_faults, k_fault, order_fault, set_fault}
use Rattle.road.specs.Limits.{most_k, most_nodes, road_limits}
use Rattle.road.specs.Refusals.{None}
use Rattle.road.specs.Roads.{nodes_of}
use Rattle.road.specs.workings.Left.{OfK, SetOf, CoverLeft, RoadAndSetLeft, LoneSetLeft, DriveLeft}
use Rattle.road.proofs.Faults.{sound_of, not_over, not_unlike}
use Rattle.road.proofs.Orders.{permuted}
use Rattle.road.proofs.Refusals.{none_front, none_back, unheld}

k_left : (k : ℕ) → (BadK k → ⊥) → OfK k
k_left k n = record { some = not_over 1 k (λ h. n (BadK.none (omega arith))); most = not_over k most_k (λ h. n (BadK.many h)) }

set_left : (n : ℕ) (set : List ℕ) → (BadSet n set → ⊥) → SetOf n set
set_left n set f = record { bytes = not_unlike (length set) n (λ u. f (BadSet.unlike u)); bits = λ v. by v (dec_lt v (length set)) (ℕ_discrete (get_or set v 0) 0) (ℕ_discrete (get_or set v 0) 1) }
  where
    by : (v : ℕ) → Dec (v < length set) → Dec (get_or set v 0 ≡ 0) → Dec (get_or set v 0 ≡ 1) → get_or set v 0 ≤ 1
    by v (no n) d e = omega (arith, get_or-eq_default set 0 {n = v} (omega arith))
    by v (yes h) (yes z) e = omega arith
    by v (yes h) (no z) (yes o) = omega arith
    by v (yes h) (no z) (no o) = absurd (f (BadSet.other v h z o))

module _ (starts heads weights : List ℕ) where
  pub cover_left : (k : ℕ) (order : List ℕ) → None (cover_faults starts heads weights k order) → CoverLeft starts heads weights k order
  cover_left k order n =
      let own = none_back (graph_faults road_limits starts heads weights) (k_fault k ∷ order_fault (nodes_of starts) order ∷ []) n in
      record {
        sound = sound_of road_limits starts heads weights (none_front (graph_faults road_limits starts heads weights) (k_fault k ∷ order_fault (nodes_of starts) order ∷ []) n);
        k_right = k_left k (unheld own.0);
        order_right = permuted (nodes_of starts) order (unheld own.1.0);
      }

  pub road_and_set_left : (set : List ℕ) → None (road_and_set_faults starts heads weights set) → RoadAndSetLeft starts heads weights set
  road_and_set_left set n =
      record {
        sound = sound_of road_limits starts heads weights (none_front (graph_faults road_limits starts heads weights) (set_fault (nodes_of starts) set ∷ []) n);
        set_right = set_left (nodes_of starts) set (unheld (none_back (graph_faults road_limits starts heads weights) (set_fault (nodes_of starts) set ∷ []) n).0);
      }

  pub drive_left : (set drive : List ℕ) → None (drive_faults starts heads weights set drive) → DriveLeft starts heads weights set drive
  drive_left set drive n =
      record {
        road_and_set = road_and_set_left set (none_front (road_and_set_faults starts heads weights set) (drive_fault starts heads drive ∷ []) n);
        drive_right = unheld (none_back (road_and_set_faults starts heads weights set) (drive_fault starts heads drive ∷ []) n).0;
      }

pub lone_set_left : (set : List ℕ) → None (lone_set_faults set) → LoneSetLeft set
lone_set_left set n =
    record { few = not_over (length set) most_nodes (λ h. unheld n.0 (BadSetSize.many h)); set_right = set_left (length set) set (unheld n.1.0) }
