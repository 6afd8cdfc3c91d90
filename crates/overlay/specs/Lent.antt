-- Check 7: an overlay that is lent.
use Rattle.std.specs.Prelude.{◌≢◌, List, ℕ, ◌+◌, ◌<◌, length, get_or}
use Rattle.road.specs.declared.Refusal.{Refusal}
use Rattle.road.specs.declared.Refusal.TheVariants.{Overlay}
use Rattle.road.specs.Faults.{InSet, graph_faults}
use Rattle.road.specs.Limits.{overlay_limits}
use Rattle.road.specs.Refusals.{Fault, Of, First}
use Rattle.road.specs.Roads.{Owns}

-- 7: not n + 1 starts, n being the set's length; faulty as in 1 to 3 under the overlay's limits; or an arc's end outside the set
pub data BadOverlay (chosen starts heads weights : List ℕ) : Type 0 where
  unlike : length starts ≢ length chosen + 1 → BadOverlay chosen starts heads weights
  faulty : (r : Refusal) → First (graph_faults overlay_limits starts heads weights) r → BadOverlay chosen starts heads weights
  tail : (u p : ℕ) → p < length heads → Owns starts u p → (InSet chosen u → ⊥) → BadOverlay chosen starts heads weights
  head : (p : ℕ) → p < length heads → (InSet chosen (get_or heads p 0) → ⊥) → BadOverlay chosen starts heads weights

abbrev pub overlay_fault : List ℕ → List ℕ → List ℕ → List ℕ → Fault
overlay_fault chosen starts heads weights = Of Overlay (BadOverlay chosen starts heads weights)
