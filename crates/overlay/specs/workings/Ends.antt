-- Check 7 on its way through the rows.
use Rattle.std.specs.Prelude.{◌≡◌, Ok, Err, List, ℕ, ◌<◌, get_or}
use Rattle.road.specs.declared.Refusal.{Refusal}
use Rattle.road.specs.workings.Verdicts.{Verdict}
use Rattle.road.specs.Faults.{InSet}
use Rattle.road.specs.Roads.{Owns}
use Rattle.overlay.specs.Lent.{overlay_fault}

-- the arcs of tail u end in the set, at both ends
pub record RowEnds (chosen starts heads : List ℕ) (u : ℕ) : Type 0 where
  pub tails : (p : ℕ) → Owns starts u p → InSet chosen u
  pub heads_in : (p : ℕ) → Owns starts u p → InSet chosen (get_or heads p 0)

-- the same of its arcs before place p
pub record RowEndsTo (chosen starts heads : List ℕ) (u p : ℕ) : Type 0 where
  pub tails : (q : ℕ) → q < p → Owns starts u q → InSet chosen u
  pub heads_in : (q : ℕ) → q < p → Owns starts u q → InSet chosen (get_or heads q 0)

-- the arcs of all tails below u end in the set
pub record EndsBelow (chosen starts heads : List ℕ) (u : ℕ) : Type 0 where
  pub rows : (v : ℕ) → v < u → RowEnds chosen starts heads v

-- a verdict on the row of tail u
pub record JudgesRow (chosen starts heads weights : List ℕ) (u : ℕ) (v : Verdict) : Type 0 where
  pub passed : v ≡ Ok tt → RowEnds chosen starts heads u
  pub refused : (r : Refusal) → v ≡ Err r → overlay_fault chosen starts heads weights r
