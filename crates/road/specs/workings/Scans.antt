-- Check 3 on its way through the rows, and check 10 along a drive.
use Rattle.std.specs.Prelude.{◌≡◌, List, ℕ, ◌+◌, ◌<◌, length, get_or, Ok, Err}
use Rattle.road.specs.declared.Limits.{Limits}
use Rattle.road.specs.declared.Span.{Span}
use Rattle.road.specs.workings.Verdicts.{Verdict}
use Rattle.road.specs.Faults.{ArcFault, arc_faults}
use Rattle.road.specs.Refusals.{None}
use Rattle.road.specs.Roads.{nodes_of, Owns}
use Rattle.road.specs.workings.Sound.{Rising}
use Rattle.road.specs.Drives.{Joined, drive_fault}

-- the places of tail u's arcs
pub record RowOf (starts : List ℕ) (u : ℕ) (r : Span) : Type 0 where
  pub first : r.first ≡ get_or starts u 0
  pub end : r.end ≡ get_or starts (u + 1) 0

-- a place and its tail, where checks 1 and 2 passed
pub record Placed (starts heads weights : List ℕ) (tail p : ℕ) : Type 0 where
  pub rising : Rising starts heads
  pub owned : Owns starts tail p
  pub node : tail < nodes_of starts
  pub next : tail + 1 < length starts
  pub head : p < length heads
  pub weight : p < length weights

-- the arcs at places below p are without fault
pub record ClearTo (L : Limits) (starts heads weights : List ℕ) (p : ℕ) : Type 0 where
  pub clear : (q : ℕ) → q < p → None (arc_faults L starts heads weights q)

-- the arcs of the tails before u are without fault
abbrev pub Clear : Limits → List ℕ → List ℕ → List ℕ → ℕ → Type 0
Clear L starts heads weights u = ClearTo L starts heads weights (get_or starts u 0)

-- a verdict on tail u's arcs, after those before them
abbrev pub Scanned : Limits → List ℕ → List ℕ → List ℕ → ℕ → Verdict → Type 0
Scanned L starts heads weights u (Ok _) = Clear L starts heads weights (u + 1)
Scanned L starts heads weights u (Err r) = ArcFault L starts heads weights r

-- the first i positions are without fault
pub record Entered (starts heads drive : List ℕ) (i : ℕ) : Type 0 where
  pub inside : (j : ℕ) → j < i → get_or drive j 0 < nodes_of starts
  pub joins : (j : ℕ) → j + 1 < i → Joined starts heads (get_or drive j 0) (get_or drive (j + 1) 0)

-- a verdict on position i, after those before it
abbrev pub JudgesPosition : List ℕ → List ℕ → List ℕ → ℕ → Verdict → Type 0
JudgesPosition starts heads drive i (Ok _) = Entered starts heads drive (i + 1)
JudgesPosition starts heads drive i (Err r) = drive_fault starts heads drive r
