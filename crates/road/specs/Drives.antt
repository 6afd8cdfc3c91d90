-- Drives, and when one is refused.
use Rattle.std.specs.Prelude.{◌≡◌, List, ℕ, ◌+◌, ◌≤◌, ◌<◌, length, get_or}
use Rattle.road.specs.declared.Refusal.TheVariants.{Drive}
use Rattle.road.specs.Limits.{most_drive}
use Rattle.road.specs.Refusals.{Fault, Of}
use Rattle.road.specs.Roads.{nodes_of, Owns}

-- some arc leads from u to v, whatever it weighs
pub record Joined (starts heads : List ℕ) (u v : ℕ) : Type 0 where
  pub place : ℕ
  pub listed : place < length heads
  pub owned : Owns starts u place
  pub head : get_or heads place 0 ≡ v

-- 10: a drive of length 0 or above 4,096, a node at or above n, or two neighbours not joined by an arc
pub data BadDrive (starts heads drive : List ℕ) : Type 0 where
  none : length drive ≡ 0 → BadDrive starts heads drive
  many : most_drive < length drive → BadDrive starts heads drive
  outside : (i : ℕ) → i < length drive → nodes_of starts ≤ get_or drive i 0 → BadDrive starts heads drive
  apart : (i : ℕ) → i + 1 < length drive → (Joined starts heads (get_or drive i 0) (get_or drive (i + 1) 0) → ⊥) → BadDrive starts heads drive

abbrev pub drive_fault : List ℕ → List ℕ → List ℕ → Fault
drive_fault starts heads drive = Of Drive (BadDrive starts heads drive)
