-- The thinning call: what it says, and what it leaves.
use Rattle.std.specs.Prelude.{List, [], ◌∷◌, ◌++◌, ℕ, length, drop, Result, Ok, Err}
use Rattle.road.specs.declared.Refusal.{Refusal}
use Rattle.road.specs.Chains.{drive_faults}
use Rattle.road.specs.Faults.{length_fault}
use Rattle.road.specs.Refusals.{Fault, First, None, Said, refusal, answer}
use Rattle.drive.specs.declared.PositionCount.{PositionCount}
use Rattle.drive.specs.Thinning.{ThinnedDrive}

-- the number and the values of each answer: the count of the positions kept, or a refusal's number alone
abbrev pub said_of : Result PositionCount Refusal → Said
said_of (Ok c) = answer (c.0 ∷ [])
said_of (Err r) = refusal r

-- the faults in order: 1 2 3 6 10 11
abbrev pub faults_of : List ℕ → List ℕ → List ℕ → List ℕ → List ℕ → List ℕ → List Fault
faults_of starts heads weights bytes drive positions = drive_faults starts heads weights bytes drive ++ (length_fault (length positions) (length drive) ∷ [])

-- what the call says and what the slice for positions holds after it. A refusal is of the first fault, and leaves the slice as it was.
-- An answer is given where there is none: the thinned drive stands at the front of the slice, its length is the count, and the
-- entries past it are as they were.
pub data Outcome (starts heads weights bytes drive positions : List ℕ) : Said → List ℕ → Type 0 where
  refused : {r : Refusal} → First (faults_of starts heads weights bytes drive positions) r → Outcome starts heads weights bytes drive positions (refusal r) positions
  thinned :
      {kept : List ℕ} → None (faults_of starts heads weights bytes drive positions) → ThinnedDrive bytes drive kept →
      Outcome starts heads weights bytes drive positions (answer (length kept ∷ [])) (kept ++ drop (length kept) positions)
