-- What a check tells, and what is asked of a list of faults.
use Rattle.std.specs.Prelude.{◌≡◌, Bool, true, false, ◌⊎◌, List, [], ◌∷◌, Result, Ok, Err}
use Rattle.road.specs.declared.Refusal.{Refusal}
use Rattle.road.specs.Refusals.{Fault, None, First}

-- it holds of at most one
pub record Single (F : Fault) : Type 0 where
  pub one : (r s : Refusal) → F r → F s → r ≡ s

abbrev pub Singles : List Fault → Type 0
Singles [] = Unit {0}
Singles (F ∷ Fs) = Single F × Singles Fs

-- each of the faults is decided: it holds of some refusal, or of none
abbrev pub Decided : List Fault → Type 0
Decided [] = Unit {0}
Decided (F ∷ Fs) = (((r : Refusal) × F r) ⊎ ((s : Refusal) → F s → ⊥)) × Decided Fs

-- what a check answers: nothing, or why it refuses
abbrev pub Verdict : Type 0
Verdict = Result (Unit {0}) Refusal

-- a verdict on one fault: passed where it does not hold, else refused as it says
pub record Judged (F : Fault) (v : Verdict) : Type 0 where
  pub passed : v ≡ Ok tt → (s : Refusal) → F s → ⊥
  pub refused : (r : Refusal) → v ≡ Err r → F r

-- a verdict on a list of faults: passed where none holds, else refused as the first that holds says
pub record Judges (Fs : List Fault) (v : Verdict) : Type 0 where
  pub passed : v ≡ Ok tt → None Fs
  pub refused : (r : Refusal) → v ≡ Err r → First Fs r

-- an answer that is a bool tells whether P
pub record Tells (answer : Bool) (P : Type 0) : Type 0 where
  pub yes : answer ≡ true → P
  pub no : answer ≡ false → P → ⊥
