-- In which order a call judges its faults.
use Rattle.std.specs.Prelude.{◌≡◌, List, [], ◌∷◌, ℕ, zero, suc}
use Rattle.road.specs.declared.Refusal.{Refusal}
use Rattle.road.specs.Refusals.{Fault, number_of}

-- the faults of the list tell these numbers, one after the other
abbrev pub Numbered : List Fault → List ℕ → Type 0
Numbered [] [] = Unit {0}
Numbered [] (n ∷ ns) = ⊥
Numbered (F ∷ Fs) [] = ⊥
Numbered (F ∷ Fs) (n ∷ ns) = ((r : Refusal) → F r → number_of r ≡ n) × Numbered Fs ns

-- the fault at place i of the list holds, of r
abbrev pub HoldsAt : List Fault → ℕ → Refusal → Type 0
HoldsAt [] i r = ⊥
HoldsAt (F ∷ Fs) zero r = F r
HoldsAt (F ∷ Fs) (suc i) r = HoldsAt Fs i r

-- none before place i does
abbrev pub NoneTo : List Fault → ℕ → Type 0
NoneTo Fs zero = Unit {0}
NoneTo [] (suc i) = Unit {0}
NoneTo (F ∷ Fs) (suc i) = ((s : Refusal) → F s → ⊥) × NoneTo Fs i
