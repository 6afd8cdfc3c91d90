-- What is said of a list of nodes.
use Rattle.std.specs.Prelude.{◌≡◌, ◌⊎◌, List, [], ◌∷◌, ℕ}

-- a stands in the list
abbrev pub Mem : ℕ → List ℕ → Type 0
Mem a [] = ⊥
Mem a (x ∷ l) = (a ≡ x) ⊎ Mem a l

-- no number stands in the list twice
abbrev pub Different : List ℕ → Type 0
Different [] = Unit {0}
Different (x ∷ l) = (Mem x l → ⊥) × Different l

-- P holds of each number of the list
abbrev pub Each : (ℕ → Type 0) → List ℕ → Type 0
Each P [] = Unit {0}
Each P (x ∷ l) = P x × Each P l

-- P holds of each number of the list but the last
abbrev pub Inside : (ℕ → Type 0) → List ℕ → Type 0
Inside P [] = Unit {0}
Inside P (x ∷ []) = Unit {0}
Inside P (x ∷ y ∷ l) = P x × Inside P (y ∷ l)
