-- Refusals: their numbers, what a fault is, and which fault of a list is first.
use Rattle.std.specs.Prelude.{◌≡◌, ◌⊎◌, List, [], ◌∷◌, ℕ}
use Rattle.road.specs.declared.Refusal.{Refusal}
use Rattle.road.specs.declared.Refusal.TheVariants.{Sizes, Starts, Arcs, K, Order, Set, Overlay, Node, Outside, Drive, Lengths, Room, Line}

-- the number that document 01's table gives a refusal
abbrev pub number_of : Refusal → ℕ
number_of Sizes = 1
number_of Starts = 2
number_of Arcs = 3
number_of K = 4
number_of Order = 5
number_of Set = 6
number_of Overlay = 7
number_of Node = 8
number_of Outside = 9
number_of Drive = 10
number_of Lengths = 11
number_of Room = 12
number_of Line = 13

-- what a call says: the number 0 and its values, or a refusal's number alone
pub record Said : Type 0 where
  pub number : ℕ
  pub values : List ℕ

abbrev pub refusal : Refusal → Said
refusal r = record { number = number_of r; values = [] }

abbrev pub answer : List ℕ → Said
answer values = record { number = 0; values = values }

-- a fault says of which refusal it holds
abbrev pub Fault : Type 1
Fault = Refusal → Type 0

-- the fault P, which refusal r tells
pub record Of (r : Refusal) (P : Type 0) (s : Refusal) : Type 0 where
  pub is : s ≡ r
  pub holds : P

-- none of the faults holds
abbrev pub None : List Fault → Type 0
None [] = Unit {0}
None (F ∷ Fs) = ((s : Refusal) → F s → ⊥) × None Fs

-- r is of the first fault that holds
abbrev pub First : List Fault → Refusal → Type 0
First [] r = ⊥
First (F ∷ Fs) r = F r ⊎ (((s : Refusal) → F s → ⊥) × First Fs r)
