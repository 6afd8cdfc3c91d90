-- The lists that the arcs read make, and the lines that a map makes.
use Rattle.std.specs.Prelude.{Bool, true, false, List, [], ◌∷◌, ◌++◌, ℕ, zero, suc, ◌-◌, eqb, get_or}
use Rattle.road.specs.Counting.{under}
use Rattle.hexlines.specs.Outputs.{Out, point, arc}

-- so many numbers from v on
abbrev pub numbers : ℕ → ℕ → List ℕ
numbers v zero = []
numbers v (suc c) = v ∷ numbers (suc v) c

-- for so many nodes from v on, how many of the tails are below each
abbrev pub belows : List ℕ → ℕ → ℕ → List ℕ
belows tails v zero = []
belows tails v (suc c) = under v tails ∷ belows tails (suc v) c

-- the n + 1 starts of arcs with these tails
abbrev pub starts_of : ℕ → List ℕ → List ℕ
starts_of n tails = belows tails 0 (suc n)

-- the line of node v, if its byte is 1
abbrev pub point_if : Bool → ℕ → List Out
point_if true v = point v ∷ []
point_if false v = []

-- a line for each node of the set, ascending, from node v on
abbrev pub point_lines : ℕ → List ℕ → List Out
point_lines v [] = []
point_lines v (b ∷ l) = point_if (eqb b 1) v ++ point_lines (suc v) l

-- a line for each of so many arcs of tail u, from place p on
abbrev pub row_lines : List ℕ → List ℕ → ℕ → ℕ → ℕ → List Out
row_lines heads weights u p zero = []
row_lines heads weights u p (suc c) = arc u (get_or heads p 0) (get_or weights p 0) ∷ row_lines heads weights u (suc p) c

-- the rows of the first tails, in the layout's order
abbrev pub arc_lines : List ℕ → List ℕ → List ℕ → ℕ → List Out
arc_lines starts heads weights zero = []
arc_lines starts heads weights (suc u) =
    arc_lines starts heads weights u ++ row_lines heads weights u (get_or starts u 0) (get_or starts (suc u) 0 - get_or starts u 0)
