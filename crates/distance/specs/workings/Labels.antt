-- Distances as labels: 0 is no way, and d + 1 is a way of weight d.
use Rattle.std.specs.Prelude.{◌≡◌, ◌⊎◌, ◌≢◌, List, ℕ, suc, ◌+◌, ◌≤◌, ◌<◌, Option, Some, None, length, get_or, replicate}
use Rattle.paths.specs.Graphs.{Graph, Reaches, Any}
use Rattle.paths.specs.Least.{Told}
use Rattle.road.specs.Faults.{InSet}
use Rattle.road.specs.Limits.{overlay_limits}
use Rattle.road.specs.Roads.{nodes_of}
use Rattle.road.specs.workings.Sound.{Sound}
use Rattle.overlay.specs.Overlays.{Outside}
use Rattle.overlay.specs.workings.Writing.{Local}
use Rattle.search.specs.workings.Rows.{label_at}

abbrev pub label_of : Option ℕ → ℕ
label_of (Some d) = suc d
label_of None = 0

-- r is the lesser of l and m, where there is one
pub record Lesser (l m r : ℕ) : Type 0 where
  pub one : (r ≡ l) ⊎ (r ≡ m)
  pub left : l ≢ 0 → (r ≢ 0) × (r ≤ l)
  pub right : m ≢ 0 → (r ≢ 0) × (r ≤ m)

-- r is the sum of three, and missing where one of them is
pub record Summed (l m n r : ℕ) : Type 0 where
  pub all : (a b c : ℕ) → l ≡ suc a → m ≡ suc b → n ≡ suc c → r ≡ suc (a + b + c)
  pub missing : (l ≡ 0) ⊎ ((m ≡ 0) ⊎ (n ≡ 0)) → r ≡ 0

-- a label whose weight can be summed with two others
abbrev pub Modest : ℕ → Type 0
Modest l = l ≤ 20000000000000

-- the same of a row of labels
pub record Small (labels : List ℕ) : Type 0 where
  pub small : (v : ℕ) → Modest (label_at labels v)

-- sums of a number of X, one of Y and one of Z
pub record Sum (X Y Z : ℕ → Type 0) (d : ℕ) : Type 0 where
  pub first : ℕ
  pub second : ℕ
  pub third : ℕ
  pub in_first : X first
  pub in_second : Y second
  pub in_third : Z third
  pub total : d ≡ first + second + third

-- what a row of labels from s says of entering the set at v: s itself at 0, or a node of the set that has a label
pub data Gate (chosen row : List ℕ) (s v d : ℕ) : Type 0 where
  itself : InSet chosen s → v ≡ s → d ≡ 0 → Gate chosen row s v d
  reached : (InSet chosen s → ⊥) → InSet chosen v → label_at row v ≡ suc d → Gate chosen row s v d

-- d is what the label says
abbrev pub Says : ℕ → ℕ → Type 0
Says label d = label ≡ suc d

-- sums over the exits below b
pub record Exits (chosen labels row : List ℕ) (t first b d : ℕ) : Type 0 where
  pub exit : ℕ
  pub below : exit < b
  pub sum : Sum (Says first) (Says (label_at labels exit)) (Gate chosen row t exit) d

-- sums over the entry a and all exits
pub record Through (O : Graph) (chosen outward inward : List ℕ) (s t a d : ℕ) : Type 0 where
  pub exit : ℕ
  pub node : exit < length chosen
  pub sum : Sum (Gate chosen outward s a) (Reaches O Any a exit) (Gate chosen inward t exit) d

-- sums over the entries below a and all exits
pub record Entries (O : Graph) (chosen outward inward : List ℕ) (s t a d : ℕ) : Type 0 where
  pub entry : ℕ
  pub below : entry < a
  pub through : Through O chosen outward inward s t entry d

-- a set of n nodes, a row of labels from s and one into t
pub record Rows (chosen outward inward : List ℕ) (s t n : ℕ) : Type 0 where
  pub bytes : length chosen ≡ n
  pub outward_long : length outward ≡ n
  pub inward_long : length inward ≡ n
  pub outward_small : Small outward
  pub inward_small : Small inward
  pub from : s < n
  pub to : t < n

-- what a search in the overlay asks: nothing is blocked, and the queue is empty
pub record Searchable (starts heads weights blocked labels heap places : List ℕ) : Type 0 where
  pub sound : Sound overlay_limits starts heads weights
  pub blocked_zero : blocked ≡ replicate (nodes_of starts) 0
  pub room : length labels ≡ nodes_of starts
  pub queue : nodes_of starts ≤ length heap
  pub heap_zero : heap ≡ replicate (length heap) 0
  pub places_zero : places ≡ replicate (nodes_of starts) 0

-- the row into t: labels over paths with no node of the set strictly inside
pub record Into (G : Graph) (chosen : List ℕ) (t : ℕ) (row : List ℕ) : Type 0 where
  pub told : (v : ℕ) → v < G.nodes → Told (Reaches G (Outside chosen) v t) (label_at row v)

-- what finding the two rows asks, and leaves
pub record RowsAsked (starts heads weights chosen : List ℕ) (s t : ℕ) (starts' heads' weights' outward inward heap places : List ℕ) : Type 0 where
  pub sound : Sound overlay_limits starts heads weights
  pub bytes : length chosen ≡ nodes_of starts
  pub bits : (v : ℕ) → get_or chosen v 0 ≤ 1
  pub from : s < nodes_of starts
  pub to : t < nodes_of starts
  pub starts_long : length starts' ≡ length starts
  pub heads_long : length heads' ≡ length heads
  pub weights_long : length weights' ≡ length heads
  pub outward_long : length outward ≡ nodes_of starts
  pub inward_long : length inward ≡ nodes_of starts
  pub queue : nodes_of starts ≤ length heap
  pub heap_zero : heap ≡ replicate (length heap) 0
  pub places_zero : places ≡ replicate (nodes_of starts) 0

-- the two rows
pub record RowsFound (G : Graph) (chosen : List ℕ) (s t : ℕ) (outward inward : List ℕ) : Type 0 where
  pub leaving : Local G chosen s outward
  pub coming : Into G chosen t inward
  pub outward_small : Small outward
  pub inward_small : Small inward
