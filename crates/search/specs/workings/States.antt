-- The search on its way. Labels are 0 for none, else one more than the weight of some walk.
use Rattle.std.specs.Prelude.{◌≡◌, ◌⊎◌, ◌≢◌, List, [], ◌∷◌, ℕ, zero, suc, ◌+◌, ◌*◌, ◌≤◌, ◌<◌, length, get_or, set}
use Rattle.paths.specs.Graphs.{Walks}
use Rattle.road.specs.Counting.{times}
use Rattle.road.specs.Limits.{overlay_limits}
use Rattle.road.specs.Roads.{nodes_of, Arc, road}
use Rattle.road.specs.workings.Sound.{Sound}
use Rattle.search.specs.workings.Queue.{Heap, Waits, Sooner}
use Rattle.search.specs.workings.Rows.{Free, label_at}

-- a node that may be left: the source, or one that is not blocked
abbrev pub Open : List ℕ → ℕ → ℕ → Type 0
Open blocked source u = (u ≡ source) ⊎ Free blocked u

-- v has a label, of at most x
pub record Reached (labels : List ℕ) (v x : ℕ) : Type 0 where
  pub some : label_at labels v ≢ 0
  pub most : label_at labels v ≤ x

-- a byte and a label for each node; each label is that of a walk, and none is too large: each node that has one adds at most the greatest weight
pub record State (starts heads weights blocked : List ℕ) (source : ℕ) (labels : List ℕ) : Type 0 where
  pub sound_graph : Sound overlay_limits starts heads weights
  pub node : source < nodes_of starts
  pub bytes : length blocked ≡ nodes_of starts
  pub long : length labels ≡ nodes_of starts
  pub start : label_at labels source ≡ 1
  pub sound : (v d : ℕ) → label_at labels v ≡ suc d → Walks (road starts heads weights) (Free blocked) source v d
  pub small : (v : ℕ) → label_at labels v + times 0 labels * overlay_limits.weight ≤ 1 + nodes_of starts * overlay_limits.weight

-- the arcs that P allows, of nodes that have a label and do not wait, lead to labels that are small enough
pub record Closed (starts heads weights blocked : List ℕ) (source : ℕ) (labels places : List ℕ) (P : ℕ → ℕ → Type 0) : Type 0 where
  pub closed :
      (u v w : ℕ) → label_at labels u ≢ 0 → get_or places u 0 ≡ 0 → Open blocked source u → (a : Arc starts heads weights u v w) → P u a.place →
      Reached labels v (label_at labels u + w)

-- every waiting node has a label
pub record Labelled (labels places : List ℕ) : Type 0 where
  pub labelled : (v : ℕ) → Waits places v → label_at labels v ≢ 0

-- all arcs
abbrev pub All : ℕ → ℕ → Type 0
All u p = Unit {0}

-- all arcs but those of u from place i on
abbrev pub Upto : ℕ → ℕ → ℕ → ℕ → Type 0
Upto u i x p = (x ≡ u) → p < i

-- what an offer of the label x to v leaves
pub data Offered (v x : ℕ) (labels places : List ℕ) (count : ℕ) (labels' places' : List ℕ) (count' : ℕ) : Type 0 where
  refused : Reached labels v x → labels' ≡ labels → places' ≡ places → count' ≡ count → Offered v x labels places count labels' places' count'
  taken :
      Sooner x (label_at labels v) → labels' ≡ set labels v x → Waits places' v → ((y : ℕ) → Waits places y → Waits places' y) →
      ((y : ℕ) → Waits places' y → (y ≡ v) ⊎ Waits places y) → count' ≤ count + 1 → Offered v x labels places count labels' places' count'

-- the sum of the labels, a node without one weighing more than any label: what falls as the search goes on
abbrev pub heavy : ℕ → ℕ
heavy zero = 20000000000000
heavy (suc x) = suc x

abbrev pub mass : List ℕ → ℕ
mass [] = 0
mass (x ∷ l) = heavy x + mass l

-- the search between two takes: what P allows is closed, and the heap holds exactly the nodes that wait
pub record Going (starts heads weights blocked : List ℕ) (source : ℕ) (labels heap places : List ℕ) (count : ℕ) (P : ℕ → ℕ → Type 0) : Type 0 where
  pub state : State starts heads weights blocked source labels
  pub labelled : Labelled labels places
  pub closed : Closed starts heads weights blocked source labels places P
  pub heap_is : Heap heap places count
  pub as_many : length places ≡ nodes_of starts

-- u was taken and may be left
pub record Leaves (blocked : List ℕ) (source : ℕ) (labels places : List ℕ) (u : ℕ) : Type 0 where
  pub some : label_at labels u ≢ 0
  pub idle : get_or places u 0 ≡ 0
  pub may : Open blocked source u
