-- The faults of document 01's table, one definition each. The numbers of their refusals are `number_of`'s.
use Rattle.std.specs.Prelude.{◌≡◌, ◌⊎◌, ◌≢◌, List, [], ◌∷◌, ℕ, ◌+◌, ◌≤◌, ◌<◌, length, get_or}
use Rattle.paths.specs.Lists.{Mem, Different, Each}
use Rattle.road.specs.declared.Limits.{Limits}
use Rattle.road.specs.declared.Refusal.{Refusal}
use Rattle.road.specs.declared.Refusal.TheVariants.{Sizes, Starts, Arcs, K, Order, Set, Node, Outside, Lengths}
use Rattle.road.specs.Limits.{most_nodes, most_k}
use Rattle.road.specs.Refusals.{Fault, Of, None, First}
use Rattle.road.specs.Roads.{nodes_of, Owns}

-- 1: the starts shorter than 2 or longer than 4,097; heads and weights of unlike length, or longer than the limit
pub data BadSizes (L : Limits) (starts heads weights : List ℕ) : Type 0 where
  few_starts : length starts < 2 → BadSizes L starts heads weights
  many_starts : most_nodes + 1 < length starts → BadSizes L starts heads weights
  unlike : length heads ≢ length weights → BadSizes L starts heads weights
  many_heads : L.arcs.0 < length heads → BadSizes L starts heads weights
  many_weights : L.arcs.0 < length weights → BadSizes L starts heads weights

abbrev pub sizes : Limits → List ℕ → List ℕ → List ℕ → Fault
sizes L starts heads weights = Of Sizes (BadSizes L starts heads weights)

-- 1, for a call that is lent a set but no road graph: the set of length 0 or above 4,096
pub data BadSetSize (nodes : List ℕ) : Type 0 where
  empty : length nodes ≡ 0 → BadSetSize nodes
  many : most_nodes < length nodes → BadSetSize nodes

abbrev pub set_size : List ℕ → Fault
set_size nodes = Of Sizes (BadSetSize nodes)

-- 2: the first start not 0, a start below the one before, or the last start not m
pub data BadStarts (starts heads : List ℕ) : Type 0 where
  first : get_or starts 0 0 ≢ 0 → BadStarts starts heads
  falls : (u : ℕ) → u + 1 < length starts → get_or starts (u + 1) 0 < get_or starts u 0 → BadStarts starts heads
  last : get_or starts (nodes_of starts) 0 ≢ length heads → BadStarts starts heads

abbrev pub starts_fault : List ℕ → List ℕ → Fault
starts_fault starts heads = Of Starts (BadStarts starts heads)

-- 3, of the arc at place p: its head at or above n
pub record HeadOutside (starts heads : List ℕ) (p : ℕ) : Type 0 where
  pub outside : nodes_of starts ≤ get_or heads p 0

-- its head equal to its tail
pub record HeadIsTail (starts heads : List ℕ) (p : ℕ) : Type 0 where
  pub tail : ℕ
  pub owned : Owns starts tail p
  pub same : get_or heads p 0 ≡ tail

-- its head not above that of the arc before it of the same tail
pub record HeadFalls (starts heads : List ℕ) (p : ℕ) : Type 0 where
  pub tail : ℕ
  pub former : ℕ
  pub next : p ≡ former + 1
  pub before : Owns starts tail former
  pub owned : Owns starts tail p
  pub falls : get_or heads p 0 ≤ get_or heads former 0

-- its weight over the limit
pub record TooHeavy (L : Limits) (weights : List ℕ) (p : ℕ) : Type 0 where
  pub over : L.weight < get_or weights p 0

-- the faults of one arc, in this order
abbrev pub arc_faults : Limits → List ℕ → List ℕ → List ℕ → ℕ → List Fault
arc_faults L starts heads weights p =
    Of Arcs (HeadOutside starts heads p) ∷ Of Arcs (HeadIsTail starts heads p) ∷ Of Arcs (HeadFalls starts heads p) ∷
    Of Arcs (TooHeavy L weights p) ∷ []

-- 3: the refusal of the first arc, by ascending place, that is at fault
pub record ArcFault (L : Limits) (starts heads weights : List ℕ) (r : Refusal) : Type 0 where
  pub place : ℕ
  pub listed : place < length heads
  pub here : First (arc_faults L starts heads weights place) r
  pub before : (p : ℕ) → p < place → None (arc_faults L starts heads weights p)

-- 1, 2 and 3 together: the graph is not well formed under the limits
abbrev pub graph_faults : Limits → List ℕ → List ℕ → List ℕ → List Fault
graph_faults L starts heads weights = sizes L starts heads weights ∷ starts_fault starts heads ∷ ArcFault L starts heads weights ∷ []

-- 4: k is 0 or above 32
pub data BadK (k : ℕ) : Type 0 where
  none : k ≡ 0 → BadK k
  many : most_k < k → BadK k

abbrev pub k_fault : ℕ → Fault
k_fault k = Of K (BadK k)

-- the order has each of the n nodes once, and nothing else
pub record Permutation (n : ℕ) (order : List ℕ) : Type 0 where
  pub all : (v : ℕ) → v < n → Mem v order
  pub once : Different order
  pub only : Each (λ (v : ℕ). v < n) order

-- 5: the order is no permutation of all n nodes
abbrev pub order_fault : ℕ → List ℕ → Fault
order_fault n order = Of Order (Permutation n order → ⊥)

-- 6: the set not of length n, or a byte other than 0 or 1
pub data BadSet (n : ℕ) (bytes : List ℕ) : Type 0 where
  unlike : length bytes ≢ n → BadSet n bytes
  other : (v : ℕ) → v < length bytes → get_or bytes v 0 ≢ 0 → get_or bytes v 0 ≢ 1 → BadSet n bytes

abbrev pub set_fault : ℕ → List ℕ → Fault
set_fault n bytes = Of Set (BadSet n bytes)

-- 8: a question's node at or above n
pub data NoNode (n s t : ℕ) : Type 0 where
  from : n ≤ s → NoNode n s t
  to : n ≤ t → NoNode n s t

abbrev pub node_fault : ℕ → ℕ → ℕ → Fault
node_fault n s t = Of Node (NoNode n s t)

-- v is in the set
abbrev pub InSet : List ℕ → ℕ → Type 0
InSet bytes v = get_or bytes v 0 ≡ 1

-- 9: a handheld question's node outside the set
pub data NotInSet (bytes : List ℕ) (s t : ℕ) : Type 0 where
  from : (InSet bytes s → ⊥) → NotInSet bytes s t
  to : (InSet bytes t → ⊥) → NotInSet bytes s t

abbrev pub outside_fault : List ℕ → ℕ → ℕ → Fault
outside_fault bytes s t = Of Outside (NotInSet bytes s t)

-- 11: a slice of a length other than asked
abbrev pub length_fault : ℕ → ℕ → Fault
length_fault given asked = Of Lengths (given ≢ asked)

-- the same of several slices: some length is not the one asked. Each pair is a length and what is asked.
abbrev pub Unlike : List (ℕ × ℕ) → Type 0
Unlike [] = ⊥
Unlike (p ∷ l) = (p.0 ≢ p.1) ⊎ Unlike l

abbrev pub lengths_fault : List (ℕ × ℕ) → Fault
lengths_fault pairs = Of Lengths (Unlike pairs)
