-- Counting and writing the rows, on the way.
use Rattle.std.specs.Prelude.{◌≡◌, ◌≢◌, List, ℕ, suc, ◌+◌, ◌≤◌, ◌<◌, length, get_or, set, replicate}
use Rattle.paths.specs.Graphs.{Graph, Reaches}
use Rattle.paths.specs.Least.{Told}
use Rattle.road.specs.Faults.{InSet}
use Rattle.road.specs.Limits.{overlay_limits}
use Rattle.road.specs.Roads.{nodes_of}
use Rattle.road.specs.workings.Sound.{Sound}
use Rattle.overlay.specs.Numbers.{Number}
use Rattle.overlay.specs.Overlays.{Outside, OverlayArc, RowAt, Arcs, ArcsInAll}
use Rattle.search.specs.workings.Rows.{label_at}

-- what counting and writing ask: a graph under the overlay's limits, a set of its nodes, labels for its nodes, and an empty queue
pub record Searching (starts heads weights chosen labels heap places : List ℕ) : Type 0 where
  pub sound : Sound overlay_limits starts heads weights
  pub bytes : length chosen ≡ nodes_of starts
  pub bits : (v : ℕ) → get_or chosen v 0 ≤ 1
  pub room : length labels ≡ nodes_of starts
  pub queue : nodes_of starts ≤ length heap
  pub heap_zero : heap ≡ replicate (length heap) 0
  pub places_zero : places ≡ replicate (nodes_of starts) 0

-- what the search from a finds, paths passing no node of the set
pub record Local (G : Graph) (chosen : List ℕ) (a : ℕ) (labels : List ℕ) : Type 0 where
  pub long : length labels ≡ G.nodes
  pub told : (v : ℕ) → v < G.nodes → Told (Reaches G (Outside chosen) a v) (label_at labels v)

-- the labels show an overlay arc from a to b
pub record Found (chosen labels : List ℕ) (a b : ℕ) : Type 0 where
  pub head : InSet chosen b
  pub apart : a ≢ b
  pub label : label_at labels b ≢ 0

-- no overlay arc weighs more than the overlay's limit
pub record Light (G : Graph) (chosen : List ℕ) : Type 0 where
  pub light : (a b w : ℕ) → OverlayArc G chosen a b w → w ≤ overlay_limits.weight

-- the same of labels
pub record Fits (chosen labels : List ℕ) (a : ℕ) : Type 0 where
  pub fits : (b : ℕ) → Found chosen labels a b → label_at labels b ≤ suc overlay_limits.weight

-- all arcs of the row have room
pub record RowRoom (chosen labels : List ℕ) (a room : ℕ) : Type 0 where
  pub enough : (m : ℕ) → Number (Found chosen labels a) (length chosen) m → m ≤ room

-- all overlay arcs have room
pub record Enough (G : Graph) (chosen : List ℕ) (room : ℕ) : Type 0 where
  pub total : ℕ
  pub counted : ArcsInAll G chosen total
  pub enough : total ≤ room

-- what writing the arc to v at the place asks
pub record Writable (chosen labels : List ℕ) (a v place room room' : ℕ) : Type 0 where
  pub node : v < length chosen
  pub few : length chosen ≤ 4096
  pub labelled : length labels ≡ length chosen
  pub fits : Fits chosen labels a
  pub free : Found chosen labels a v → place < room
  pub alike : room' ≡ room

-- what it leaves: the arc at that place, or nothing where there is none
pub data WroteArc (chosen labels : List ℕ) (a v place : ℕ) (heads₀ weights₀ heads weights : List ℕ) (r : ℕ) : Type 0 where
  put :
      (w : ℕ) → Found chosen labels a v → label_at labels v ≡ suc w → heads ≡ set heads₀ place v → weights ≡ set weights₀ place w → r ≡ suc place →
      WroteArc chosen labels a v place heads₀ weights₀ heads weights r
  left : (Found chosen labels a v → ⊥) → heads ≡ heads₀ → weights ≡ weights₀ → r ≡ place → WroteArc chosen labels a v place heads₀ weights₀ heads weights r

-- r arcs of a's row, to nodes below v, are written; the entries from place r on are as they were
pub record Wrote (chosen labels : List ℕ) (a v : ℕ) (heads₀ weights₀ heads weights : List ℕ) (r : ℕ) : Type 0 where
  pub number : Number (Found chosen labels a) v r
  pub ascends : (p : ℕ) → p + 1 < r → get_or heads p 0 < get_or heads (p + 1) 0
  pub found : (p : ℕ) → p < r → Found chosen labels a (get_or heads p 0)
  pub below : (p : ℕ) → p < r → get_or heads p 0 < v
  pub weighed : (p : ℕ) → p < r → label_at labels (get_or heads p 0) ≡ suc (get_or weights p 0)
  pub all : (b : ℕ) → b < v → Found chosen labels a b → (p : ℕ) × (p < r) × (get_or heads p 0 ≡ b)
  pub heads_kept : (p : ℕ) → r ≤ p → get_or heads p 0 ≡ get_or heads₀ p 0
  pub weights_kept : (p : ℕ) → r ≤ p → get_or weights p 0 ≡ get_or weights₀ p 0
  pub heads_long : length heads ≡ length heads₀
  pub weights_long : length weights ≡ length weights₀

-- the row of tail a is written from place c on, and ends before place r; all other entries are as they were
pub record RowWritten (G : Graph) (chosen : List ℕ) (a : ℕ) (heads₀ weights₀ heads weights : List ℕ) (c r : ℕ) : Type 0 where
  pub row : RowAt G chosen a heads weights c r
  pub counted : Arcs G chosen (suc a) r
  pub heads_before : (p : ℕ) → p < c → get_or heads p 0 ≡ get_or heads₀ p 0
  pub weights_before : (p : ℕ) → p < c → get_or weights p 0 ≡ get_or weights₀ p 0
  pub heads_after : (p : ℕ) → r ≤ p → get_or heads p 0 ≡ get_or heads₀ p 0
  pub weights_after : (p : ℕ) → r ≤ p → get_or weights p 0 ≡ get_or weights₀ p 0
  pub heads_long : length heads ≡ length heads₀
  pub weights_long : length weights ≡ length weights₀

-- the rows of the tails below a are written, with c arcs in all; the entries from place c on are as they were
pub record Building (G : Graph) (chosen : List ℕ) (a : ℕ) (heads₀ weights₀ starts heads weights : List ℕ) (c : ℕ) : Type 0 where
  pub counted : Arcs G chosen a c
  pub long : length starts ≡ G.nodes + 1
  pub begins : get_or starts 0 0 ≡ 0
  pub rows : (u : ℕ) → u < a → RowAt G chosen u heads weights (get_or starts u 0) (get_or starts (u + 1) 0)
  pub here : get_or starts a 0 ≡ c
  pub within : (u : ℕ) → u ≤ a → get_or starts u 0 ≤ c
  pub heads_kept : (p : ℕ) → c ≤ p → get_or heads p 0 ≡ get_or heads₀ p 0
  pub weights_kept : (p : ℕ) → c ≤ p → get_or weights p 0 ≡ get_or weights₀ p 0
  pub heads_long : length heads ≡ length heads₀
  pub weights_long : length weights ≡ length weights₀
