-- The overlay of a set of nodes: its arcs, one tail's row, all rows in order, and how many arcs there are.
use Rattle.std.specs.Prelude.{◌≡◌, ◌≢◌, List, ℕ, suc, ◌+◌, ◌≤◌, ◌<◌, length, get_or}
use Rattle.paths.specs.Graphs.{Graph, Reaches}
use Rattle.paths.specs.Least.{Least}
use Rattle.road.specs.Faults.{InSet}
use Rattle.overlay.specs.Numbers.{Number}

-- v is not in the set
abbrev pub Outside : List ℕ → ℕ → Type 0
Outside chosen v = InSet chosen v → ⊥

-- there is an overlay arc from a to b of weight w: a and b are different nodes of the set, and w is the least weight of a path from a to b
-- with no node of the set strictly between them
pub record OverlayArc (G : Graph) (chosen : List ℕ) (a b w : ℕ) : Type 0 where
  pub tail : InSet chosen a
  pub head : InSet chosen b
  pub apart : a ≢ b
  pub least : Least (Reaches G (Outside chosen) a b) w

-- there is one, whatever it weighs: a and b are different nodes of the set, and some path has no node of the set strictly between them
pub record HasArc (G : Graph) (chosen : List ℕ) (a b : ℕ) : Type 0 where
  pub tail : InSet chosen a
  pub head : InSet chosen b
  pub apart : a ≢ b
  pub weight : ℕ
  pub some : Reaches G (Outside chosen) a b weight

-- the row of tail a is at the places from `from` up to, but not including, `to`: its arcs and no others, heads ascending
pub record RowAt (G : Graph) (chosen : List ℕ) (a : ℕ) (heads weights : List ℕ) (from to : ℕ) : Type 0 where
  pub rises : from ≤ to
  pub ascends : (p : ℕ) → from ≤ p → p + 1 < to → get_or heads p 0 < get_or heads (p + 1) 0
  pub arcs : (p : ℕ) → from ≤ p → p < to → OverlayArc G chosen a (get_or heads p 0) (get_or weights p 0)
  pub all : (b : ℕ) → HasArc G chosen a b → (p : ℕ) × (from ≤ p) × (p < to) × (get_or heads p 0 ≡ b)

-- the three lists are the overlay of the set: the rows of all nodes in order, each from where the former ended
pub record OverlayOf (G : Graph) (chosen starts heads weights : List ℕ) : Type 0 where
  pub long : length starts ≡ G.nodes + 1
  pub begins : get_or starts 0 0 ≡ 0
  pub rows : (a : ℕ) → a < G.nodes → RowAt G chosen a heads weights (get_or starts a 0) (get_or starts (a + 1) 0)
  pub ends : get_or starts G.nodes 0 ≡ length heads
  pub alike : length heads ≡ length weights

-- so many overlay arcs have a tail below the first number
pub data Arcs (G : Graph) (chosen : List ℕ) : ℕ → ℕ → Type 0 where
  none : Arcs G chosen 0 0
  row : {a m r : ℕ} → Arcs G chosen a m → Number (HasArc G chosen a) G.nodes r → Arcs G chosen (suc a) (m + r)

-- how many overlay arcs there are: the pairs of nodes of which one leads to the other
abbrev pub ArcsInAll : Graph → List ℕ → ℕ → Type 0
ArcsInAll G chosen m = Arcs G chosen G.nodes m
