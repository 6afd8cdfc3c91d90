-- Graphs and their paths. Nothing here says how a graph is stored or how a path is found.
use Rattle.std.specs.Prelude.{List, [], ◌∷◌, ℕ, ◌+◌, ◌-◌, ◌≤◌, ◌<◌}
use Rattle.paths.specs.Lists.{Different, Inside}

-- The nodes are the numbers below `nodes`. `Step u v w` says that a step of weight w leads from u to v.
pub record Graph : Type 1 where
  pub nodes : ℕ
  pub Step : ℕ → ℕ → ℕ → Type 0

-- each step joins two nodes of the graph
pub record Proper (G : Graph) : Type 0 where
  pub tail : {u v w : ℕ} → G.Step u v w → u < G.nodes
  pub head : {u v w : ℕ} → G.Step u v w → v < G.nodes

-- no step weighs more than `most`
pub record Lighter (G : Graph) (most : ℕ) : Type 0 where
  pub light : {u v w : ℕ} → G.Step u v w → w ≤ most

-- the same nodes, each step turned round
abbrev pub turned : Graph → Graph
turned G = record { nodes = G.nodes; Step = λ (u v w : ℕ). G.Step v u w }

-- `Along G a l b w`: from a over the nodes of l, each joined to the next by a step, one comes to b; the steps weigh w together
pub data Along (G : Graph) : ℕ → List ℕ → ℕ → ℕ → Type 0 where
  stop : {a : ℕ} → Along G a [] a 0
  step : {a x b w d : ℕ} {l : List ℕ} → G.Step a x w → Along G x l b d → Along G a (x ∷ l) b (w + d)

-- `IsPath G a l b w`: the list a ∷ l is a path of G from a to b, of weight w. Its nodes are different, and each is joined to the
-- next. That a is a node has to be said for a path of one node; of the others their steps say it.
pub record IsPath (G : Graph) (a : ℕ) (l : List ℕ) (b w : ℕ) : Type 0 where
  pub node : a < G.nodes
  pub along : Along G a l b w
  pub different : Different (a ∷ l)

-- k counts a path's nodes; it has one arc fewer. This is the one place at which a count of nodes becomes a count of arcs.
abbrev pub arcs_of : ℕ → ℕ
arcs_of k = k - 1

-- w is the weight of some path from a to b with P at each node strictly inside it
pub record Reaches (G : Graph) (P : ℕ → Type 0) (a b w : ℕ) : Type 0 where
  pub after : List ℕ
  pub path : IsPath G a after b w
  pub inner : Inside P after

-- the same of a walk, whose nodes may repeat
pub record Walks (G : Graph) (P : ℕ → Type 0) (a b w : ℕ) : Type 0 where
  pub after : List ℕ
  pub along : Along G a after b w
  pub inner : Inside P after

-- no bar to any node
abbrev pub Any : ℕ → Type 0
Any v = Unit {0}
