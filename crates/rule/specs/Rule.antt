-- The pruning rule, over any predicate on lists of nodes: the paths that count.
use Rattle.std.specs.Prelude.{◌≡◌, ◌≢◌, List, [], ◌∷◌, ℕ, length, get_or, set, replicate}
use Rattle.paths.specs.Graphs.{Graph, IsPath}
use Rattle.paths.specs.Lists.{Mem}

-- a node's byte: 0 once it is dropped
abbrev pub Dropped : List ℕ → ℕ → Type 0
Dropped cover v = get_or cover v 0 ≡ 0

-- v cannot be dropped: some path that counts contains v and otherwise only nodes already dropped
pub record Needed (Counts : List ℕ → Type 0) (cover : List ℕ) (v : ℕ) : Type 0 where
  pub path : List ℕ
  pub counts : Counts path
  pub on : Mem v path
  pub others : (x : ℕ) → Mem x path → x ≢ v → Dropped cover x

-- the nodes of the order are taken one by one; a node is dropped exactly if it is not needed
pub data Prunes (Counts : List ℕ → Type 0) : List ℕ → List ℕ → List ℕ → Type 0 where
  done : {cover : List ℕ} → Prunes Counts [] cover cover
  keep : {v : ℕ} {order cover left : List ℕ} → Needed Counts cover v → Prunes Counts order cover left → Prunes Counts (v ∷ order) cover left
  drop : {v : ℕ} {order cover left : List ℕ} → (Needed Counts cover v → ⊥) → Prunes Counts order (set cover v 0) left → Prunes Counts (v ∷ order) cover left

-- the cover that the rule yields: it begins with all n nodes
abbrev pub Pruned : (List ℕ → Type 0) → ℕ → List ℕ → List ℕ → Type 0
Pruned Counts n order cover = Prunes Counts order (replicate n 1) cover

-- the list is a path of k nodes
pub record PathOf (G : Graph) (k : ℕ) (list : List ℕ) : Type 0 where
  pub first : ℕ
  pub after : List ℕ
  pub last : ℕ
  pub weight : ℕ
  pub whole : list ≡ first ∷ after
  pub path : IsPath G first after last weight
  pub nodes : length list ≡ k
