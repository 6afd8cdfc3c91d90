-- When the path under trial can be completed.
use Rattle.std.specs.Prelude.{◌≡◌, List, [], ◌∷◌, ◌++◌, ℕ, suc, ◌+◌, ◌≤◌, ◌<◌, length, get_or}
use Rattle.paths.specs.Lists.{Mem}
use Rattle.road.specs.Drives.{Joined}
use Rattle.road.specs.workings.Sound.{Rising}
use Rattle.rule.specs.Rule.{Dropped}

-- `Completes Next Free End on a m`: the path with the nodes `on`, which ends at a, can be completed by m nodes. Either it is
-- complete at this end, which `End` tells of the nodes on it and of those missing; or Next leads from a to a free node that is not on
-- it, and with that node it can be completed by one node fewer.
pub data Completes (Next : ℕ → ℕ → Type 0) (Free : ℕ → Type 0) (End : List ℕ → ℕ → Type 0) : List ℕ → ℕ → ℕ → Type 0 where
  ends : {on : List ℕ} {a m : ℕ} → End on m → Completes Next Free End on a m
  longer : {on : List ℕ} {a m : ℕ} (x : ℕ) → Next a x → Free x → (Mem x on → ⊥) → Completes Next Free End (on ++ (x ∷ [])) x m → Completes Next Free End on a (suc m)

-- outward: it is complete where no node is missing
pub record NoneMissing (on : List ℕ) (m : ℕ) : Type 0 where
  pub none : m ≡ 0

abbrev pub Outward : List ℕ → List ℕ → List ℕ → List ℕ → ℕ → ℕ → Type 0
Outward starts heads cover = Completes (Joined starts heads) (Dropped cover) NoneMissing

-- inward, over the graph turned round: it is complete at that end where it can be completed outward from `last`
pub record OutwardFrom (starts heads cover : List ℕ) (last : ℕ) (on : List ℕ) (m : ℕ) : Type 0 where
  pub outward : Outward starts heads cover on last m

abbrev pub Inward : List ℕ → List ℕ → List ℕ → List ℕ → List ℕ → ℕ → List ℕ → ℕ → ℕ → Type 0
Inward starts heads starts' heads' cover last = Completes (Joined starts' heads') (Dropped cover) (OutwardFrom starts heads cover last)

-- a graph through which a search can go: its rows lie within the heads, and its heads are nodes
pub record Searchable (starts heads : List ℕ) (n : ℕ) : Type 0 where
  pub long : length starts ≡ n + 1
  pub rising : Rising starts heads
  pub inside : (p : ℕ) → p < length heads → get_or heads p 0 < n

-- a node that can come onto the path
pub record FreeNode (cover on : List ℕ) (v : ℕ) : Type 0 where
  pub dropped : Dropped cover v
  pub new : Mem v on → ⊥

-- r nodes can come onto the path at its outward end, and of up to `most` nodes no more can
pub record Longest (starts heads cover on : List ℕ) (last most r : ℕ) : Type 0 where
  pub reached : Outward starts heads cover on last r
  pub short : r ≤ most
  pub bound : (m : ℕ) → m ≤ most → Outward starts heads cover on last m → m ≤ r

-- where up to `most` nodes are missing, no more than r can come onto the path at its outward end
pub record Within (starts heads cover on : List ℕ) (last most r : ℕ) : Type 0 where
  pub bound : (m : ℕ) → m ≤ most → Outward starts heads cover on last m → m ≤ r
