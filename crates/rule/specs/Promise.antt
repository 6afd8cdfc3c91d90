-- What a cover promises, over the paths that count.
use Rattle.std.specs.Prelude.{◌≡◌, List, ℕ}
use Rattle.paths.specs.Lists.{Mem}
use Rattle.road.specs.Faults.{InSet}

-- every path that counts has a point on it
pub record Covers (Counts : List ℕ → Type 0) (cover : List ℕ) : Type 0 where
  pub meets : (path : List ℕ) → Counts path → (v : ℕ) × Mem v path × InSet cover v

-- a path that counts, on which v is the only point
pub record Alone (Counts : List ℕ → Type 0) (cover : List ℕ) (v : ℕ) : Type 0 where
  pub path : List ℕ
  pub counts : Counts path
  pub on : Mem v path
  pub only : (x : ℕ) → Mem x path → InSet cover x → x ≡ v

-- each point has such a path
pub record Tight (Counts : List ℕ → Type 0) (cover : List ℕ) : Type 0 where
  pub alone : (v : ℕ) → InSet cover v → Alone Counts cover v
