-- The path under trial.
use Rattle.std.specs.Prelude.{◌≡◌, List, [], ◌∷◌, ◌++◌, ℕ, ◌+◌, ◌≤◌, ◌<◌, take, Option, MatchOption}
use Rattle.trails.specs.declared.Trail.{Trail}

-- the nodes on it
abbrev pub on_trail : Trail → List ℕ
on_trail t = take t.count.0 t.nodes

-- u is the path t with one node more
pub record Longer (t : Trail) (v : ℕ) (u : Trail) : Type 0 where
  pub nodes : on_trail u ≡ on_trail t ++ (v ∷ [])
  pub count : u.count.0 ≡ t.count.0 + 1

-- the path with one node more, or none where it is full
abbrev pub Pushes : Trail → ℕ → Option Trail → Type 0
Pushes t v r = MatchOption r (32 ≤ t.count.0) (λ u. (t.count.0 < 32) × Longer t v u)
