-- The two questions. Paths are those of the graphs; nothing here says how they are found.
use Rattle.std.specs.Prelude.{◌≡◌, List, ◌∷◌, ℕ, ◌+◌}
use Rattle.paths.specs.Graphs.{Graph, IsPath, Reaches, Any}
use Rattle.paths.specs.Lists.{Mem}
use Rattle.road.specs.Faults.{InSet}
use Rattle.overlay.specs.Overlays.{Outside}

-- the handheld question: w is the weight of a path of the overlay from s to t
abbrev pub Handheld : Graph → ℕ → ℕ → ℕ → Type 0
Handheld O s t w = Reaches O Any s t w

-- a path from s to t of weight w on which c is the only node of the set
pub record Lone (G : Graph) (chosen : List ℕ) (c s t w : ℕ) : Type 0 where
  pub after : List ℕ
  pub path : IsPath G s after t w
  pub only : (v : ℕ) → Mem v (s ∷ after) → InSet chosen v → v ≡ c

-- a way in, from s to the node a of the set: s itself at 0 where s is in the set, and otherwise a path on which a is the only node of the set
pub data WayIn (G : Graph) (chosen : List ℕ) (s a x : ℕ) : Type 0 where
  itself : InSet chosen s → a ≡ s → x ≡ 0 → WayIn G chosen s a x
  reached : (InSet chosen s → ⊥) → InSet chosen a → Lone G chosen a s a x → WayIn G chosen s a x

-- a way out, from the node b of the set to t: the same, paths running into t
pub data WayOut (G : Graph) (chosen : List ℕ) (b t z : ℕ) : Type 0 where
  itself : InSet chosen t → b ≡ t → z ≡ 0 → WayOut G chosen b t z
  reached : (InSet chosen t → ⊥) → InSet chosen b → Lone G chosen b b t z → WayOut G chosen b t z

-- the any-pair question: w is the weight of a path of the road from s to t with no node of the set strictly inside, or the sum of a way in,
-- a path of the overlay, and a way out
pub data AnyPair (G O : Graph) (chosen : List ℕ) (s t w : ℕ) : Type 0 where
  direct : Reaches G (Outside chosen) s t w → AnyPair G O chosen s t w
  over : (a b x y z : ℕ) → WayIn G chosen s a x → Reaches O Any a b y → WayOut G chosen b t z → w ≡ x + y + z → AnyPair G O chosen s t w
