-- The graph, the same turned round and the bytes, ready for pruning.
use mathlib.Core.Path.{◌≡◌, ◌∙◌}
use mathlib.Core.List.{List}
use Prim.Native.Nat.{ℕ, ◌<◌}
use native.Mathlib.Omega.{arith}
use lib.ListN.{length, get_or}
use Rattle.paths.specs.Lists.{Each}
use Rattle.paths.proofs.Lists.{each_mem, mem_at}
use Rattle.road.specs.Limits.{overlay_limits}
use Rattle.trails.specs.workings.Search.{Searchable}
use Rattle.trails.proofs.Searching.{searchable}
use Rattle.pieces.specs.workings.Steps.{Prunable}

module _ (starts heads weights starts' heads' weights' cover : List ℕ) (g : Prunable starts heads weights starts' heads' weights' cover) where
  pub search_forth : Searchable starts heads (length cover)
  search_forth = searchable overlay_limits starts heads weights (length cover) g.sound g.bytes

  pub search_back : Searchable starts' heads' (length cover)
  search_back = searchable overlay_limits starts' heads' weights' (length cover) (g.turned.sound overlay_limits g.sound) (omega (arith, g.bytes, g.as_long))

-- the bytes change and stay as many
pub prunable_still :
    (starts heads weights starts' heads' weights' cover after : List ℕ) → Prunable starts heads weights starts' heads' weights' cover → length after ≡ length cover →
    Prunable starts heads weights starts' heads' weights' after
prunable_still starts heads weights starts' heads' weights' cover after g e =
    record { sound = g.sound; turned = g.turned; as_long = g.as_long; bytes = e ∙ g.bytes }

pub node_at : (order cover after : List ℕ) (i : ℕ) → Each (λ (v : ℕ). v < length cover) order → length after ≡ length cover → i < length order → get_or order i 0 < length after
node_at order cover after i f e h = omega (arith, each_mem (λ (v : ℕ). v < length cover) (get_or order i 0) order f (mem_at order i h))
