-- Wrong rows of labels that the contract of the search rules out, on two nodes and an arc from 0 to 1.
use mathlib.Core.Path.{◌≡◌, refl}
use mathlib.Core.Logic.{⊎_elim}
use mathlib.Core.List.{List, [], ◌∷◌}
use Prim.Native.Nat.{ℕ, suc, ◌+◌}
use native.Mathlib.Omega.{arith}
use Rattle.paths.specs.Graphs.{stop, step, Reaches}
use Rattle.road.specs.Roads.{Arc, road}
use Rattle.search.specs.workings.Rows.{Free, Row, label_at}

module _ (w : ℕ) (blocked labels : List ℕ) (r : Row (road (0 ∷ 1 ∷ 1 ∷ []) (1 ∷ []) (w ∷ [])) blocked 0 labels) where
  arc : Arc (0 ∷ 1 ∷ 1 ∷ []) (1 ∷ []) (w ∷ []) 0 1 w
  arc = record { place = 0; listed = omega arith; owned = record { from = omega arith; below = omega arith }; head = refl; weight = refl }

  path : Reaches (road (0 ∷ 1 ∷ 1 ∷ []) (1 ∷ []) (w ∷ [])) (Free blocked) 0 1 (w + 0)
  path =
      record {
        after = 1 ∷ [];
        path = record { node = omega arith; along = step arc stop; different = (⊎_elim (λ q. omega arith) (λ q. q), ((λ q. q), tt)) };
        inner = tt;
      }

  -- it ends while a node still waits
  pub still_waiting : label_at labels 1 ≡ 0 → ⊥
  still_waiting e = ((r.told 1 (omega arith)).none e).none (w + 0) path

  -- another number is added for the arc's weight, a larger one
  pub other_weight : (d : ℕ) → label_at labels 1 ≡ suc (w + suc d) → ⊥
  other_weight d e = omega (arith, ((r.told 1 (omega arith)).some (w + suc d) e).least (w + 0) path)
