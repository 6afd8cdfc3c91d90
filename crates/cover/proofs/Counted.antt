-- Counting the dropped nodes.
use mathlib.Core.Path.{◌≡◌, refl, ap}
use mathlib.Core.Bool.{Bool, true, false, cond}
use mathlib.Core.List.{List}
use Prim.Native.Nat.{ℕ, ◌+◌, ◌≤◌, ◌<◌}
use native.Mathlib.Omega.{arith}
use borrow.Author.Tests.{ltb-true}
use lib.Dec.{eqb, ltb}
use lib.ListN.{length, take}
use lib.Seq.{take_all}
use Rattle.std.specs.List.{count_by}
use Rattle.std.proofs.lemmas.List.Recursion.{is_count_by}
use Rattle.road.specs.Counting.{bit, times}
use Rattle.road.specs.Limits.{overlay_limits}
use Rattle.road.specs.Roads.{road}
use Rattle.road.proofs.Faults.{road_proper}
use Rattle.rule.specs.Rule.{Needed, PathOf}
use Rattle.rule.proofs.Few.{few_unneeded}
use Rattle.pieces.specs.workings.Steps.{Prunable}
use Rattle.cover.specs.workings.Few.{Few}

-- the same count as std's
pub times_counted : (v : ℕ) (l : List ℕ) → times v l ≡ count_by (λ x. eqb x v) l
times_counted v l = is_count_by (times v) (λ x. eqb x v) refl (λ x m. one (eqb x v) (times v m)) l
  where
    one : (b : Bool) (n : ℕ) → bit b + n ≡ cond b (1 + n) n
    one true n = omega arith
    one false n = omega arith

pub counted_few : (cover : List ℕ) (k nodes i : ℕ) → nodes ≡ times 0 (take i cover) + 1 → length cover ≤ i → Few (ltb nodes k) cover k
counted_few cover k nodes i e h = record { fewer = λ t. omega (arith, ltb-true nodes k t, ap (times 0) (take_all i cover h)) }

-- then v is not needed
pub few_stays_not :
    (starts heads weights starts' heads' weights' cover : List ℕ) (k v : ℕ) (few : Bool) → Prunable starts heads weights starts' heads' weights' cover → v < length cover →
    Few few cover k → few ≡ true → Needed (PathOf (road starts heads weights) k) cover v → ⊥
few_stays_not starts heads weights starts' heads' weights' cover k v few g h f e =
    few_unneeded (road starts heads weights) (road_proper overlay_limits starts heads weights g.sound) k cover v g.bytes h (f.fewer e)
