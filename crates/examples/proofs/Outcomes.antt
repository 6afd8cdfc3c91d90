-- What the calls say on the examples: an answer is the one that is claimed, and no other.
--   covers_so, answers_so     of any claim
--   points_of_line            P3: not all nodes, not none, not what judging the first alone leaves, and no made-up count
--   over_the_wedge            P11: no part of a sum is left out, and the way over the set is not forgotten
use mathlib.Core.Path.{◌≡◌, ap, ◌∙◌}
use mathlib.Core.List.{List, [], ◌∷◌}
use Prim.Native.Nat.{ℕ}
use Rattle.road.specs.Counting.{times}
use Rattle.road.specs.Refusals.{Said, answer}
use Rattle.rule.proofs.Rules.{prunes_one}
use Rattle.cover.specs.Calls as covering
use Rattle.cover.proofs.Demands.{answer_of}
use Rattle.distance.specs.Calls.{PairAreas, PairOutcome}
use Rattle.distance.proofs.Demands.{answers_one}
use Rattle.distance.proofs.Forbidden.{pair_answered}
use Rattle.examples.specs.Claims.{CoverIs, AnswerIs}
use Rattle.examples.specs.Examples.{ascending, only_two, way}
use Rattle.examples.specs.Graphs.{Lent, line, wedge, no_arc}
use Rattle.examples.proofs.AllRight.{all_right}

pub covers_so :
    (g : Lent) (k : ℕ) (order bytes : List ℕ) (count : ℕ) → CoverIs g k order bytes count → {before : covering.Areas} {said : Said} {after : covering.Areas} →
    covering.Outcome g.starts g.heads g.weights k order before said after → said.number ≡ 0 → (said ≡ answer (count ∷ [])) × (after.cover ≡ bytes)
covers_so g k order bytes count c o z =
    let a = answer_of o z in
    let e = prunes_one a.pruned c.pruned in
    (a.values ∙ ap (λ (l : List ℕ). answer (times 1 l ∷ [])) e ∙ ap (λ (n : ℕ). answer (n ∷ [])) c.counted, e)

pub answers_so :
    (g : Lent) (set : List ℕ) (o : Lent) (s t : ℕ) (told : Said) → AnswerIs g set o s t told → {before : PairAreas} {said : Said} {after : PairAreas} →
    PairOutcome g.starts g.heads g.weights set o.starts o.heads o.weights s t before said after → said.number ≡ 0 → said ≡ told
answers_so g set o s t told a x z = answers_one (pair_answered x z) a.answers

module _ {before : covering.Areas} {said : Said} {after : covering.Areas} where
  pub points_of_line :
      covering.Outcome line.starts line.heads line.weights 2 ascending before said after → said.number ≡ 0 →
      (said ≡ answer (2 ∷ [])) × (after.cover ≡ 0 ∷ 1 ∷ 0 ∷ 1 ∷ 0 ∷ [])
  points_of_line = covers_so line 2 ascending (0 ∷ 1 ∷ 0 ∷ 1 ∷ 0 ∷ []) 2 all_right.1.1.0.0

module _ {before : PairAreas} {said : Said} {after : PairAreas} where
  pub over_the_wedge :
      PairOutcome wedge.starts wedge.heads wedge.weights only_two no_arc.starts no_arc.heads no_arc.weights 0 1 before said after → said.number ≡ 0 → said ≡ way 7
  over_the_wedge = answers_so wedge only_two no_arc 0 1 (way 7) all_right.1.1.1.1.1.1.1.1.1.1.0.0
