-- Wrong versions that the contract rules out.
use mathlib.Core.Path.{◌≡◌, refl, sym, ap, ◌∙◌}
use mathlib.Core.Logic.{inl, inr, ⊎_elim, ◌≢◌}
use mathlib.Core.List.{List, [], ◌∷◌}
use Prim.Native.Nat.{ℕ, ◌+◌}
use native.Mathlib.Omega.{arith}
use lib.ListN.{length, get_or}
use Rattle.paths.specs.Graphs.{Along, stop, step}
use Rattle.paths.specs.Lists.{Mem}
use Rattle.road.specs.Faults.{InSet}
use Rattle.road.specs.Counting.{times}
use Rattle.road.specs.Refusals.{None, Said, answer}
use Rattle.road.specs.Roads.{nodes_of, Arc, road}
use Rattle.road.proofs.Refusals.{first_not_none}
use Rattle.cover.specs.Calls.{Areas, Outcome, refused, covered, answered, faults_of}
use Rattle.rule.specs.Rule.{PathOf}
use Rattle.cover.proofs.Demands.{answer_of, every_path, every_point, one_keeps_all, above_drops_all}

-- It refuses everything: where nothing is at fault, the outcome is an answer.
pub accepted :
    {starts heads weights : List ℕ} {k : ℕ} {order : List ℕ} {before : Areas} {said : Said} {after : Areas} → Outcome starts heads weights k order before said after →
    None (faults_of starts heads weights k order before) → said.number ≡ 0
accepted {starts} {heads} {weights} {k} {order} {before} (refused {r = r} f) n = absurd (first_not_none (faults_of starts heads weights k order before) r f n)
accepted (covered m p) n = refl

-- A refusal touches a result: it leaves everything as it was.
pub refusal_leaves :
    {starts heads weights : List ℕ} {k : ℕ} {order : List ℕ} {before : Areas} {said : Said} {after : Areas} → Outcome starts heads weights k order before said after →
    said.number ≢ 0 → after ≡ before
refusal_leaves (refused f) n = refl
refusal_leaves (covered m p) n = absurd (n refl)

-- Work is left: after an answer all of it is zero.
pub work_zero :
    {starts heads weights : List ℕ} {k : ℕ} {order : List ℕ} {before : Areas} {said : Said} {after : Areas} → Outcome starts heads weights k order before said after →
    said.number ≡ 0 → after ≡ answered (nodes_of starts) (length heads) after.cover
work_zero o z = (answer_of o z).areas

-- A made-up count: it is that of the ones.
pub counts :
    {starts heads weights : List ℕ} {k : ℕ} {order : List ℕ} {before : Areas} {said : Said} {after : Areas} → Outcome starts heads weights k order before said after →
    said.number ≡ 0 → said ≡ answer (times 1 after.cover ∷ [])
counts o z = (answer_of o z).values

-- Pruning begins with no node, or nothing is written: with k = 1 one node is a point, whatever its byte was.
pub writes_nothing :
    {weights order : List ℕ} {before : Areas} {said : Said} {after : Areas} → Outcome (0 ∷ 0 ∷ []) [] weights 1 order before said after → said.number ≡ 0 → after.cover ≡ 0 ∷ [] → ⊥
writes_nothing o z e = omega (arith, ap (λ (l : List ℕ). get_or l 0 0) (sym e ∙ one_keeps_all (answer_of o z) refl))

-- Nothing is dropped, or the first node of the order is not judged: with k = 2 one node is no point.
pub drops_nothing :
    {weights order : List ℕ} {before : Areas} {said : Said} {after : Areas} → Outcome (0 ∷ 0 ∷ []) [] weights 2 order before said after → said.number ≡ 0 → after.cover ≡ 1 ∷ [] → ⊥
drops_nothing o z e = omega (arith, ap (λ (l : List ℕ). get_or l 0 0) (sym e ∙ above_drops_all (answer_of o z) (omega arith)))

-- It judges only the first node of the order: two nodes without arcs, k = 2, and the second is left.
pub first_only :
    {weights order : List ℕ} {before : Areas} {said : Said} {after : Areas} → Outcome (0 ∷ 0 ∷ 0 ∷ []) [] weights 2 order before said after → said.number ≡ 0 →
    after.cover ≡ 0 ∷ 1 ∷ [] → ⊥
first_only {weights} o z e = no_arc ((every_point (answer_of o z)).alone 1 (ap (λ (l : List ℕ). get_or l 1 0) e)).counts
  where
    no_arc : {l : List ℕ} → PathOf (road (0 ∷ 0 ∷ 0 ∷ []) [] weights) 2 l → ⊥
    no_arc c = by c.path.along (ap length (sym c.whole) ∙ c.nodes)
      where
        by : {a : ℕ} {r : List ℕ} {b w : ℕ} → Along (road (0 ∷ 0 ∷ 0 ∷ []) [] weights) a r b w → length (a ∷ r) ≡ 2 → ⊥
        by stop h = omega arith
        by (step s r) h = omega (arith, s.listed)

-- It extends the path at one end only: 0 to 1 to 2 in the order 0, 2, 1 with k = 3 would drop all three.
pub one_end_only :
    {order : List ℕ} {before : Areas} {said : Said} {after : Areas} → Outcome (0 ∷ 1 ∷ 2 ∷ 2 ∷ []) (1 ∷ 2 ∷ []) (1 ∷ 1 ∷ []) 3 order before said after → said.number ≡ 0 →
    after.cover ≡ 0 ∷ 0 ∷ 0 ∷ [] → ⊥
one_end_only {after = after} o z e = by ((every_path (answer_of o z)).meets (0 ∷ 1 ∷ 2 ∷ []) line)
  where
    zero_one : Arc (0 ∷ 1 ∷ 2 ∷ 2 ∷ []) (1 ∷ 2 ∷ []) (1 ∷ 1 ∷ []) 0 1 1
    zero_one = record { place = 0; listed = omega arith; owned = record { from = omega arith; below = omega arith }; head = refl; weight = refl }

    one_two : Arc (0 ∷ 1 ∷ 2 ∷ 2 ∷ []) (1 ∷ 2 ∷ []) (1 ∷ 1 ∷ []) 1 2 1
    one_two = record { place = 1; listed = omega arith; owned = record { from = omega arith; below = omega arith }; head = refl; weight = refl }

    line : PathOf (road (0 ∷ 1 ∷ 2 ∷ 2 ∷ []) (1 ∷ 2 ∷ []) (1 ∷ 1 ∷ [])) 3 (0 ∷ 1 ∷ 2 ∷ [])
    line =
        record {
          first = 0;
          after = 1 ∷ 2 ∷ [];
          last = 2;
          weight = 1 + (1 + 0);
          whole = refl;
          path =
              record {
                node = omega arith;
                along = step zero_one (step one_two stop);
                different = (
                  ⊎_elim (λ q. omega arith) (⊎_elim (λ q. omega arith) (λ q. q)),
                  (
                    ⊎_elim (λ q. omega arith) (λ q. q),
                    (
                      (λ q. q),
                      tt,
                    ),
                  ),
                );
              };
          nodes = refl;
        }

    at : (v : ℕ) → Mem v (0 ∷ 1 ∷ 2 ∷ []) → InSet (0 ∷ 0 ∷ 0 ∷ []) v → ⊥
    at v (inl q) i = omega (arith, ap (λ (x : ℕ). get_or {A = ℕ} (0 ∷ 0 ∷ 0 ∷ []) x 0) q)
    at v (inr (inl q)) i = omega (arith, ap (λ (x : ℕ). get_or {A = ℕ} (0 ∷ 0 ∷ 0 ∷ []) x 0) q)
    at v (inr (inr (inl q))) i = omega (arith, ap (λ (x : ℕ). get_or {A = ℕ} (0 ∷ 0 ∷ 0 ∷ []) x 0) q)
    at v (inr (inr (inr q))) i = q

    by : (v : ℕ) × Mem v (0 ∷ 1 ∷ 2 ∷ []) × InSet after.cover v → ⊥
    by p = at p.0 p.1 (ap (λ (l : List ℕ). get_or l p.0 0) (sym e) ∙ p.2)

-- It hits shortest paths only: on the Wedge with k = 2, {2} meets 0 to 2 and 2 to 1, but not the heavier 0 to 1.
pub shortest_only :
    {order : List ℕ} {before : Areas} {said : Said} {after : Areas} → Outcome (0 ∷ 2 ∷ 2 ∷ 3 ∷ []) (1 ∷ 2 ∷ 1 ∷ []) (10 ∷ 3 ∷ 4 ∷ []) 2 order before said after →
    said.number ≡ 0 → after.cover ≡ 0 ∷ 0 ∷ 1 ∷ [] → ⊥
shortest_only {after = after} o z e = by ((every_path (answer_of o z)).meets (0 ∷ 1 ∷ []) heavy)
  where
    zero_one : Arc (0 ∷ 2 ∷ 2 ∷ 3 ∷ []) (1 ∷ 2 ∷ 1 ∷ []) (10 ∷ 3 ∷ 4 ∷ []) 0 1 10
    zero_one = record { place = 0; listed = omega arith; owned = record { from = omega arith; below = omega arith }; head = refl; weight = refl }

    heavy : PathOf (road (0 ∷ 2 ∷ 2 ∷ 3 ∷ []) (1 ∷ 2 ∷ 1 ∷ []) (10 ∷ 3 ∷ 4 ∷ [])) 2 (0 ∷ 1 ∷ [])
    heavy =
        record {
          first = 0;
          after = 1 ∷ [];
          last = 1;
          weight = 10 + 0;
          whole = refl;
          path =
              record {
                node = omega arith;
                along = step zero_one stop;
                different = (⊎_elim (λ q. omega arith) (λ q. q), ((λ q. q), tt));
              };
          nodes = refl;
        }

    at : (v : ℕ) → Mem v (0 ∷ 1 ∷ []) → InSet (0 ∷ 0 ∷ 1 ∷ []) v → ⊥
    at v (inl q) i = omega (arith, ap (λ (x : ℕ). get_or {A = ℕ} (0 ∷ 0 ∷ 1 ∷ []) x 0) q)
    at v (inr (inl q)) i = omega (arith, ap (λ (x : ℕ). get_or {A = ℕ} (0 ∷ 0 ∷ 1 ∷ []) x 0) q)
    at v (inr (inr q)) i = q

    by : (v : ℕ) × Mem v (0 ∷ 1 ∷ []) × InSet after.cover v → ⊥
    by p = at p.0 p.1 (ap (λ (l : List ℕ). get_or l p.0 0) (sym e) ∙ p.2)
