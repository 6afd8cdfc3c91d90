-- Wrong versions that the contracts rule out.
use mathlib.Core.Path.{◌≡◌, refl, ap, subst, ◌∙◌}
use mathlib.Core.Logic.{inl, inr, ⊎_elim, ◌≢◌}
use mathlib.Core.List.{List, [], ◌∷◌}
use Prim.Native.Nat.{ℕ, zero, suc, ◌+◌, ◌*◌, ◌≤◌, ◌<◌}
use native.Mathlib.Omega.{arith}
use lib.ListN.{length, get_or}
use Rattle.paths.specs.Graphs.{Graph, Along, stop, step, Reaches, Any}
use Rattle.paths.specs.Least.{Least, Empty}
use Rattle.paths.specs.Lists.{Mem, Inside}
use Rattle.road.specs.Faults.{InSet}
use Rattle.road.specs.Refusals.{None, Said, answer}
use Rattle.road.specs.Roads.{nodes_of, Owns, Arc, road}
use Rattle.road.proofs.Refusals.{first_not_none, number_some}
use Rattle.road.proofs.Rows.{owner_node}
use Rattle.overlay.specs.Overlays.{Outside}
use Rattle.distance.specs.Calls.{Answers, way, no_way, HandAreas, HandOutcome, hand_faults, hand_cleared, PairAreas, PairOutcome, pair_faults, pair_cleared}
use Rattle.distance.specs.Questions.{Handheld, AnyPair, Lone, WayIn, WayOut}

-- what an answer says of the weights
least_of : {P : ℕ → Type 0} {said : Said} → Answers P said → (d : ℕ) → said ≡ answer (1 ∷ d ∷ []) → Least P d
least_of {P} (way l) d q = subst (λ (e : ℕ). Least P e) (ap (λ (s : Said). get_or s.values 1 0) q) l
least_of (no_way n) d q = absurd (omega (arith, ap (λ (s : Said). get_or s.values 0 0) q))

none_of : {P : ℕ → Type 0} {said : Said} → Answers P said → said ≡ answer (0 ∷ []) → Empty P
none_of (way l) q = absurd (omega (arith, ap (λ (s : Said). get_or s.values 0 0) q))
none_of (no_way n) q = n

module _ {chosen starts heads weights : List ℕ} {s t : ℕ} {before : HandAreas} where
  -- The handheld question refuses everything: where nothing is at fault, the outcome is an answer.
  pub hand_accepted :
      {said : Said} {after : HandAreas} → HandOutcome chosen starts heads weights s t before said after → None (hand_faults chosen starts heads weights s t before) → said.number ≡ 0
  hand_accepted (HandOutcome.refused {r = r} f) n = absurd (first_not_none (hand_faults chosen starts heads weights s t before) r f n)
  hand_accepted (HandOutcome.answered m (way l)) n = refl
  hand_accepted (HandOutcome.answered m (no_way e)) n = refl

  -- A refusal touches something: it leaves everything as it was.
  pub hand_refusal_leaves : {said : Said} {after : HandAreas} → HandOutcome chosen starts heads weights s t before said after → said.number ≢ 0 → after ≡ before
  hand_refusal_leaves (HandOutcome.refused f) n = refl
  hand_refusal_leaves (HandOutcome.answered m (way l)) n = absurd (n refl)
  hand_refusal_leaves (HandOutcome.answered m (no_way e)) n = absurd (n refl)

  -- Work is left: after an answer all of it is zero.
  pub hand_work_zero : {said : Said} {after : HandAreas} → HandOutcome chosen starts heads weights s t before said after → said.number ≡ 0 → after ≡ hand_cleared (length chosen)
  hand_work_zero (HandOutcome.refused {r = r} f) z = absurd (number_some r z)
  hand_work_zero (HandOutcome.answered m a) z = refl

  pub hand_answer : {said : Said} {after : HandAreas} → HandOutcome chosen starts heads weights s t before said after → said.number ≡ 0 → Answers (Handheld (road starts heads weights) s t) said
  hand_answer (HandOutcome.refused {r = r} f) z = absurd (number_some r z)
  hand_answer (HandOutcome.answered m a) z = a

module _ {starts heads weights chosen starts' heads' weights' : List ℕ} {s t : ℕ} {before : PairAreas} where
  -- The same of the any-pair question.
  pub pair_accepted :
      {said : Said} {after : PairAreas} → PairOutcome starts heads weights chosen starts' heads' weights' s t before said after →
      None (pair_faults starts heads weights chosen starts' heads' weights' s t before) → said.number ≡ 0
  pair_accepted (PairOutcome.refused {r = r} f) n = absurd (first_not_none (pair_faults starts heads weights chosen starts' heads' weights' s t before) r f n)
  pair_accepted (PairOutcome.answered m (way l)) n = refl
  pair_accepted (PairOutcome.answered m (no_way e)) n = refl

  pub pair_refusal_leaves : {said : Said} {after : PairAreas} → PairOutcome starts heads weights chosen starts' heads' weights' s t before said after → said.number ≢ 0 → after ≡ before
  pair_refusal_leaves (PairOutcome.refused f) n = refl
  pair_refusal_leaves (PairOutcome.answered m (way l)) n = absurd (n refl)
  pair_refusal_leaves (PairOutcome.answered m (no_way e)) n = absurd (n refl)

  pub pair_work_zero :
      {said : Said} {after : PairAreas} → PairOutcome starts heads weights chosen starts' heads' weights' s t before said after → said.number ≡ 0 → after ≡ pair_cleared (nodes_of starts) (length heads)
  pair_work_zero (PairOutcome.refused {r = r} f) z = absurd (number_some r z)
  pair_work_zero (PairOutcome.answered m a) z = refl

  pub pair_answered :
      {said : Said} {after : PairAreas} → PairOutcome starts heads weights chosen starts' heads' weights' s t before said after → said.number ≡ 0 →
      Answers (AnyPair (road starts heads weights) (road starts' heads' weights') chosen s t) said
  pair_answered (PairOutcome.refused {r = r} f) z = absurd (number_some r z)
  pair_answered (PairOutcome.answered m a) z = a

-- the path of one node
alone : (G : Graph) (P : ℕ → Type 0) (s : ℕ) → s < G.nodes → Reaches G P s s 0
alone G P s h = record { after = []; path = record { node = h; along = stop; different = ((λ q. q), tt) }; inner = tt }

-- From a node to itself it is something else than 0, or no way.
pub hand_itself :
    {chosen starts heads weights : List ℕ} {s d : ℕ} {before after : HandAreas} → HandOutcome chosen starts heads weights s s before (answer (1 ∷ d ∷ [])) after →
    s < nodes_of starts → d ≡ 0
hand_itself {starts = starts} {heads = heads} {weights = weights} {s = s} {d = d} o h =
    omega (arith, (least_of (hand_answer o refl) d refl).least 0 (alone (road starts heads weights) Any s h))

pub hand_itself_way :
    {chosen starts heads weights : List ℕ} {s : ℕ} {before after : HandAreas} → HandOutcome chosen starts heads weights s s before (answer (0 ∷ [])) after →
    s < nodes_of starts → ⊥
hand_itself_way {starts = starts} {heads = heads} {weights = weights} {s = s} o h = (none_of (hand_answer o refl) refl).none 0 (alone (road starts heads weights) Any s h)

pub pair_itself :
    {starts heads weights chosen starts' heads' weights' : List ℕ} {s d : ℕ} {before after : PairAreas} →
    PairOutcome starts heads weights chosen starts' heads' weights' s s before (answer (1 ∷ d ∷ [])) after → s < nodes_of starts → d ≡ 0
pair_itself {starts = starts} {heads = heads} {weights = weights} {chosen = chosen} {s = s} {d = d} o h =
    omega (arith, (least_of (pair_answered o refl) d refl).least 0 (AnyPair.direct (alone (road starts heads weights) (Outside chosen) s h)))

pub pair_itself_way :
    {starts heads weights chosen starts' heads' weights' : List ℕ} {s : ℕ} {before after : PairAreas} →
    PairOutcome starts heads weights chosen starts' heads' weights' s s before (answer (0 ∷ [])) after → s < nodes_of starts → ⊥
pair_itself_way {starts = starts} {heads = heads} {weights = weights} {chosen = chosen} {s = s} o h =
    (none_of (pair_answered o refl) refl).none 0 (AnyPair.direct (alone (road starts heads weights) (Outside chosen) s h))

-- Three nodes in a row, 0 to 1 to 2, with these weights: each arc leads to the next node.
module _ (first second : ℕ) where
  abbrev Row : Graph
  Row = road (0 ∷ 1 ∷ 2 ∷ 2 ∷ []) (1 ∷ 2 ∷ []) (first ∷ second ∷ [])

  next : (u p : ℕ) → Owns (0 ∷ 1 ∷ 2 ∷ 2 ∷ []) u p → p < 2 → (v : ℕ) → get_or {A = ℕ} (1 ∷ 2 ∷ []) p 0 ≡ v → v ≡ u + 1
  next zero zero o h v e = omega arith
  next (suc zero) zero o h v e = absurd (omega (arith, o.from))
  next (suc (suc zero)) zero o h v e = absurd (omega (arith, o.from))
  next (suc (suc (suc u))) zero o h v e = absurd (omega (arith, owner_node (0 ∷ 1 ∷ 2 ∷ 2 ∷ []) (suc (suc (suc u))) zero o))
  next zero (suc zero) o h v e = absurd (omega (arith, o.below))
  next (suc zero) (suc zero) o h v e = omega arith
  next (suc (suc zero)) (suc zero) o h v e = absurd (omega (arith, o.from))
  next (suc (suc (suc u))) (suc zero) o h v e = absurd (omega (arith, owner_node (0 ∷ 1 ∷ 2 ∷ 2 ∷ []) (suc (suc (suc u))) (suc zero) o))
  next u (suc (suc p)) o h v e = absurd (omega arith)

  leads : {u v w : ℕ} → Arc (0 ∷ 1 ∷ 2 ∷ 2 ∷ []) (1 ∷ 2 ∷ []) (first ∷ second ∷ []) u v w → v ≡ u + 1
  leads {u = u} {v = v} a = next u a.place a.owned a.listed v a.head

  zero_one : Arc (0 ∷ 1 ∷ 2 ∷ 2 ∷ []) (1 ∷ 2 ∷ []) (first ∷ second ∷ []) 0 1 first
  zero_one = record { place = 0; listed = omega arith; owned = record { from = omega arith; below = omega arith }; head = refl; weight = refl }

-- the overlay's row of three nodes, each arc as heavy as one may be
abbrev heaviest : ℕ
heaviest = 4095000000

heavy : (p : ℕ) → p < 2 → (w : ℕ) → get_or {A = ℕ} (heaviest ∷ heaviest ∷ []) p 0 ≡ w → w ≡ heaviest
heavy zero h w e = omega arith
heavy (suc zero) h w e = omega arith
heavy (suc (suc p)) h w e = absurd (omega arith)

-- a path in it comes as far as it has arcs, and weighs as many times an arc
far : {a b d : ℕ} {l : List ℕ} → Along (Row heaviest heaviest) a l b d → (b ≡ a + length l) × (d ≡ length l * heaviest)
far stop = (omega arith, omega arith)
far (step {w = w} s r) =
    let i = far r in
    let n = leads heaviest heaviest s in
    let h = heavy s.place s.listed w s.weight in
    (omega (arith, i.0), omega (arith, i.1))

module _ {before after : HandAreas} where
  -- A fixed "no way": from 0 to 1 there is one.
  pub fixed_no_way :
      HandOutcome (1 ∷ 1 ∷ 1 ∷ []) (0 ∷ 1 ∷ 2 ∷ 2 ∷ []) (1 ∷ 2 ∷ []) (heaviest ∷ heaviest ∷ []) 0 1 before (answer (0 ∷ [])) after → ⊥
  fixed_no_way o =
      (none_of (hand_answer o refl) refl).none (heaviest + 0)
      (record {
        after = 1 ∷ [];
        path = record { node = omega arith; along = step (zero_one heaviest heaviest) stop; different = (⊎_elim (λ q. omega arith) (λ q. q), ((λ q. q), tt)) };
        inner = tt;
      })

  -- A fixed number: from 0 to 1 it is 4,095,000,000 and no other, and from 1 to 0 there is none.
  pub fixed_number :
      {d : ℕ} → HandOutcome (1 ∷ 1 ∷ 1 ∷ []) (0 ∷ 1 ∷ 2 ∷ 2 ∷ []) (1 ∷ 2 ∷ []) (heaviest ∷ heaviest ∷ []) 0 1 before (answer (1 ∷ d ∷ [])) after → d ≡ heaviest
  fixed_number {d} o = let f = far (least_of (hand_answer o refl) d refl).is.path.along in omega (arith, f.0, f.1)

  pub no_way_back :
      {d : ℕ} → HandOutcome (1 ∷ 1 ∷ 1 ∷ []) (0 ∷ 1 ∷ 2 ∷ 2 ∷ []) (1 ∷ 2 ∷ []) (heaviest ∷ heaviest ∷ []) 1 0 before (answer (1 ∷ d ∷ [])) after → ⊥
  no_way_back {d} o = let f = far (least_of (hand_answer o refl) d refl).is.path.along in omega (arith, f.0)

  -- Sums in 32 bits: from 0 to 2 it is 8,190,000,000, which 32 bits do not hold.
  pub past_32_bits :
      {d : ℕ} → HandOutcome (1 ∷ 1 ∷ 1 ∷ []) (0 ∷ 1 ∷ 2 ∷ 2 ∷ []) (1 ∷ 2 ∷ []) (heaviest ∷ heaviest ∷ []) 0 2 before (answer (1 ∷ d ∷ [])) after →
      (d ≡ 8190000000) × (4294967296 ≤ d)
  past_32_bits {d} o = let f = far (least_of (hand_answer o refl) d refl).is.path.along in (omega (arith, f.0, f.1), omega (arith, f.0, f.1))

-- Wedge of document 01
abbrev Wedge : Graph
Wedge = road (0 ∷ 2 ∷ 2 ∷ 3 ∷ []) (1 ∷ 2 ∷ 1 ∷ []) (10 ∷ 3 ∷ 4 ∷ [])

module _ {before after : PairAreas} where
  -- The direct way is forgotten: with no node in the set there is no other.
  pub direct_forgotten :
      PairOutcome (0 ∷ 1 ∷ 2 ∷ 2 ∷ []) (1 ∷ 2 ∷ []) (5 ∷ 5 ∷ []) (0 ∷ 0 ∷ 0 ∷ []) (0 ∷ 0 ∷ 0 ∷ 0 ∷ []) [] [] 0 1 before (answer (0 ∷ [])) after → ⊥
  direct_forgotten o =
      (none_of (pair_answered o refl) refl).none (5 + 0)
      (AnyPair.direct
      (record {
        after = 1 ∷ [];
        path = record { node = omega arith; along = step (zero_one 5 5) stop; different = (⊎_elim (λ q. omega arith) (λ q. q), ((λ q. q), tt)) };
        inner = tt;
      }))

  -- The way through the overlay is forgotten, or it is not looked for once t is met: on the Wedge with the set {2} the way from 0 to 1 over
  -- 2 weighs 7, and the direct one 10.
  pub overlay_forgotten :
      PairOutcome (0 ∷ 2 ∷ 2 ∷ 3 ∷ []) (1 ∷ 2 ∷ 1 ∷ []) (10 ∷ 3 ∷ 4 ∷ []) (0 ∷ 0 ∷ 1 ∷ []) (0 ∷ 0 ∷ 0 ∷ 0 ∷ []) [] [] 0 1 before (answer (1 ∷ 10 ∷ [])) after → ⊥
  overlay_forgotten o = omega (arith, (least_of (pair_answered o refl) 10 refl).least 7 over_two)
    where
      zero_two : Arc (0 ∷ 2 ∷ 2 ∷ 3 ∷ []) (1 ∷ 2 ∷ 1 ∷ []) (10 ∷ 3 ∷ 4 ∷ []) 0 2 3
      zero_two = record { place = 1; listed = omega arith; owned = record { from = omega arith; below = omega arith }; head = refl; weight = refl }

      two_one : Arc (0 ∷ 2 ∷ 2 ∷ 3 ∷ []) (1 ∷ 2 ∷ 1 ∷ []) (10 ∷ 3 ∷ 4 ∷ []) 2 1 4
      two_one = record { place = 2; listed = omega arith; owned = record { from = omega arith; below = omega arith }; head = refl; weight = refl }

      outside : (v : ℕ) → v ≢ 2 → InSet (0 ∷ 0 ∷ 1 ∷ []) v → ⊥
      outside zero n i = omega arith
      outside (suc zero) n i = omega arith
      outside (suc (suc zero)) n i = n refl
      outside (suc (suc (suc v))) n i = omega arith

      on_way_in : (v : ℕ) → Mem v (0 ∷ 2 ∷ []) → InSet (0 ∷ 0 ∷ 1 ∷ []) v → v ≡ 2
      on_way_in v (inl q) i = absurd (outside v (λ e. omega (arith, e, q)) i)
      on_way_in v (inr (inl q)) i = q
      on_way_in v (inr (inr q)) i = absurd q

      on_way_out : (v : ℕ) → Mem v (2 ∷ 1 ∷ []) → InSet (0 ∷ 0 ∷ 1 ∷ []) v → v ≡ 2
      on_way_out v (inl q) i = q
      on_way_out v (inr (inl q)) i = absurd (outside v (λ e. omega (arith, e, q)) i)
      on_way_out v (inr (inr q)) i = absurd q

      way_in : Lone Wedge (0 ∷ 0 ∷ 1 ∷ []) 2 0 2 (3 + 0)
      way_in =
          record {
            after = 2 ∷ [];
            path = record { node = omega arith; along = step zero_two stop; different = (⊎_elim (λ q. omega arith) (λ q. q), ((λ q. q), tt)) };
            only = on_way_in;
          }

      way_out : Lone Wedge (0 ∷ 0 ∷ 1 ∷ []) 2 2 1 (4 + 0)
      way_out =
          record {
            after = 1 ∷ [];
            path = record { node = omega arith; along = step two_one stop; different = (⊎_elim (λ q. omega arith) (λ q. q), ((λ q. q), tt)) };
            only = on_way_out;
          }

      over_two : AnyPair Wedge (road (0 ∷ 0 ∷ 0 ∷ 0 ∷ []) [] []) (0 ∷ 0 ∷ 1 ∷ []) 0 1 7
      over_two =
          AnyPair.over 2 2 (3 + 0) 0 (4 + 0) (WayIn.reached (outside 0 (λ e. omega (arith, e))) refl way_in)
          (alone (road (0 ∷ 0 ∷ 0 ∷ 0 ∷ []) [] []) Any 2 (omega arith)) (WayOut.reached (outside 1 (λ e. omega (arith, e))) refl way_out) refl

-- A node of the set strictly inside is allowed, on the way in or on the direct way: on the row of three with the set {1, 2} and an overlay of
-- no arc, all that leads from 0 to 2 leads over 1.
abbrev last_two : List ℕ
last_two = 0 ∷ 1 ∷ 1 ∷ []

in_set : (v : ℕ) → v ≡ 1 → InSet last_two v
in_set v e = ap (λ (x : ℕ). get_or {A = ℕ} (0 ∷ 1 ∷ 1 ∷ []) x 0) e

inside_met : {a b d : ℕ} {l : List ℕ} → Along (Row 1 1) a l b d → a ≡ 0 → b ≡ 2 → Inside (Outside last_two) l → ⊥
inside_met stop e f i = omega (arith, e, f)
inside_met (step s stop) e f i = omega (arith, leads 1 1 s, e, f)
inside_met (step {x = x} s (step u r)) e f i = i.0 (in_set x (omega (arith, leads 1 1 s, e)))

only_met : {a b c d : ℕ} {l : List ℕ} → Along (Row 1 1) a l b d → a ≡ 0 → b ≡ 2 → c ≡ 2 → ((v : ℕ) → Mem v (a ∷ l) → InSet last_two v → v ≡ c) → ⊥
only_met stop e f g o = omega (arith, e, f)
only_met (step s stop) e f g o = omega (arith, leads 1 1 s, e, f)
only_met (step {x = x} s (step u r)) e f g o =
    let one : x ≡ 1 = omega (arith, leads 1 1 s, e) in
    omega (arith, o x (inr (inl refl)) (in_set x one), one, g)

no_arc : {a b d : ℕ} {l : List ℕ} → Along (road (0 ∷ 0 ∷ 0 ∷ 0 ∷ []) [] []) a l b d → a ≡ b
no_arc stop = refl
no_arc (step s r) = absurd (omega (arith, s.listed))

entered : (a x : ℕ) → a ≡ 2 → WayIn (Row 1 1) last_two 0 a x → ⊥
entered a x e (WayIn.itself i q z) = omega (arith, i)
entered a x e (WayIn.reached n i l) = only_met l.path.along refl e e l.only

left_at : (b z : ℕ) → WayOut (Row 1 1) last_two b 2 z → b ≡ 2
left_at b z (WayOut.itself i q e) = q
left_at b z (WayOut.reached n i l) = absurd (n refl)

no_pair : (w : ℕ) → AnyPair (Row 1 1) (road (0 ∷ 0 ∷ 0 ∷ 0 ∷ []) [] []) last_two 0 2 w → ⊥
no_pair w (AnyPair.direct r) = inside_met r.path.along refl refl r.inner
no_pair w (AnyPair.over a b x y z i r o e) = entered a x (no_arc r.path.along ∙ left_at b z o) i

pub set_node_inside :
    {before after : PairAreas} {d : ℕ} →
    PairOutcome (0 ∷ 1 ∷ 2 ∷ 2 ∷ []) (1 ∷ 2 ∷ []) (1 ∷ 1 ∷ []) last_two (0 ∷ 0 ∷ 0 ∷ 0 ∷ []) [] [] 0 2 before (answer (1 ∷ d ∷ [])) after → ⊥
set_node_inside {d = d} o = no_pair d (least_of (pair_answered o refl) d refl).is

-- For s in the set another entry than s is taken: with all three nodes in the set, a road arc from 0 to 1 and, from another graph, an overlay
-- arc from 1 to 2, there is no way from 0 to 2.
abbrev all_three : List ℕ
all_three = 1 ∷ 1 ∷ 1 ∷ []

abbrev One : Graph
One = road (0 ∷ 1 ∷ 1 ∷ 1 ∷ []) (1 ∷ []) (1 ∷ [])

abbrev Foreign : Graph
Foreign = road (0 ∷ 0 ∷ 1 ∷ 1 ∷ []) (2 ∷ []) (1 ∷ [])

to_one : (p : ℕ) → p < 1 → (v : ℕ) → get_or {A = ℕ} (1 ∷ []) p 0 ≡ v → v ≡ 1
to_one zero h v e = omega arith
to_one (suc p) h v e = absurd (omega arith)

not_from_one : {a b d : ℕ} {l : List ℕ} → Along One a l b d → a ≡ 1 → b ≡ 2 → ⊥
not_from_one stop e f = omega (arith, e, f)
not_from_one (step s r) e f = omega (arith, s.listed, s.owned.from, ap (λ (u : ℕ). get_or {A = ℕ} (0 ∷ 1 ∷ 1 ∷ 1 ∷ []) u 0) e)

not_direct : {a b d : ℕ} {l : List ℕ} → Along One a l b d → a ≡ 0 → b ≡ 2 → ⊥
not_direct stop e f = omega (arith, e, f)
not_direct (step {x = x} s r) e f = not_from_one r (to_one s.place s.listed x s.head) f

stays : {a b d : ℕ} {l : List ℕ} → Along Foreign a l b d → a ≡ 0 → b ≡ 0
stays stop e = e
stays (step s r) e = absurd (omega (arith, s.owned.below, ap (λ (u : ℕ). get_or {A = ℕ} (0 ∷ 0 ∷ 1 ∷ 1 ∷ []) (u + 1) 0) e))

enters_itself : (a x : ℕ) → WayIn One all_three 0 a x → a ≡ 0
enters_itself a x (WayIn.itself i q z) = q
enters_itself a x (WayIn.reached n i l) = absurd (n refl)

leaves_itself : (b z : ℕ) → WayOut One all_three b 2 z → b ≡ 2
leaves_itself b z (WayOut.itself i q e) = q
leaves_itself b z (WayOut.reached n i l) = absurd (n refl)

no_foreign : (w : ℕ) → AnyPair One Foreign all_three 0 2 w → ⊥
no_foreign w (AnyPair.direct r) = not_direct r.path.along refl refl
no_foreign w (AnyPair.over a b x y z i r o e) = omega (arith, stays r.path.along (enters_itself a x i), leaves_itself b z o)

pub another_entry :
    {before after : PairAreas} {d : ℕ} →
    PairOutcome (0 ∷ 1 ∷ 1 ∷ 1 ∷ []) (1 ∷ []) (1 ∷ []) all_three (0 ∷ 0 ∷ 1 ∷ 1 ∷ []) (2 ∷ []) (1 ∷ []) 0 2 before (answer (1 ∷ d ∷ [])) after → ⊥
another_entry {d = d} o = no_foreign d (least_of (pair_answered o refl) d refl).is
