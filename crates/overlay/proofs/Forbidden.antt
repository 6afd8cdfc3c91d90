-- Wrong versions that the contract rules out.
use mathlib.Core.Path.{◌≡◌, refl, sym, ap, subst, ◌∙◌}
use mathlib.Core.Logic.{◌⊎◌, ⊎_elim, ◌≢◌}
use mathlib.Core.List.{List, [], ◌∷◌}
use Prim.Native.Nat.{ℕ, zero, suc, ◌+◌, ◌*◌, ◌≤◌, ◌<◌}
use native.Mathlib.Numerals.{add-one}
use native.Mathlib.Omega.{arith}
use lib.ListN.{length, get_or, take, replicate}
use lib.Seq.{get_or-take}
use Rattle.paths.specs.Graphs.{Graph, Along, stop, step, Reaches}
use Rattle.paths.specs.Lists.{Inside}
use Rattle.road.specs.declared.Refusal.TheVariants.{Room}
use Rattle.road.specs.Faults.{InSet}
use Rattle.road.specs.Limits.{overlay_limits}
use Rattle.std.specs.Prelude.{Ok}
use Rattle.road.specs.workings.Verdicts.{Verdict, Judged}
use Rattle.overlay.specs.Lent.{BadOverlay, overlay_fault}
use Rattle.road.specs.Refusals.{None, Said, refusal, answer}
use Rattle.road.specs.Roads.{nodes_of, Owns, Arc, road}
use Rattle.road.proofs.Refusals.{first_not_none, unheld}
use Rattle.overlay.specs.Calls.{Areas, Outcome, refused, full, built, TooMany, faults_of}
use Rattle.overlay.specs.Numbers.{Number, none, one, skip}
use Rattle.overlay.specs.Overlays.{Outside, OverlayArc, HasArc, Arcs, ArcsInAll}
use Rattle.overlay.proofs.Demands.{Answer, answer_of, no_other, all_there}
use Rattle.overlay.proofs.Locals.{arcs_one}

module _ {starts heads weights chosen : List ℕ} {before : Areas} where
  -- It refuses everything: where nothing is at fault and there is room, the outcome is an answer.
  pub accepted : {said : Said} {after : Areas} →
      Outcome starts heads weights chosen before said after → None (faults_of starts heads weights chosen before) →
      (TooMany (road starts heads weights) chosen (length before.heads) → ⊥) → said.number ≡ 0
  accepted (refused {r = r} f) n m = absurd (first_not_none (faults_of starts heads weights chosen before) r f n)
  accepted (full k l) n m = absurd (m l)
  accepted (built k l o) n m = refl

  -- A refusal touches the rooms: it leaves the starts and both rooms as they were.
  pub refusal_leaves : {said : Said} {after : Areas} →
      Outcome starts heads weights chosen before said after → said.number ≢ 0 →
      (after.starts ≡ before.starts) × (after.heads ≡ before.heads) × (after.weights ≡ before.weights)
  refusal_leaves (refused f) z = (refl, refl, refl)
  refusal_leaves (full n m) z = (refl, refl, refl)
  refusal_leaves (built n m o) z = absurd (z refl)

  -- A refusal that needs no search touches the work: all but 12 leave everything as it was.
  pub early_leaves : {said : Said} {after : Areas} →
      Outcome starts heads weights chosen before said after → said.number ≢ 0 → said.number ≢ 12 → after ≡ before
  early_leaves (refused f) z t = refl
  early_leaves (full n m) z t = absurd (t refl)
  early_leaves (built n m o) z t = absurd (z refl)

  -- The work is left not zero: an answer fills it with zeros, and so does 12.
  pub work_zero : {said : Said} {after : Areas} →
      Outcome starts heads weights chosen before said after → None (faults_of starts heads weights chosen before) →
      (after.labels ≡ replicate (nodes_of starts) 0) × (after.heap ≡ replicate (2 * nodes_of starts) 0) × (after.places ≡ replicate (nodes_of starts) 0) ×
      (after.touched ≡ replicate (nodes_of starts) 0)
  work_zero (refused {r = r} f) n = absurd (first_not_none (faults_of starts heads weights chosen before) r f n)
  work_zero (full k l) n = (refl, refl, refl, refl)
  work_zero (built k l o) n = (refl, refl, refl, refl)

  -- 12 at one arc too few: an overlay that just fills its room, of 65,536 arcs at most, is answered, with that count.
  pub just_fills : {said : Said} {after : Areas} →
      Outcome starts heads weights chosen before said after → None (faults_of starts heads weights chosen before) →
      ArcsInAll (road starts heads weights) chosen (length before.heads) → length before.heads ≤ overlay_limits.arcs.0 → said ≡ answer (length before.heads ∷ [])
  just_fills {said} {after} o n k few = by (answer_of o (accepted o n (λ m. ⊎_elim (λ h. omega (arith, arcs_one m.counted k)) (λ h. omega (arith, arcs_one m.counted k)) m.over)))
    where
      by : Answer starts heads weights chosen before said after → said ≡ answer (length before.heads ∷ [])
      by a = a.values ∙ ap (λ (c : ℕ). answer (c ∷ [])) (arcs_one a.counted k)

  -- 12 at one arc too many: where there are more arcs than the room or than 65,536, the outcome is 12.
  pub one_too_many : {said : Said} {after : Areas} →
      Outcome starts heads weights chosen before said after → None (faults_of starts heads weights chosen before) →
      (c : ℕ) → ArcsInAll (road starts heads weights) chosen c → (length before.heads < c) ⊎ (overlay_limits.arcs.0 < c) → said ≡ refusal Room
  one_too_many (refused {r = r} f) n c k v = absurd (first_not_none (faults_of starts heads weights chosen before) r f n)
  one_too_many (full i m) n c k v = refl
  one_too_many (built i m o) n c k v = absurd (m (record { count = c; counted = k; over = v }))

  -- Arcs of weight 0 are left out: an arc of the definition is written, whatever it weighs.
  pub weightless : {said : Said} {after : Areas} →
      (a : Answer starts heads weights chosen before said after) (u v : ℕ) → OverlayArc (road starts heads weights) chosen u v 0 →
      Arc after.starts (take a.count after.heads) (take a.count after.weights) u v 0
  weightless a u v o = all_there a u v 0 o

  -- A made-up count: an answer's is the number of pairs of the definition.
  pub counts : {said : Said} {after : Areas} →
      Outcome starts heads weights chosen before said after → said.number ≡ 0 → (c : ℕ) → ArcsInAll (road starts heads weights) chosen c → said ≡ answer (c ∷ [])
  counts {said} {after} o z c k = by (answer_of o z)
    where
      by : Answer starts heads weights chosen before said after → said ≡ answer (c ∷ [])
      by a = a.values ∙ ap (λ (x : ℕ). answer (x ∷ [])) (arcs_one a.counted k)

  -- Rows that do not ascend: of two places of one tail, one after the other, the first has the lesser head.
  pub ascending : {said : Said} {after : Areas} →
      (a : Answer starts heads weights chosen before said after) (u p : ℕ) → u < nodes_of starts → Owns after.starts u p → Owns after.starts u (p + 1) →
      get_or (take a.count after.heads) p 0 < get_or (take a.count after.heads) (p + 1) 0
  ascending a u p h w v = (a.overlay.rows u h).ascends p w.from v.below

-- It writes nothing: of 0 to 1 of weight 5 with both nodes in the set, the first entries of the rooms are that arc.
module _ where
  abbrev five : Graph
  five = road (0 ∷ 1 ∷ 1 ∷ []) (1 ∷ []) (5 ∷ [])

  zero_one : Arc (0 ∷ 1 ∷ 1 ∷ []) (1 ∷ []) (5 ∷ []) 0 1 5
  zero_one = record { place = 0; listed = omega arith; owned = record { from = omega arith; below = omega arith }; head = refl; weight = refl }

  five_heavy : {a b w : ℕ} {l : List ℕ} → Along five a l b w → a ≢ b → 5 ≤ w
  five_heavy stop n = absurd (n refl)
  five_heavy (step {w = w} s r) n = omega (arith, weight s.place s.listed w s.weight)
    where
      weight : (p : ℕ) → p < 1 → (w : ℕ) → get_or {A = ℕ} (5 ∷ []) p 0 ≡ w → w ≡ 5
      weight zero h w e = sym e
      weight (suc p) h w e = absurd (omega arith)

  the_arc : OverlayArc five (1 ∷ 1 ∷ []) 0 1 5
  the_arc =
      record {
        tail = refl;
        head = refl;
        apart = λ e. omega arith;
        least =
            record {
              is =
                  record {
                    after = 1 ∷ [];
                    path = record { node = omega arith; along = step zero_one stop; different = (⊎_elim (λ q. omega arith) (λ q. q), ((λ q. q), tt)) };
                    inner = tt;
                  };
              least = λ e r. five_heavy r.path.along (λ q. omega arith);
            };
      }

  taken_some : (c : ℕ) (l : List ℕ) → 0 < length (take c l) → 0 < c
  taken_some zero l h = absurd (omega arith)
  taken_some (suc c) l h = omega arith

  pub writes_nothing :
      {before : Areas} {said : Said} {after : Areas} → Outcome (0 ∷ 1 ∷ 1 ∷ []) (1 ∷ []) (5 ∷ []) (1 ∷ 1 ∷ []) before said after → said.number ≡ 0 →
      (get_or after.heads 0 0 ≡ 1) × (get_or after.weights 0 0 ≡ 5)
  writes_nothing {before} {said} {after} o z = by (answer_of o z)
    where
      by : Answer (0 ∷ 1 ∷ 1 ∷ []) (1 ∷ []) (5 ∷ []) (1 ∷ 1 ∷ []) before said after → (get_or after.heads 0 0 ≡ 1) × (get_or after.weights 0 0 ≡ 5)
      by a = at (all_there a 0 1 5 the_arc)
        where
          first : (p : ℕ) → Owns after.starts 0 p → get_or (take a.count after.heads) p 0 ≡ 1 → p ≡ 0
          first zero w h = refl
          first (suc p) w h =
              let under : get_or (take a.count after.heads) p 0 < get_or (take a.count after.heads) (p + 1) 0 = (a.overlay.rows 0 (omega arith)).ascends p (omega (arith, a.overlay.begins)) (omega (arith, w.below)) in
              absurd (((a.overlay.rows 0 (omega arith)).arcs p (omega (arith, a.overlay.begins)) (omega (arith, w.below))).apart (omega (arith, under, h, ap (λ (k : ℕ). get_or (take a.count after.heads) k 0) (add-one p))))

          at :
              Arc after.starts (take a.count after.heads) (take a.count after.weights) 0 1 5 →
              (get_or after.heads 0 0 ≡ 1) × (get_or after.weights 0 0 ≡ 5)
          at r = ends r.place (first r.place r.owned r.head) r.listed r.head r.weight
            where
              ends :
                  (p : ℕ) → p ≡ 0 → p < length (take a.count after.heads) → get_or (take a.count after.heads) p 0 ≡ 1 →
                  get_or (take a.count after.weights) p 0 ≡ 5 → (get_or after.heads 0 0 ≡ 1) × (get_or after.weights 0 0 ≡ 5)
              ends p e l h w =
                  let some : 0 < a.count = taken_some a.count after.heads (omega (arith, l)) in (
                    sym (get_or-take a.count after.heads 0 0 some) ∙ subst (λ (k : ℕ). get_or (take a.count after.heads) k 0 ≡ 1) e h,
                    sym (get_or-take a.count after.weights 0 0 some) ∙ subst (λ (k : ℕ). get_or (take a.count after.weights) k 0 ≡ 5) e w,
                  )

-- Weights of paths through the set: of 0 to 1 to 2 with all nodes in the set there is no arc from 0 to 2.
module _ where
  abbrev chain : Graph
  chain = road (0 ∷ 1 ∷ 2 ∷ 2 ∷ []) (1 ∷ 2 ∷ []) (1 ∷ 1 ∷ [])

  not_through : {a b w : ℕ} {l : List ℕ} → Along chain a l b w → Inside (Outside (1 ∷ 1 ∷ 1 ∷ [])) l → a ≡ 0 → b ≡ 2 → ⊥
  not_through stop i e f = omega arith
  not_through (step {x = x} s stop) i e f = next s.place s.listed (omega (arith, s.owned.below, ap (λ (k : ℕ). get_or {A = ℕ} (0 ∷ 1 ∷ 2 ∷ 2 ∷ []) (k + 1) 0) e)) x s.head f
    where
      next : (p : ℕ) → p < 2 → p < 1 → (x : ℕ) → get_or {A = ℕ} (1 ∷ 2 ∷ []) p 0 ≡ x → x ≡ 2 → ⊥
      next zero h g x q f = omega arith
      next (suc p) h g x q f = omega arith
  not_through (step {x = x} s (step t r)) i e f = next s.place (omega (arith, s.owned.below, ap (λ (k : ℕ). get_or {A = ℕ} (0 ∷ 1 ∷ 2 ∷ 2 ∷ []) (k + 1) 0) e)) x s.head i.0
    where
      next : (p : ℕ) → p < 1 → (x : ℕ) → get_or {A = ℕ} (1 ∷ 2 ∷ []) p 0 ≡ x → Outside (1 ∷ 1 ∷ 1 ∷ []) x → ⊥
      next zero g x q n = n (ap (λ (k : ℕ). get_or {A = ℕ} (1 ∷ 1 ∷ 1 ∷ []) k 0) (sym q))
      next (suc p) g x q n = omega arith

  pub through_the_set :
      {before : Areas} {said : Said} {after : Areas} (a : Answer (0 ∷ 1 ∷ 2 ∷ 2 ∷ []) (1 ∷ 2 ∷ []) (1 ∷ 1 ∷ []) (1 ∷ 1 ∷ 1 ∷ []) before said after) (w : ℕ) →
      Arc after.starts (take a.count after.heads) (take a.count after.weights) 0 2 w → ⊥
  through_the_set a w r = by (no_other a 0 2 w r).least.is
    where
      by : Reaches chain (Outside (1 ∷ 1 ∷ 1 ∷ [])) 0 2 w → ⊥
      by q = not_through q.path.along q.inner refl refl

-- And of the Wedge with all nodes in the set the arc from 0 to 1 weighs 10, not the 7 of the way over 2.
module _ where
  abbrev wedge : Graph
  wedge = road (0 ∷ 2 ∷ 2 ∷ 3 ∷ []) (1 ∷ 2 ∷ 1 ∷ []) (10 ∷ 3 ∷ 4 ∷ [])

  first_places : (p : ℕ) {a : ℕ} → p < get_or {A = ℕ} (0 ∷ 2 ∷ 2 ∷ 3 ∷ []) (a + 1) 0 → a ≡ 0 → p < 2
  first_places p {a} h e = omega (arith, h, ap (λ (k : ℕ). get_or {A = ℕ} (0 ∷ 2 ∷ 2 ∷ 3 ∷ []) (k + 1) 0) e)

  direct : {a b w : ℕ} {l : List ℕ} → Along wedge a l b w → Inside (Outside (1 ∷ 1 ∷ 1 ∷ [])) l → a ≡ 0 → b ≡ 1 → w ≡ 10
  direct stop i e f = absurd (omega arith)
  direct (step {x = x} {w = w} s stop) i e f = omega (arith, weight s.place (first_places s.place s.owned.below e) x s.head f w s.weight)
    where
      weight : (p : ℕ) → p < 2 → (x : ℕ) → get_or {A = ℕ} (1 ∷ 2 ∷ 1 ∷ []) p 0 ≡ x → x ≡ 1 → (w : ℕ) → get_or {A = ℕ} (10 ∷ 3 ∷ 4 ∷ []) p 0 ≡ w → w ≡ 10
      weight zero h x q f w r = sym r
      weight (suc zero) h x q f w r = absurd (omega arith)
      weight (suc (suc p)) h x q f w r = absurd (omega arith)
  direct (step {x = x} s (step t r)) i e f = absurd (inside s.place (first_places s.place s.owned.below e) x s.head i.0)
    where
      inside : (p : ℕ) → p < 2 → (x : ℕ) → get_or {A = ℕ} (1 ∷ 2 ∷ 1 ∷ []) p 0 ≡ x → Outside (1 ∷ 1 ∷ 1 ∷ []) x → ⊥
      inside zero h x q n = n (ap (λ (k : ℕ). get_or {A = ℕ} (1 ∷ 1 ∷ 1 ∷ []) k 0) (sym q))
      inside (suc zero) h x q n = n (ap (λ (k : ℕ). get_or {A = ℕ} (1 ∷ 1 ∷ 1 ∷ []) k 0) (sym q))
      inside (suc (suc p)) h x q n = omega arith

  pub direct_weight :
      {before : Areas} {said : Said} {after : Areas} (a : Answer (0 ∷ 2 ∷ 2 ∷ 3 ∷ []) (1 ∷ 2 ∷ 1 ∷ []) (10 ∷ 3 ∷ 4 ∷ []) (1 ∷ 1 ∷ 1 ∷ []) before said after) (w : ℕ) →
      Arc after.starts (take a.count after.heads) (take a.count after.weights) 0 1 w → w ≡ 10
  direct_weight a w r = by (no_other a 0 1 w r).least.is
    where
      by : Reaches wedge (Outside (1 ∷ 1 ∷ 1 ∷ [])) 0 1 w → w ≡ 10
      by q = direct q.path.along q.inner refl refl

-- A loop on a set node: P9, the Ring with the set {2}, has no arc.
module _ where
  no_numbers : {P : ℕ → Type 0} {n m : ℕ} → ((v : ℕ) → P v → ⊥) → Number P n m → m ≡ 0
  no_numbers f none = refl
  no_numbers f (one {n = n} p x) = absurd (f n p)
  no_numbers f (skip p x) = no_numbers f x

  no_arcs : {G : Graph} {chosen : List ℕ} {a m : ℕ} → ((u v : ℕ) → HasArc G chosen u v → ⊥) → Arcs G chosen a m → m ≡ 0
  no_arcs f Arcs.none = refl
  no_arcs f (Arcs.row {a = a} x y) = omega (arith, no_arcs f x, no_numbers (f a) y)

  only_two : (v : ℕ) → InSet (0 ∷ 0 ∷ 1 ∷ []) v → v ≡ 2
  only_two zero e = absurd (omega arith)
  only_two (suc zero) e = absurd (omega arith)
  only_two (suc (suc zero)) e = refl
  only_two (suc (suc (suc v))) e = absurd (omega arith)

  pub no_loop :
      {before : Areas} {said : Said} {after : Areas} → Outcome (0 ∷ 1 ∷ 2 ∷ 3 ∷ []) (1 ∷ 2 ∷ 0 ∷ []) (1 ∷ 2 ∷ 4 ∷ []) (0 ∷ 0 ∷ 1 ∷ []) before said after →
      said.number ≡ 0 → said ≡ answer (0 ∷ [])
  no_loop {before} {said} {after} o z = by (answer_of o z)
    where
      alone : (u v : ℕ) → HasArc (road (0 ∷ 1 ∷ 2 ∷ 3 ∷ []) (1 ∷ 2 ∷ 0 ∷ []) (1 ∷ 2 ∷ 4 ∷ [])) (0 ∷ 0 ∷ 1 ∷ []) u v → ⊥
      alone u v h = h.apart (only_two u h.tail ∙ sym (only_two v h.head))

      by : Answer (0 ∷ 1 ∷ 2 ∷ 3 ∷ []) (1 ∷ 2 ∷ 0 ∷ []) (1 ∷ 2 ∷ 4 ∷ []) (0 ∷ 0 ∷ 1 ∷ []) before said after → said ≡ answer (0 ∷ [])
      by a = a.values ∙ ap (λ (c : ℕ). answer (c ∷ [])) (no_arcs alone a.counted)

-- Check 7 takes one start too few, or too many: the verdict on it is not passed.
pub one_start_off : {chosen starts heads weights : List ℕ} {v : Verdict} → Judged (overlay_fault chosen starts heads weights) v → length starts ≢ length chosen + 1 → v ≢ Ok tt
one_start_off j n e = unheld (j.passed e) (BadOverlay.unlike n)
