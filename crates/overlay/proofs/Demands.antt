-- What the overlay call promises, of every outcome that its contract allows.
use mathlib.Core.Path.{◌≡◌, refl, sym, ap, subst₂, ◌∙◌}
use mathlib.Core.Logic.{◌⊎◌, inl, inr, ⊎_elim, ◌≢◌}
use mathlib.Core.List.{List, [], ◌∷◌, ◌++◌}
use Prim.Native.Nat.{ℕ, suc, ◌≤◌, ◌<◌}
use native.Mathlib.Omega.{arith}
use lib.ListN.{length, get_or, take, drop}
use lib.Seq.{take-append_seam}
use Rattle.road.specs.declared.Refusal.{Refusal}
use Rattle.road.specs.declared.Refusal.TheVariants.{Room}
use Rattle.road.specs.Chains.{road_and_set_faults}
use Rattle.road.specs.Faults.{graph_faults, lengths_fault}
use Rattle.road.specs.Limits.{road_limits, overlay_limits}
use Rattle.road.specs.Order.{Numbered, HoldsAt, NoneTo}
use Rattle.road.specs.Refusals.{First, None, Said, refusal, answer}
use Rattle.road.specs.workings.Verdicts.{Singles}
use Rattle.road.specs.Roads.{nodes_of, Owns, Arc, road}
use Rattle.road.specs.workings.Sound.{Sound}
use Rattle.road.proofs.Faults.{graph_numbered, none_of_sound, not_over}
use Rattle.road.specs.workings.Left.{RoadAndSetLeft}
use Rattle.road.proofs.Left.{road_and_set_left}
use Rattle.road.proofs.Refusals.{of_single, of_number, first_one, first_at, first_early, first_late, first_split, first_not_none, none_front, number_some, refusal_one, refusal_no_answer, told}
use Rattle.road.proofs.Rows.{owner_node, owner_of}
use Rattle.road.proofs.Verdicts.{singles_both, road_and_set_singles}
use Rattle.std.specs.Prelude.{Result, Ok, Err}
use Rattle.road.specs.declared.ArcCount.{ArcCount}
use Rattle.overlay.specs.Calls.{Areas, Outcome, refused, full, built, all_faults, room_fault, answered, asked_lengths, faults_of, said_of}
use Rattle.overlay.specs.Lent.{BadOverlay}
use Rattle.overlay.specs.Overlays.{OverlayArc, OverlayOf, ArcsInAll}
use Rattle.overlay.proofs.Locals.{in_bytes}
use Rattle.overlay.proofs.Outcomes.{road_light}
use Rattle.overlay.proofs.Unique as Unique

-- an overlay of a road graph is well formed under the overlay's limits
module _
    (starts heads weights chosen : List ℕ)
    (s : Sound road_limits starts heads weights)
    (e : length chosen ≡ nodes_of starts)
    (starts' heads' weights' : List ℕ)
    (o : OverlayOf (road starts heads weights) chosen starts' heads' weights')
    (few : length heads' ≤ overlay_limits.arcs.0)
  where
    owned : (u p : ℕ) → Owns starts' u p → OverlayArc (road starts heads weights) chosen u (get_or heads' p 0) (get_or weights' p 0)
    owned u p w = (o.rows u (omega (arith, owner_node starts' u p w, o.long))).arcs p w.from w.below

    at : (p : ℕ) → p < length heads' → (u : ℕ) × OverlayArc (road starts heads weights) chosen u (get_or heads' p 0) (get_or weights' p 0)
    at p h =
        let w = owner_of starts' heads' (Unique.overlay_rises (road starts heads weights) chosen starts' heads' weights' o) p h in
        (w.0, owned w.0 p w.1)

    pub overlay_sound : Sound overlay_limits starts' heads' weights'
    overlay_sound =
        record {
          sized = record { least = omega (arith, o.long, s.sized.least); most = omega (arith, o.long, s.sized.most); alike = o.alike; few = few };
          rising = Unique.overlay_rises (road starts heads weights) chosen starts' heads' weights' o;
          inside = λ p h. omega (arith, in_bytes chosen (get_or heads' p 0) (at p h).1.head, o.long);
          unlooped = λ u p w q. (owned u p w).apart (sym q);
          ascends = λ u p w v. (o.rows u (omega (arith, owner_node starts' u p w, o.long))).ascends p w.from v.below;
          light = λ p h. (road_light starts heads weights chosen s).light (at p h).0 (get_or heads' p 0) (get_or weights' p 0) (at p h).1;
        }

    -- so it passes check 7
    pub overlay_passes : BadOverlay chosen starts' heads' weights' → ⊥
    overlay_passes (BadOverlay.unlike n) = n (omega (arith, o.long))
    overlay_passes (BadOverlay.faulty r f) = first_not_none (graph_faults overlay_limits starts' heads' weights') r f (none_of_sound overlay_limits starts' heads' weights' overlay_sound)
    overlay_passes (BadOverlay.tail u p h w n) = n (owned u p w).tail
    overlay_passes (BadOverlay.head p h n) = n (at p h).1.head

-- an outcome that is an answer: nothing was at fault, there was room, the rooms' parts up to the count are the overlay, and the count is
-- that of the pairs of the definition
pub record Answer (starts heads weights chosen : List ℕ) (before : Areas) (said : Said) (after : Areas) : Type 0 where
  pub sound : Sound road_limits starts heads weights
  pub bytes : length chosen ≡ nodes_of starts
  pub bits : (v : ℕ) → get_or chosen v 0 ≤ 1
  pub count : ℕ
  pub values : said ≡ answer (count ∷ [])
  pub few : count ≤ overlay_limits.arcs.0
  pub fits : count ≤ length before.heads
  pub overlay : OverlayOf (road starts heads weights) chosen after.starts (take count after.heads) (take count after.weights)
  pub counted : ArcsInAll (road starts heads weights) chosen count

-- what is said loses nothing of the answer
pub said_one : (a b : Result ArcCount Refusal) → said_of a ≡ said_of b → a ≡ b
said_one (Ok c) (Ok d) e = ap (λ (n : ℕ). Ok (record { 0 = n })) (ap (λ (x : Said). get_or x.values 0 0) e)
said_one (Ok c) (Err r) e = absurd (refusal_no_answer r (c.0 ∷ []) (sym e))
said_one (Err r) (Ok c) e = absurd (refusal_no_answer r (c.0 ∷ []) e)
said_one (Err r) (Err s) e = ap Err (refusal_one r s e)

module _ (starts heads weights chosen : List ℕ) (before : Areas) where
  all_singles : Singles (faults_of starts heads weights chosen before)
  all_singles =
      singles_both (road_and_set_faults starts heads weights chosen) (lengths_fault (asked_lengths (nodes_of starts) before) ∷ []) (road_and_set_singles starts heads weights chosen)
      (of_single, tt)

  left : None (faults_of starts heads weights chosen before) → RoadAndSetLeft starts heads weights chosen
  left n = road_and_set_left starts heads weights chosen (none_front (road_and_set_faults starts heads weights chosen) (lengths_fault (asked_lengths (nodes_of starts) before) ∷ []) n)

  -- document 01's order: its faults tell these numbers, one after the other
  pub numbered : Numbered (all_faults starts heads weights chosen before) (1 ∷ 2 ∷ 3 ∷ 6 ∷ 11 ∷ 12 ∷ [])
  numbered =
      let g = graph_numbered road_limits starts heads weights in
      (g.0, (g.1.0, (g.1.1.0, (of_number, (of_number, (of_number, tt))))))

module _ {starts heads weights chosen : List ℕ} {before : Areas} where
  pub answer_of : {said : Said} {after : Areas} → Outcome starts heads weights chosen before said after → said.number ≡ 0 → Answer starts heads weights chosen before said after
  answer_of (refused {r = r} f) e = absurd (number_some r e)
  answer_of (full n m) e = absurd (number_some Room e)
  answer_of (built {starts' = starts'} {heads' = heads'} {weights' = weights'} n few o) e =
      record {
        sound = x.sound;
        bytes = x.set_right.bytes;
        bits = x.set_right.bits;
        count = length heads';
        values = refl;
        few = not_over (length heads') overlay_limits.arcs.0 (λ h. few (record { count = length heads'; counted = pairs; over = inr h }));
        fits = not_over (length heads') (length before.heads) (λ h. few (record { count = length heads'; counted = pairs; over = inl h }));
        overlay =
            subst₂ (λ (h w : List ℕ). OverlayOf (road starts heads weights) chosen starts' h w) (sym (take-append_seam heads' (drop (length heads') before.heads)))
            (sym (ap (λ (k : ℕ). take k (weights' ++ drop (length weights') before.weights)) o.alike ∙ take-append_seam weights' (drop (length weights') before.weights))) o;
        counted = pairs;
      }
    where
      x : RoadAndSetLeft starts heads weights chosen
      x = left starts heads weights chosen before n

      pairs : ArcsInAll (road starts heads weights) chosen (length heads')
      pairs = Unique.written_count (road starts heads weights) chosen starts' heads' weights' o x.set_right.bytes

  -- two outcomes that the contract allows are equal
  pub outcome_one :
      {said said' : Said} {after after' : Areas} → Outcome starts heads weights chosen before said after → Outcome starts heads weights chosen before said' after' →
      (said ≡ said') × (after ≡ after')
  outcome_one (refused {r = r} f) (refused {r = s} g) =
      (ap refusal (first_one (faults_of starts heads weights chosen before) r s (all_singles starts heads weights chosen before) f g), refl)
  outcome_one (refused {r = r} f) (full n m) = absurd (first_not_none (faults_of starts heads weights chosen before) r f n)
  outcome_one (refused {r = r} f) (built n m o) = absurd (first_not_none (faults_of starts heads weights chosen before) r f n)
  outcome_one (full n m) (refused {r = r} f) = absurd (first_not_none (faults_of starts heads weights chosen before) r f n)
  outcome_one (full n m) (full k l) = (refl, refl)
  outcome_one (full n m) (built k l o) = absurd (l m)
  outcome_one (built k l o) (refused {r = r} f) = absurd (first_not_none (faults_of starts heads weights chosen before) r f k)
  outcome_one (built k l o) (full n m) = absurd (l m)
  outcome_one (built {starts' = s} {heads' = h} {weights' = w} n m o) (built {starts' = s'} {heads' = h'} {weights' = w'} k l p) = (
    ap (λ (x : List ℕ). answer (length x ∷ [])) heads_same,
    λ i. answered (nodes_of starts) before (Unique.starts_one (road starts heads weights) chosen e s h w s' h' w' o p i) (heads_same i) (Unique.weights_one (road starts heads weights) chosen e s h w s' h' w' o p i),
  )
    where
      e : length chosen ≡ nodes_of starts
      e = (left starts heads weights chosen before n).set_right.bytes

      heads_same : h ≡ h'
      heads_same = Unique.heads_one (road starts heads weights) chosen e s h w s' h' w' o p

  -- and so are two answers
  pub answer_one :
      (a b : Result ArcCount Refusal) {after after' : Areas} → Outcome starts heads weights chosen before (said_of a) after → Outcome starts heads weights chosen before (said_of b) after' →
      (a ≡ b) × (after ≡ after')
  answer_one a b o p = let e = outcome_one o p in (said_one a b e.0, e.1)

  -- a refusal is of the first fault of all
  pub refused_first : {said : Said} {after : Areas} → Outcome starts heads weights chosen before said after → said.number ≢ 0 → (r : Refusal) × (said ≡ refusal r) × First (all_faults starts heads weights chosen before) r
  refused_first (refused {r = r} f) z = (r, refl, first_early (faults_of starts heads weights chosen before) (room_fault (road starts heads weights) chosen (length before.heads) ∷ []) r f)
  refused_first (full n m) z = (Room, refl, first_late (faults_of starts heads weights chosen before) (room_fault (road starts heads weights) chosen (length before.heads) ∷ []) Room n (inl (told {r = Room} m)))
  refused_first (built n m o) z = absurd (z refl)

  -- an input with two neighbouring faults, and none before them, is refused by the first
  pub in_order :
      {said : Said} {after : Areas} → Outcome starts heads weights chosen before said after → (i : ℕ) (r s : Refusal) → NoneTo (all_faults starts heads weights chosen before) i → HoldsAt (all_faults starts heads weights chosen before) i r →
      HoldsAt (all_faults starts heads weights chosen before) (suc i) s → said ≡ refusal r
  in_order {said} o i r s n f g = by (first_split (faults_of starts heads weights chosen before) (room_fault (road starts heads weights) chosen (length before.heads) ∷ []) r (first_at (all_faults starts heads weights chosen before) i r n f))
    where
      by : First (faults_of starts heads weights chosen before) r ⊎ (None (faults_of starts heads weights chosen before) × First (room_fault (road starts heads weights) chosen (length before.heads) ∷ []) r) → said ≡ refusal r
      by (inl x) = (outcome_one o (refused x)).0
      by (inr x) = ⊎_elim (λ m. (outcome_one o (full x.0 m.holds)).0 ∙ ap refusal (sym m.is)) (λ m. absurd m.1) x.1

module _ {starts heads weights chosen : List ℕ} {before : Areas} {said : Said} {after : Areas} (a : Answer starts heads weights chosen before said after) where
  -- the arcs that are written are those of the definition, no others
  pub no_other : (u v w : ℕ) → Arc after.starts (take a.count after.heads) (take a.count after.weights) u v w → OverlayArc (road starts heads weights) chosen u v w
  no_other = Unique.written_arc (road starts heads weights) chosen after.starts (take a.count after.heads) (take a.count after.weights) a.overlay

  pub all_there : (u v w : ℕ) → OverlayArc (road starts heads weights) chosen u v w → Arc after.starts (take a.count after.heads) (take a.count after.weights) u v w
  all_there = Unique.arc_written (road starts heads weights) chosen after.starts (take a.count after.heads) (take a.count after.weights) a.overlay a.bytes

  pub each_once : (u p q : ℕ) → Owns after.starts u p → Owns after.starts u q → get_or (take a.count after.heads) p 0 ≡ get_or (take a.count after.heads) q 0 → p ≡ q
  each_once = Unique.written_once (road starts heads weights) chosen after.starts (take a.count after.heads) (take a.count after.weights) a.overlay
