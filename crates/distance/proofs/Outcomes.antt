-- The calls: from their checks to the outcomes.
use mathlib.Core.Path.{◌≡◌, refl, sym, ap, subst, subst₂, ◌∙◌}
use mathlib.Core.List.{List, [], ◌∷◌}
use Prim.Native.Nat.{ℕ, zero, suc, ◌+◌, ◌*◌, ◌≤◌}
use native.Mathlib.Omega.{arith}
use lib.ListN.{length}
use Rattle.std.specs.Prelude.{Option, Some, Result, Ok, Err, IsErrAnd}
use Rattle.paths.specs.Least.{Told}
use Rattle.road.specs.declared.Refusal.{Refusal}
use Rattle.road.specs.Chains.{lone_set_faults, road_and_set_faults}
use Rattle.road.specs.Faults.{BadSetSize, graph_faults, node_fault, lengths_fault, outside_fault}
use Rattle.road.specs.Limits.{overlay_limits, most_nodes}
use Rattle.road.specs.workings.Verdicts.{Verdict, Judged, Judges}
use Rattle.road.specs.Refusals.{None, Said, refusal}
use Rattle.road.specs.Roads.{nodes_of, road}
use Rattle.road.specs.workings.Sound.{Sound}
use Rattle.road.proofs.Faults.{sound_of, long_at, not_unlike, not_over}
use Rattle.road.proofs.Refusals.{judged_alone, stops, goes_on, none_front, none_if_no_first, unheld, none_back}
use Rattle.overlay.specs.Lent.{BadOverlay, overlay_fault}
use Rattle.road.proofs.Left.{road_and_set_left}
use Rattle.distance.specs.workings.Ready.{said_label, HandReady, PairReady}
use Rattle.distance.specs.Calls.{said_of, Answers, way, no_way, HandAreas, HandOutcome, hand_input, hand_faults, hand_lengths, hand_cleared, PairAreas, PairOutcome, pair_input, pair_faults, pair_lengths, pair_cleared}
use Rattle.distance.specs.Questions.{Handheld, AnyPair}
use Rattle.distance.specs.workings.Labels.{label_of}
use Rattle.distance.proofs.Nodes.{from_node, to_node}

pub answers_of : {P : ℕ → Type 0} (l : ℕ) → Told P l → Answers P (said_label l)
answers_of zero t = no_way (t.none refl)
answers_of (suc d) t = way (t.some d refl)

-- what is said of a distance is said of its label
pub said_found : (d : Option ℕ) → said_of (Ok d) ≡ said_label (label_of d)
said_found (Some w) = refl
said_found Option.None = refl

-- and what `?` hands on is the refusal
pub said_handed : (w : Result (Option ℕ) Refusal) (r : Refusal) → IsErrAnd w (λ s. s ≡ r) → said_of w ≡ refusal r
said_handed (Ok d) r h = elim h [ ]
said_handed (Err s) r h = ap refusal h

-- what check 7 leaves
module _ (chosen starts heads weights : List ℕ) (f : BadOverlay chosen starts heads weights → ⊥) where
  pub lent_sound : Sound overlay_limits starts heads weights
  lent_sound = sound_of overlay_limits starts heads weights (none_if_no_first (graph_faults overlay_limits starts heads weights) (λ r x. f (BadOverlay.faulty r x)))

  pub lent_nodes : nodes_of starts ≡ length chosen
  lent_nodes = omega (arith, not_unlike (length starts) (length chosen + 1) (λ n. f (BadOverlay.unlike n)))

module _ (chosen starts heads weights : List ℕ) (s t : ℕ) where
  -- what the checks leave: a set, an overlay that passes, two nodes
  own_none : None (hand_input chosen starts heads weights s t) → None (overlay_fault chosen starts heads weights ∷ node_fault (length chosen) s t ∷ outside_fault chosen s t ∷ [])
  own_none n = none_back (lone_set_faults chosen) (overlay_fault chosen starts heads weights ∷ node_fault (length chosen) s t ∷ outside_fault chosen s t ∷ []) n

  pub hand_few : (v : Verdict) → Judges (hand_input chosen starts heads weights s t) v → v ≡ Ok tt → length chosen ≤ 4096
  hand_few v j p = not_over (length chosen) most_nodes (λ h. unheld (j.passed p).0 (BadSetSize.many h))

  module _ (a : HandAreas) where
    pub hand_handed : (w : Result (Option ℕ) Refusal) (r : Refusal) → IsErrAnd w (λ q. q ≡ r) → HandOutcome chosen starts heads weights s t a (refusal r) a → HandOutcome chosen starts heads weights s t a (said_of w) a
    hand_handed w r h o = subst (λ (x : Said). HandOutcome chosen starts heads weights s t a x a) (sym (said_handed w r h)) o

    pub hand_refused_early : (v : Verdict) (r : Refusal) → Judges (hand_input chosen starts heads weights s t) v → v ≡ Err r → HandOutcome chosen starts heads weights s t a (refusal r) a
    hand_refused_early v r j e = HandOutcome.refused ((stops (hand_input chosen starts heads weights s t) (lengths_fault (hand_lengths (length chosen) a) ∷ []) e j).refused r e)

    module _ (u : Verdict) (j : Judges (hand_input chosen starts heads weights s t) u) (p : u ≡ Ok tt) (v : Verdict) (l : Judged (lengths_fault (hand_lengths (length chosen) a)) v) where
      all_judged : Judges (hand_faults chosen starts heads weights s t a) v
      all_judged = goes_on (hand_input chosen starts heads weights s t) (lengths_fault (hand_lengths (length chosen) a) ∷ []) p j (judged_alone l)

      pub hand_refused_late : (r : Refusal) → v ≡ Err r → HandOutcome chosen starts heads weights s t a (refusal r) a
      hand_refused_late r e = HandOutcome.refused (all_judged.refused r e)

      lent : BadOverlay chosen starts heads weights → ⊥
      lent = unheld (own_none (j.passed p)).0

      same : nodes_of starts ≡ length chosen
      same = lent_nodes chosen starts heads weights lent

      pub hand_ready : v ≡ Ok tt → (s' t' : ℕ) → s' ≡ s → t' ≡ t → HandReady starts heads weights s' t' a
      hand_ready q s' t' e f =
          let n = unheld (own_none (j.passed p)).1.0 in
          let y = long_at (hand_lengths (length chosen) a) (unheld (l.passed q)) in
          record {
            sound = lent_sound chosen starts heads weights lent;
            from = omega (arith, from_node (length chosen) s t n, same);
            to = omega (arith, to_node (length chosen) s t n, same);
            labels_long = y 0 ∙ sym same;
            heap_long = y 1 ∙ ap (λ (k : ℕ). 2 * k) (sym same);
            places_long = y 2 ∙ sym same;
            touched_long = y 3 ∙ sym same;
            blocked_long = y 4 ∙ sym same;
          }

      pub hand_answered :
          v ≡ Ok tt → (s' t' label : ℕ) → s' ≡ s → t' ≡ t → Told (Handheld (road starts heads weights) s' t') label → (after : HandAreas) → after ≡ hand_cleared (nodes_of starts) →
          (said : Said) → said ≡ said_label label → HandOutcome chosen starts heads weights s t a said after
      hand_answered q s' t' label e f x after z said k =
          subst₂ (λ (o : Said) (b : HandAreas). HandOutcome chosen starts heads weights s t a o b) (sym k) (sym (z ∙ ap hand_cleared same))
          (HandOutcome.answered (all_judged.passed q)
          (subst₂ (λ (y w : ℕ). Answers (Handheld (road starts heads weights) y w) (said_label label)) e f (answers_of label x)))

module _ (starts heads weights chosen starts' heads' weights' : List ℕ) (s t : ℕ) where
  input_none : None (pair_input starts heads weights chosen starts' heads' weights' s t) → None (road_and_set_faults starts heads weights chosen)
  input_none n = none_front (road_and_set_faults starts heads weights chosen) (overlay_fault chosen starts' heads' weights' ∷ node_fault (nodes_of starts) s t ∷ []) n

  rest_none : None (pair_input starts heads weights chosen starts' heads' weights' s t) → None (overlay_fault chosen starts' heads' weights' ∷ node_fault (nodes_of starts) s t ∷ [])
  rest_none n = none_back (road_and_set_faults starts heads weights chosen) (overlay_fault chosen starts' heads' weights' ∷ node_fault (nodes_of starts) s t ∷ []) n

  pub pair_few : (v : Verdict) → Judges (pair_input starts heads weights chosen starts' heads' weights' s t) v → v ≡ Ok tt → nodes_of starts ≤ 4096
  pair_few v j p = omega (arith, (road_and_set_left starts heads weights chosen (input_none (j.passed p))).sound.sized.most)

  module _ (a : PairAreas) where
    pub pair_handed :
        (w : Result (Option ℕ) Refusal) (r : Refusal) → IsErrAnd w (λ q. q ≡ r) → PairOutcome starts heads weights chosen starts' heads' weights' s t a (refusal r) a →
        PairOutcome starts heads weights chosen starts' heads' weights' s t a (said_of w) a
    pair_handed w r h o = subst (λ (x : Said). PairOutcome starts heads weights chosen starts' heads' weights' s t a x a) (sym (said_handed w r h)) o

    pub pair_refused_early :
        (v : Verdict) (r : Refusal) → Judges (pair_input starts heads weights chosen starts' heads' weights' s t) v → v ≡ Err r →
        PairOutcome starts heads weights chosen starts' heads' weights' s t a (refusal r) a
    pair_refused_early v r j e =
        PairOutcome.refused
        ((stops (pair_input starts heads weights chosen starts' heads' weights' s t) (lengths_fault (pair_lengths (nodes_of starts) (length heads) a) ∷ []) e j).refused r e)

    module _
        (u : Verdict)
        (j : Judges (pair_input starts heads weights chosen starts' heads' weights' s t) u)
        (p : u ≡ Ok tt)
        (v : Verdict)
        (l : Judged (lengths_fault (pair_lengths (nodes_of starts) (length heads) a)) v)
      where
        every_judged : Judges (pair_faults starts heads weights chosen starts' heads' weights' s t a) v
        every_judged =
            goes_on (pair_input starts heads weights chosen starts' heads' weights' s t) (lengths_fault (pair_lengths (nodes_of starts) (length heads) a) ∷ []) p j (judged_alone l)

        pub pair_refused_late : (r : Refusal) → v ≡ Err r → PairOutcome starts heads weights chosen starts' heads' weights' s t a (refusal r) a
        pair_refused_late r e = PairOutcome.refused (every_judged.refused r e)

        pub pair_ready : v ≡ Ok tt → (s'' t'' : ℕ) → s'' ≡ s → t'' ≡ t → PairReady starts heads weights chosen starts' heads' weights' s'' t'' a
        pair_ready q s'' t'' e f =
            let x = road_and_set_left starts heads weights chosen (input_none (j.passed p)) in
            let lent = unheld (rest_none (j.passed p)).0 in
            let nodes = unheld (rest_none (j.passed p)).1.0 in
            let y = long_at (pair_lengths (nodes_of starts) (length heads) a) (unheld (l.passed q)) in
            record {
              sound = x.sound;
              lent_sound = lent_sound chosen starts' heads' weights' lent;
              as_many = lent_nodes chosen starts' heads' weights' lent ∙ x.set_right.bytes;
              bytes = x.set_right.bytes;
              bits = x.set_right.bits;
              from = omega (arith, from_node (nodes_of starts) s t nodes);
              to = omega (arith, to_node (nodes_of starts) s t nodes);
              starts_long = y 0;
              heads_long = y 1;
              weights_long = y 2;
              outward_long = y 3;
              inward_long = y 4;
              labels_long = y 5;
              heap_long = y 6;
              places_long = y 7;
              touched_long = y 8;
              blocked_long = y 9;
            }

        pub pair_answered :
            v ≡ Ok tt → (s'' t'' label : ℕ) → s'' ≡ s → t'' ≡ t → Told (AnyPair (road starts heads weights) (road starts' heads' weights') chosen s'' t'') label → (after : PairAreas) →
            after ≡ pair_cleared (nodes_of starts) (length heads) → (said : Said) → said ≡ said_label label → PairOutcome starts heads weights chosen starts' heads' weights' s t a said after
        pair_answered q s'' t'' label e f x after z said k =
            subst₂ (λ (o : Said) (b : PairAreas). PairOutcome starts heads weights chosen starts' heads' weights' s t a o b) (sym k) (sym z)
            (PairOutcome.answered (every_judged.passed q)
            (subst₂ (λ (y w : ℕ). Answers (AnyPair (road starts heads weights) (road starts' heads' weights') chosen y w) (said_label label)) e f (answers_of label x)))
