-- What the two questions promise, of every outcome that their contracts allow. Demand 3: over the overlay that we build the answers are
-- those of the road graph.
use mathlib.Core.Path.{◌≡◌, refl, sym, ap}
use mathlib.Core.List.{List, [], ◌∷◌}
use Prim.Native.Nat.{ℕ, suc, ◌≤◌, ◌<◌}
use native.Mathlib.Omega.{arith}
use lib.ListN.{length, get_or, take}
use Rattle.paths.specs.Graphs.{stop, Reaches, Any}
use Rattle.paths.specs.Least.{Under}
use Rattle.paths.proofs.Least.{least_one, least_carries, empty_carries}
use Rattle.road.specs.Chains.{road_and_set_faults}
use Rattle.road.specs.Faults.{InSet, Unlike, graph_faults, set_fault, node_fault, lengths_fault}
use Rattle.road.specs.Limits.{road_limits, overlay_limits}
use Rattle.road.specs.declared.Refusal.{Refusal}
use Rattle.road.specs.Order.{Numbered, HoldsAt, NoneTo}
use Rattle.road.specs.Refusals.{None, Said, refusal, answer}
use Rattle.road.specs.workings.Verdicts.{Singles}
use Rattle.road.specs.Roads.{nodes_of, road}
use Rattle.road.proofs.Faults.{graph_numbered, none_of_sound, road_proper, set_size_clear, set_clear, nodes_clear, in_set_clear}
use Rattle.road.proofs.Refusals.{of_single, of_number, first_one, first_at, first_not_none, none_both, refusal_one, refusal_no_answer, untold}
use Rattle.road.proofs.Verdicts.{singles_both, lone_set_singles, road_and_set_singles}
use Rattle.overlay.specs.Calls.{Areas}
use Rattle.overlay.specs.Lent.{overlay_fault}
use Rattle.overlay.proofs.Demands.{Answer, overlay_passes}
use Rattle.overlay.proofs.Locals.{in_bytes, arcs_one}
use Rattle.overlay.proofs.Unique.{as_nodes, written_arc, pair_written, written_count}
use Rattle.std.specs.Prelude.{Option, Some, Result, Ok, Err}
use Rattle.distance.specs.Calls.{said_of, Answers, way, no_way, HandAreas, HandOutcome, hand_input, hand_faults, hand_lengths, PairAreas, PairOutcome, pair_input, pair_faults, pair_lengths}
use Rattle.overlay.proofs.Crossing.{Over, over_road, road_over}
use Rattle.distance.proofs.Passing.{pair_road, road_pair}

-- what is said of a set of weights is determined by the set
pub answers_one : {P : ℕ → Type 0} {said said' : Said} → Answers P said → Answers P said' → said ≡ said'
answers_one (way l) (way m) = ap (λ (d : ℕ). answer (1 ∷ d ∷ [])) (least_one l m)
answers_one (way {d = d} l) (no_way e) = absurd (e.none d l.is)
answers_one (no_way e) (way {d = d} l) = absurd (e.none d l.is)
answers_one (no_way e) (no_way f) = refl

-- and carries over to a set whose weights lie under one another's
pub answers_carry : {P Q : ℕ → Type 0} {said : Said} → Under P Q → Under Q P → Answers P said → Answers Q said
answers_carry pq qp (way l) = way (least_carries pq qp l)
answers_carry pq qp (no_way e) = no_way (empty_carries pq qp e)

-- a set that has 0 has no less
pub zero_said : {P : ℕ → Type 0} {said : Said} → P 0 → Answers P said → said ≡ answer (1 ∷ 0 ∷ [])
zero_said p (way {d = d} l) = ap (λ (k : ℕ). answer (1 ∷ k ∷ [])) {y = 0} (omega (arith, l.least 0 p))
zero_said p (no_way e) = absurd (e.none 0 p)

-- what is said loses nothing of the answer
pub said_one : (a b : Result (Option ℕ) Refusal) → said_of a ≡ said_of b → a ≡ b
said_one (Ok (Some d)) (Ok (Some e)) q = ap (λ (x : ℕ). Ok (Some x)) (ap (λ (x : Said). get_or x.values 1 0) q)
said_one (Ok (Some d)) (Ok Option.None) q = absurd (omega (arith, ap (λ (x : Said). get_or x.values 0 0) q))
said_one (Ok (Some d)) (Err r) q = absurd (refusal_no_answer r (1 ∷ d ∷ []) (sym q))
said_one (Ok Option.None) (Ok (Some e)) q = absurd (omega (arith, ap (λ (x : Said). get_or x.values 0 0) q))
said_one (Ok Option.None) (Ok Option.None) q = refl
said_one (Ok Option.None) (Err r) q = absurd (refusal_no_answer r (0 ∷ []) (sym q))
said_one (Err r) (Ok (Some e)) q = absurd (refusal_no_answer r (1 ∷ e ∷ []) q)
said_one (Err r) (Ok Option.None) q = absurd (refusal_no_answer r (0 ∷ []) q)
said_one (Err r) (Err s) q = ap Err (refusal_one r s q)

-- Two outcomes that the contracts allow are equal.
module _ (chosen starts heads weights : List ℕ) (s t : ℕ) (before : HandAreas) where
  hand_singles : Singles (hand_faults chosen starts heads weights s t before)
  hand_singles =
      singles_both (hand_input chosen starts heads weights s t) (lengths_fault (hand_lengths (length chosen) before) ∷ [])
      ((lone_set_singles chosen).0, ((lone_set_singles chosen).1.0, (of_single, (of_single, (of_single, tt))))) (of_single, tt)

  -- document 01's order: the faults tell these numbers, one after the other
  pub hand_numbered : Numbered (hand_faults chosen starts heads weights s t before) (1 ∷ 6 ∷ 7 ∷ 8 ∷ 9 ∷ 11 ∷ [])
  hand_numbered = (of_number, (of_number, (of_number, (of_number, (of_number, (of_number, tt))))))

module _ {chosen starts heads weights : List ℕ} {s t : ℕ} {before : HandAreas} where
  pub hand_one :
      {said said' : Said} {after after' : HandAreas} → HandOutcome chosen starts heads weights s t before said after → HandOutcome chosen starts heads weights s t before said' after' →
      (said ≡ said') × (after ≡ after')
  hand_one (HandOutcome.refused {r = r} f) (HandOutcome.refused {r = q} g) = (ap refusal (first_one (hand_faults chosen starts heads weights s t before) r q (hand_singles chosen starts heads weights s t before) f g), refl)
  hand_one (HandOutcome.refused {r = r} f) (HandOutcome.answered n x) = absurd (first_not_none (hand_faults chosen starts heads weights s t before) r f n)
  hand_one (HandOutcome.answered n x) (HandOutcome.refused {r = r} f) = absurd (first_not_none (hand_faults chosen starts heads weights s t before) r f n)
  hand_one (HandOutcome.answered n x) (HandOutcome.answered m y) = (answers_one x y, refl)

  -- and so are two answers
  pub hand_answer_one :
      (a b : Result (Option ℕ) Refusal) {after after' : HandAreas} → HandOutcome chosen starts heads weights s t before (said_of a) after →
      HandOutcome chosen starts heads weights s t before (said_of b) after' → (a ≡ b) × (after ≡ after')
  hand_answer_one a b o p = let e = hand_one o p in (said_one a b e.0, e.1)

  -- an input with two neighbouring faults, and none before them, is refused by the first
  pub hand_in_order :
      {said : Said} {after : HandAreas} → HandOutcome chosen starts heads weights s t before said after → (i : ℕ) (r q : Refusal) →
      NoneTo (hand_faults chosen starts heads weights s t before) i → HoldsAt (hand_faults chosen starts heads weights s t before) i r →
      HoldsAt (hand_faults chosen starts heads weights s t before) (suc i) q → said ≡ refusal r
  hand_in_order o i r q n f g = (hand_one o (HandOutcome.refused (first_at (hand_faults chosen starts heads weights s t before) i r n f))).0

module _ (starts heads weights chosen starts' heads' weights' : List ℕ) (s t : ℕ) (before : PairAreas) where
  pair_singles : Singles (pair_faults starts heads weights chosen starts' heads' weights' s t before)
  pair_singles =
      singles_both (pair_input starts heads weights chosen starts' heads' weights' s t) (lengths_fault (pair_lengths (nodes_of starts) (length heads) before) ∷ [])
      (singles_both (road_and_set_faults starts heads weights chosen) (overlay_fault chosen starts' heads' weights' ∷ node_fault (nodes_of starts) s t ∷ [])
      (road_and_set_singles starts heads weights chosen) (of_single, (of_single, tt))) (of_single, tt)

  pub pair_numbered : Numbered (pair_faults starts heads weights chosen starts' heads' weights' s t before) (1 ∷ 2 ∷ 3 ∷ 6 ∷ 7 ∷ 8 ∷ 11 ∷ [])
  pair_numbered =
      let g = graph_numbered road_limits starts heads weights in
      (g.0, (g.1.0, (g.1.1.0, (of_number, (of_number, (of_number, (of_number, tt)))))))

module _ {starts heads weights chosen starts' heads' weights' : List ℕ} {s t : ℕ} {before : PairAreas} where
  pub pair_one :
      {said said' : Said} {after after' : PairAreas} → PairOutcome starts heads weights chosen starts' heads' weights' s t before said after →
      PairOutcome starts heads weights chosen starts' heads' weights' s t before said' after' → (said ≡ said') × (after ≡ after')
  pair_one (PairOutcome.refused {r = r} f) (PairOutcome.refused {r = q} g) =
      (ap refusal (first_one (pair_faults starts heads weights chosen starts' heads' weights' s t before) r q (pair_singles starts heads weights chosen starts' heads' weights' s t before) f g), refl)
  pair_one (PairOutcome.refused {r = r} f) (PairOutcome.answered n x) = absurd (first_not_none (pair_faults starts heads weights chosen starts' heads' weights' s t before) r f n)
  pair_one (PairOutcome.answered n x) (PairOutcome.refused {r = r} f) = absurd (first_not_none (pair_faults starts heads weights chosen starts' heads' weights' s t before) r f n)
  pair_one (PairOutcome.answered n x) (PairOutcome.answered m y) = (answers_one x y, refl)

  pub pair_answer_one :
      (a b : Result (Option ℕ) Refusal) {after after' : PairAreas} → PairOutcome starts heads weights chosen starts' heads' weights' s t before (said_of a) after →
      PairOutcome starts heads weights chosen starts' heads' weights' s t before (said_of b) after' → (a ≡ b) × (after ≡ after')
  pair_answer_one a b o p = let e = pair_one o p in (said_one a b e.0, e.1)

  pub pair_in_order :
      {said : Said} {after : PairAreas} → PairOutcome starts heads weights chosen starts' heads' weights' s t before said after → (i : ℕ) (r q : Refusal) →
      NoneTo (pair_faults starts heads weights chosen starts' heads' weights' s t before) i → HoldsAt (pair_faults starts heads weights chosen starts' heads' weights' s t before) i r →
      HoldsAt (pair_faults starts heads weights chosen starts' heads' weights' s t before) (suc i) q → said ≡ refusal r
  pair_in_order o i r q n f g = (pair_one o (PairOutcome.refused (first_at (pair_faults starts heads weights chosen starts' heads' weights' s t before) i r n f))).0

-- Demand 3. The overlay call gave an answer: its starts, and both rooms' parts up to the count returned, are the overlay lent.
module _ {starts heads weights chosen : List ℕ} {before : Areas} {said : Said} {after : Areas} (a : Answer starts heads weights chosen before said after) where
  abbrev pub lent_heads : List ℕ
  lent_heads = take a.count after.heads

  abbrev pub lent_weights : List ℕ
  lent_weights = take a.count after.weights

  built_over : Over (road starts heads weights) (road after.starts lent_heads lent_weights) chosen
  built_over =
      record {
        nodes = as_nodes (road starts heads weights) chosen after.starts lent_heads lent_weights a.overlay;
        proper = road_proper road_limits starts heads weights a.sound;
        arc = written_arc (road starts heads weights) chosen after.starts lent_heads lent_weights a.overlay;
        pair = pair_written (road starts heads weights) chosen after.starts lent_heads lent_weights a.overlay a.bytes;
      }

  few_arcs : length lent_heads ≤ overlay_limits.arcs.0
  few_arcs = omega (arith, arcs_one (written_count (road starts heads weights) chosen after.starts lent_heads lent_weights a.overlay a.bytes) a.counted, a.few)

  module _ (s t : ℕ) where
    -- the handheld question between two nodes of the set
    module _ (areas : HandAreas) (long : Unlike (hand_lengths (length chosen) areas) → ⊥) (i : InSet chosen s) (j : InSet chosen t) where
      h : s < length chosen
      h = in_bytes chosen s i

      k : t < length chosen
      k = in_bytes chosen t j

      never_refused : None (hand_faults chosen after.starts lent_heads lent_weights s t areas)
      never_refused = (
        untold (set_size_clear chosen (λ z. omega (arith, h, z)) (omega (arith, a.bytes, a.sound.sized.most))),
        (
          untold (set_clear (length chosen) chosen refl (λ v _. a.bits v)),
          (
            untold (overlay_passes starts heads weights chosen a.sound a.bytes after.starts lent_heads lent_weights a.overlay few_arcs),
            (untold (nodes_clear (length chosen) s t h k), (untold (in_set_clear chosen s t i j), (untold long, tt))),
          ),
        ),
      )

      -- never refused, "no way" exactly if the road graph has no path, and otherwise the weight of some road path than which none weighs less
      pub handheld_is_road :
          {told : Said} {left : HandAreas} → HandOutcome chosen after.starts lent_heads lent_weights s t areas told left → Answers (Reaches (road starts heads weights) Any s t) told
      handheld_is_road (HandOutcome.refused {r = r} f) = absurd (first_not_none (hand_faults chosen after.starts lent_heads lent_weights s t areas) r f never_refused)
      handheld_is_road (HandOutcome.answered n x) =
          answers_carry (over_road (road starts heads weights) (road after.starts lent_heads lent_weights) chosen built_over (omega (arith, h, a.bytes)))
          (road_over (road starts heads weights) (road after.starts lent_heads lent_weights) chosen built_over i j (omega (arith, h, a.bytes))) x

    -- the any-pair question between any two nodes
    module _ (areas : PairAreas) (long : Unlike (pair_lengths (nodes_of starts) (length heads) areas) → ⊥) (h : s < nodes_of starts) (k : t < nodes_of starts) where
      never_refused_pair : None (pair_faults starts heads weights chosen after.starts lent_heads lent_weights s t areas)
      never_refused_pair =
          none_both (pair_input starts heads weights chosen after.starts lent_heads lent_weights s t) (lengths_fault (pair_lengths (nodes_of starts) (length heads) areas) ∷ [])
          (none_both (road_and_set_faults starts heads weights chosen) (overlay_fault chosen after.starts lent_heads lent_weights ∷ node_fault (nodes_of starts) s t ∷ [])
          (none_both (graph_faults road_limits starts heads weights) (set_fault (nodes_of starts) chosen ∷ []) (none_of_sound road_limits starts heads weights a.sound)
          (untold (set_clear (nodes_of starts) chosen a.bytes (λ v _. a.bits v)), tt))
          (untold (overlay_passes starts heads weights chosen a.sound a.bytes after.starts lent_heads lent_weights a.overlay few_arcs), (untold (nodes_clear (nodes_of starts) s t h k), tt)))
          (untold long, tt)

      pub any_pair_is_road :
          {told : Said} {left : PairAreas} → PairOutcome starts heads weights chosen after.starts lent_heads lent_weights s t areas told left →
          Answers (Reaches (road starts heads weights) Any s t) told
      any_pair_is_road (PairOutcome.refused {r = r} f) =
          absurd (first_not_none (pair_faults starts heads weights chosen after.starts lent_heads lent_weights s t areas) r f never_refused_pair)
      any_pair_is_road (PairOutcome.answered n x) =
          answers_carry (pair_road (road starts heads weights) (road after.starts lent_heads lent_weights) chosen built_over s t h)
          (road_pair (road starts heads weights) (road after.starts lent_heads lent_weights) chosen built_over s t h) x

-- a node is 0 from itself: the path of one node
one_node : (starts heads weights : List ℕ) (s : ℕ) → s < nodes_of starts → Reaches (road starts heads weights) Any s s 0
one_node starts heads weights s h = record { after = []; path = record { node = h; along = stop; different = ((λ m. m), tt) }; inner = tt }

pub itself_is_zero :
    (starts heads weights : List ℕ) (s : ℕ) → s < nodes_of starts → {told : Said} → Answers (Reaches (road starts heads weights) Any s s) told → told ≡ answer (1 ∷ 0 ∷ [])
itself_is_zero starts heads weights s h x = zero_said (one_node starts heads weights s h) x
