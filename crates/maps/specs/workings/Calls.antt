-- What the calls say and leave, whatever work they are lent.
use Rattle.std.specs.Prelude.{◌≡◌, List, [], ◌∷◌, ◌++◌, ℕ, ◌+◌, ◌≤◌, length, drop}
use Rattle.road.specs.declared.Refusal.{Refusal}
use Rattle.road.specs.declared.Refusal.TheVariants.{Room}
use Rattle.road.specs.Chains.{cover_faults, road_and_set_faults}
use Rattle.road.specs.Counting.{times}
use Rattle.road.specs.Refusals.{First, None, Said, refusal, answer}
use Rattle.road.specs.Roads.{nodes_of, road}
use Rattle.rule.specs.Rule.{PathOf, Pruned}
use Rattle.overlay.specs.Calls.{TooMany}
use Rattle.overlay.specs.Overlays.{OverlayOf}
use Rattle.distance.specs.Calls.{Answers, pair_input}
use Rattle.distance.specs.Questions.{AnyPair}
use Rattle.maps.specs.Lists.{numbers}

-- a graph that the work has room for
pub record GraphFits (starts heads : List ℕ) : Type 0 where
  pub some : 1 ≤ length starts
  pub nodes : length starts ≤ 513
  pub arcs : length heads ≤ 2048

pub record CoverFits (starts heads chosen : List ℕ) : Type 0 where
  pub graph : GraphFits starts heads
  pub bytes : length chosen ≡ nodes_of starts

pub data CoverFound (starts heads weights : List ℕ) (k : ℕ) (before : List ℕ) : Said → List ℕ → Type 0 where
  refused : {r : Refusal} → First (cover_faults starts heads weights k (numbers 0 (nodes_of starts))) r → CoverFound starts heads weights k before (refusal r) before
  covered :
      {cover : List ℕ} → None (cover_faults starts heads weights k (numbers 0 (nodes_of starts))) →
      Pruned (PathOf (road starts heads weights) k) (nodes_of starts) (numbers 0 (nodes_of starts)) cover →
      CoverFound starts heads weights k before (answer (times 1 cover ∷ [])) cover

pub record OverlayFits (starts heads starts' heads' weights' : List ℕ) : Type 0 where
  pub graph : GraphFits starts heads
  pub starts_long : length starts' ≡ nodes_of starts + 1
  pub rooms : length heads' ≡ length weights'

pub data OverlayFound (starts heads weights chosen : List ℕ) (before-starts before-heads before-weights : List ℕ) : Said → List ℕ → List ℕ → List ℕ → Type 0 where
  refused :
      {r : Refusal} → First (road_and_set_faults starts heads weights chosen) r →
      OverlayFound starts heads weights chosen before-starts before-heads before-weights (refusal r) before-starts before-heads before-weights
  full :
      None (road_and_set_faults starts heads weights chosen) → TooMany (road starts heads weights) chosen (length before-heads) →
      OverlayFound starts heads weights chosen before-starts before-heads before-weights (refusal Room) before-starts before-heads before-weights
  built :
      {starts' heads' weights' : List ℕ} → None (road_and_set_faults starts heads weights chosen) →
      (TooMany (road starts heads weights) chosen (length before-heads) → ⊥) → OverlayOf (road starts heads weights) chosen starts' heads' weights' →
      OverlayFound starts heads weights chosen before-starts before-heads before-weights (answer (length heads' ∷ [])) starts'
      (heads' ++ drop (length heads') before-heads) (weights' ++ drop (length weights') before-weights)

abbrev pub PairFits : List ℕ → List ℕ → Type 0
PairFits = GraphFits

pub data PairFound (starts heads weights chosen starts' heads' weights' : List ℕ) (s t : ℕ) : Said → Type 0 where
  refused :
      {r : Refusal} → First (pair_input starts heads weights chosen starts' heads' weights' s t) r →
      PairFound starts heads weights chosen starts' heads' weights' s t (refusal r)
  answered :
      {said : Said} → None (pair_input starts heads weights chosen starts' heads' weights' s t) →
      Answers (AnyPair (road starts heads weights) (road starts' heads' weights') chosen s t) said →
      PairFound starts heads weights chosen starts' heads' weights' s t said
