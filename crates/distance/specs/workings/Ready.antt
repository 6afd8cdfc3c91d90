-- What the checks leave, and what is said of a label.
use Rattle.std.specs.Prelude.{◌≡◌, List, [], ◌∷◌, ℕ, zero, suc, ◌+◌, ◌*◌, ◌≤◌, ◌<◌, length, get_or}
use Rattle.road.specs.Limits.{road_limits, overlay_limits}
use Rattle.road.specs.Refusals.{Said, answer}
use Rattle.road.specs.Roads.{nodes_of}
use Rattle.road.specs.workings.Sound.{Sound}
use Rattle.road.specs.declared.GraphMut.{GraphMut}
use Rattle.distance.specs.declared.HandWork.{HandWork}
use Rattle.distance.specs.Calls.{HandAreas, PairAreas, pair_areas}

-- the same of a label
abbrev pub said_label : ℕ → Said
said_label zero = answer (0 ∷ [])
said_label (suc d) = answer (1 ∷ d ∷ [])

-- what the checks leave the handheld question
pub record HandReady (starts heads weights : List ℕ) (s t : ℕ) (a : HandAreas) : Type 0 where
  pub sound : Sound overlay_limits starts heads weights
  pub from : s < nodes_of starts
  pub to : t < nodes_of starts
  pub labels_long : length a.labels ≡ nodes_of starts
  pub heap_long : length a.heap ≡ 2 * nodes_of starts
  pub places_long : length a.places ≡ nodes_of starts
  pub touched_long : length a.touched ≡ nodes_of starts
  pub blocked_long : length a.blocked ≡ nodes_of starts

-- and the any-pair question
pub record PairReady (starts heads weights chosen starts' heads' weights' : List ℕ) (s t : ℕ) (a : PairAreas) : Type 0 where
  pub sound : Sound road_limits starts heads weights
  pub lent_sound : Sound overlay_limits starts' heads' weights'
  pub as_many : nodes_of starts' ≡ nodes_of starts
  pub bytes : length chosen ≡ nodes_of starts
  pub bits : (v : ℕ) → get_or chosen v 0 ≤ 1
  pub from : s < nodes_of starts
  pub to : t < nodes_of starts
  pub starts_long : length a.starts ≡ nodes_of starts + 1
  pub heads_long : length a.heads ≡ length heads
  pub weights_long : length a.weights ≡ length heads
  pub outward_long : length a.outward ≡ nodes_of starts
  pub inward_long : length a.inward ≡ nodes_of starts
  pub labels_long : length a.labels ≡ nodes_of starts
  pub heap_long : length a.heap ≡ 2 * nodes_of starts
  pub places_long : length a.places ≡ nodes_of starts
  pub touched_long : length a.touched ≡ nodes_of starts
  pub blocked_long : length a.blocked ≡ nodes_of starts

-- what the any-pair question's work holds, of the parts that it is handled in
abbrev pub parts_held : GraphMut → List ℕ → List ℕ → HandWork → PairAreas
parts_held back outward inward hand =
    pair_areas back.starts.now back.heads.now back.weights.now outward inward hand.labels.now hand.heap.now hand.places.now hand.touched.now hand.blocked.now
