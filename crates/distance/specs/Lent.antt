-- The work that the questions are lent: what it holds, and that its slices stay the same slices.
use Rattle.std.specs.Prelude.{◌≡◌}
use Rattle.distance.specs.declared.HandWork.{HandWork}
use Rattle.distance.specs.declared.PairWork.{PairWork}
use Rattle.distance.specs.Calls.{HandAreas, PairAreas, hand_areas, pair_areas}

-- what the handheld question's work holds
abbrev pub hand_areas_of : HandWork → HandAreas
hand_areas_of w = hand_areas w.labels.now w.heap.now w.places.now w.touched.now w.blocked.now

-- its slices are the same slices, whatever they hold
pub record SameHand (old new : HandWork) : Type 0 where
  pub labels : new.labels.ghost_name ≡ old.labels.ghost_name
  pub heap : new.heap.ghost_name ≡ old.heap.ghost_name
  pub places : new.places.ghost_name ≡ old.places.ghost_name
  pub touched : new.touched.ghost_name ≡ old.touched.ghost_name
  pub blocked : new.blocked.ghost_name ≡ old.blocked.ghost_name

-- what the any-pair question's work holds
abbrev pub pair_areas_of : PairWork → PairAreas
pair_areas_of w =
    pair_areas w.starts.now w.heads.now w.weights.now w.outward.now w.inward.now w.labels.now w.heap.now w.places.now w.touched.now w.blocked.now

-- its slices too
pub record SamePair (old new : PairWork) : Type 0 where
  pub starts : new.starts.ghost_name ≡ old.starts.ghost_name
  pub heads : new.heads.ghost_name ≡ old.heads.ghost_name
  pub weights : new.weights.ghost_name ≡ old.weights.ghost_name
  pub outward : new.outward.ghost_name ≡ old.outward.ghost_name
  pub inward : new.inward.ghost_name ≡ old.inward.ghost_name
  pub labels : new.labels.ghost_name ≡ old.labels.ghost_name
  pub heap : new.heap.ghost_name ≡ old.heap.ghost_name
  pub places : new.places.ghost_name ≡ old.places.ghost_name
  pub touched : new.touched.ghost_name ≡ old.touched.ghost_name
  pub blocked : new.blocked.ghost_name ≡ old.blocked.ghost_name
