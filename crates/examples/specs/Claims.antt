-- What an example claims, in the definitions that the calls' contracts cite.
use Rattle.std.specs.Prelude.{◌≡◌, List, ℕ}
use Rattle.road.specs.declared.Refusal.{Refusal}
use Rattle.road.specs.Chains.{cover_faults, road_and_set_faults, drive_faults}
use Rattle.road.specs.Counting.{times}
use Rattle.road.specs.Refusals.{Fault, None, First, Said, number_of}
use Rattle.road.specs.Roads.{nodes_of}
use Rattle.rule.specs.Rule.{PathOf, Pruned}
use Rattle.overlay.specs.Overlays.{OverlayOf}
use Rattle.distance.specs.Calls.{Answers, pair_input}
use Rattle.distance.specs.Questions.{AnyPair}
use Rattle.examples.specs.Graphs.{Lent, road_of}

-- the cover of k and this order: a byte for each node, and how many are 1
pub record CoverIs (g : Lent) (k : ℕ) (order bytes : List ℕ) (count : ℕ) : Type 0 where
  pub taken : None (cover_faults g.starts g.heads g.weights k order)
  pub pruned : Pruned (PathOf (road_of g) k) (nodes_of g.starts) order bytes
  pub counted : times 1 bytes ≡ count

-- the overlay of the set
pub record OverlayIs (g : Lent) (set : List ℕ) (o : Lent) : Type 0 where
  pub taken : None (road_and_set_faults g.starts g.heads g.weights set)
  pub overlay : OverlayOf (road_of g) set o.starts o.heads o.weights

-- what the any-pair question from s to t says over the overlay of the set
pub record AnswerIs (g : Lent) (set : List ℕ) (o : Lent) (s t : ℕ) (said : Said) : Type 0 where
  pub overlay : OverlayOf (road_of g) set o.starts o.heads o.weights
  pub taken : None (pair_input g.starts g.heads g.weights set o.starts o.heads o.weights s t)
  pub answers : Answers (AnyPair (road_of g) (road_of o) set s t) said

-- the first of the faults is of the refusal with this number
pub record RefusedBy (faults : List Fault) (number : ℕ) : Type 0 where
  pub refusal : Refusal
  pub first : First faults refusal
  pub numbered : number_of refusal ≡ number

pub data Claim : Type 0 where
  cover : (k : ℕ) (order bytes : List ℕ) (count : ℕ) → Claim
  overlay : (set : List ℕ) (overlay : Lent) → Claim
  distance : (set : List ℕ) (overlay : Lent) (from to : ℕ) (said : Said) → Claim
  refused_drive : (set drive : List ℕ) (number : ℕ) → Claim

-- what the claim says of a graph
abbrev pub Holds : Lent → Claim → Type 0
Holds g (cover k order bytes count) = CoverIs g k order bytes count
Holds g (overlay set o) = OverlayIs g set o
Holds g (distance set o s t said) = AnswerIs g set o s t said
Holds g (refused_drive set drive number) = RefusedBy (drive_faults g.starts g.heads g.weights set drive) number
