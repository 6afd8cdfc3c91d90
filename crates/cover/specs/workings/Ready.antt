-- What the checks leave, and what building leaves.
use Rattle.std.specs.Prelude.{◌≡◌, List, ℕ, ◌+◌, length, replicate}
use Rattle.road.specs.Counting.{times}
use Rattle.road.specs.Faults.{Permutation}
use Rattle.road.specs.Limits.{road_limits}
use Rattle.road.specs.Roads.{nodes_of, road}
use Rattle.road.specs.workings.Sound.{Sound}
use Rattle.rule.specs.Rule.{PathOf, Pruned}
use Rattle.road.specs.workings.Left.{OfK}
use Rattle.pieces.specs.declared.Roads.{Roads}
use Rattle.pieces.specs.workings.Steps.{road_of}
use Rattle.cover.specs.declared.Work.{Work}
use Rattle.cover.specs.Calls.{Areas, answered}

-- the paths that are covered
abbrev pub paths_of : Roads → List ℕ → Type 0
paths_of r = PathOf (road_of r) r.k.0

-- what the checks leave: the graph is well formed, k and the order are right, and so are the lengths
pub record Ready (starts heads weights : List ℕ) (k : ℕ) (order : List ℕ) (a : Areas) : Type 0 where
  pub sound : Sound road_limits starts heads weights
  pub k_right : OfK k
  pub order_right : Permutation (nodes_of starts) order
  pub cover_long : length a.cover ≡ nodes_of starts
  pub starts_long : length a.starts ≡ nodes_of starts + 1
  pub heads_long : length a.heads ≡ length heads
  pub weights_long : length a.weights ≡ length heads
  pub marks_long : length a.marks ≡ nodes_of starts
  pub pieces_long : length a.pieces ≡ nodes_of starts
  pub sizes_long : length a.sizes ≡ nodes_of starts

-- the areas once the cover is built
pub record Built (starts heads weights : List ℕ) (k : ℕ) (order : List ℕ) (after : Areas) (count : ℕ) : Type 0 where
  pub pruned : Pruned (PathOf (road starts heads weights) k) (nodes_of starts) order after.cover
  pub count_right : count ≡ times 1 after.cover
  pub zeros : after ≡ answered (nodes_of starts) (length heads) after.cover

-- all of the work filled with zeros
pub record Cleared (old new : Work) : Type 0 where
  pub starts : new.back.now.starts.now ≡ replicate (length old.back.now.starts.now) 0
  pub heads : new.back.now.heads.now ≡ replicate (length old.back.now.heads.now) 0
  pub weights : new.back.now.weights.now ≡ replicate (length old.back.now.weights.now) 0
  pub marks : new.marks.now ≡ replicate (length old.marks.now) 0
  pub pieces : new.pieces.now ≡ replicate (length old.pieces.now) 0
  pub sizes : new.sizes.now ≡ replicate (length old.sizes.now) 0
