-- The search in the overlay and the ways through it, of what is lent.
use Rattle.std.specs.Prelude.{◌≡◌, ℕ}
use Rattle.road.specs.declared.Graph.{Graph}
use Rattle.distance.specs.declared.HandWork.{HandWork}
use Rattle.distance.specs.declared.Ways.{Ways}
use Rattle.distance.specs.Lent.{SameHand}
use Rattle.distance.specs.workings.Labels.{Rows, Searchable}

-- what a search in the overlay asks of the work
abbrev pub SearchableIn : Graph → HandWork → Type 0
SearchableIn overlay hand =
    Searchable overlay.starts.now overlay.heads.now overlay.weights.now hand.blocked.now hand.labels.now hand.heap.now hand.places.now

-- what it leaves: all but the labels as it was, so that the next search can follow
pub record Leaves (overlay : Graph) (before after : HandWork) : Type 0 where
  pub searchable : SearchableIn overlay after
  pub heap : after.heap.now ≡ before.heap.now
  pub places : after.places.now ≡ before.places.now
  pub touched : after.touched.now ≡ before.touched.now
  pub blocked : after.blocked.now ≡ before.blocked.now
  pub same_slices : SameHand before after

-- the set and the two rows are of n nodes
abbrev pub RowsOf : Ways → ℕ → Type 0
RowsOf ways n = Rows ways.set.now ways.outward.now ways.inward.now ways.s ways.t n
