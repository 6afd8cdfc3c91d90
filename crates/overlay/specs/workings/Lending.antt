-- What counting and writing speak of, of a graph and a queue as they are lent.
use Rattle.std.specs.Prelude.{◌≡◌, List, ℕ}
use Rattle.road.specs.declared.Graph.{Graph}
use Rattle.search.specs.declared.Queue.{Queue}
use Rattle.search.specs.Lent.{SameSlices}
use Rattle.overlay.specs.workings.Writing.{Searching}

-- what counting and writing ask
abbrev pub SearchingOf : Graph → List ℕ → List ℕ → Queue → Type 0
SearchingOf graph chosen labels queue =
    Searching graph.starts.now graph.heads.now graph.weights.now chosen labels queue.heap.now queue.places.now

-- the queue's slices are the same, and hold what they held
pub record QueueStays (old new : Queue) : Type 0 where
  pub heap : new.heap.now ≡ old.heap.now
  pub places : new.places.now ≡ old.places.now
  pub slices : SameSlices old new
