-- The queue and the search on its way, of a graph and a queue as they are lent.
use Rattle.std.specs.Prelude.{◌≡◌, List, ℕ, length}
use Rattle.road.specs.declared.Graph.{Graph}
use Rattle.search.specs.declared.Queue.{Queue}
use Rattle.search.specs.Lent.{SameSlices}
use Rattle.search.specs.workings.Queue.{Heap, Same}
use Rattle.search.specs.workings.States.{Going}

-- what the queue holds is a heap of the nodes that wait
abbrev pub HeapOf : Queue → Type 0
HeapOf queue = Heap queue.heap.now queue.places.now queue.waiting

-- and there is a label for each node, by which they are compared
pub record HeapBy (labels : List ℕ) (queue : Queue) : Type 0 where
  pub is_heap : HeapOf queue
  pub labelled : length labels ≡ length queue.places.now

-- nodes have changed places: the same nodes wait, in a heap over the same slices
pub record Moved (old new : Queue) : Type 0 where
  pub is_heap : HeapOf new
  pub same : Same old.places.now new.places.now
  pub waiting : new.waiting ≡ old.waiting
  pub slices : SameSlices old new

-- the search between two takes
abbrev pub GoingOf : Graph → List ℕ → ℕ → List ℕ → Queue → (ℕ → ℕ → Type 0) → Type 0
GoingOf graph blocked source labels queue P =
    Going graph.starts.now graph.heads.now graph.weights.now blocked source labels queue.heap.now queue.places.now queue.waiting P
