use mathlib.Core.Path.{◌≡◌}
use lib.ListN.{length}
use Rattle.road.specs.Lent.{SameSlices}
use Rattle.road.specs.Lent.{road_of}
use Rattle.overlay.specs.workings.Lending.{QueueStays}
use Rattle.overlay.specs.workings.Writing.{Building}
use Rattle.overlay.proofs.writing.write_arcs.Given as goal

abbrev pub invariant-loop-tail : goal.invariant-loop-tail
invariant-loop-tail l =
    Building (road_of l.graph) l.set l.tail l.fn.rooms.heads.now l.fn.rooms.weights.now l.rooms.starts.now l.rooms.heads.now l.rooms.weights.now l.count.0 ×
    SameSlices l.fn.rooms l.rooms × (length l.labels ≡ length l.fn.labels) × QueueStays l.fn.queue l.queue
