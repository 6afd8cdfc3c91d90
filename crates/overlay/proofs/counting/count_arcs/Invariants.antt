use mathlib.Core.Path.{◌≡◌}
use lib.ListN.{length}
use Rattle.overlay.specs.Overlays.{Arcs}
use Rattle.road.specs.Lent.{road_of}
use Rattle.overlay.specs.workings.Lending.{QueueStays}
use Rattle.overlay.proofs.counting.count_arcs.Given as goal

abbrev pub invariant-loop-tail : goal.invariant-loop-tail
invariant-loop-tail l =
    Arcs (road_of l.graph) l.set l.tail l.count.0 × (length l.labels ≡ length l.initial.labels) × QueueStays l.initial.queue l.queue
