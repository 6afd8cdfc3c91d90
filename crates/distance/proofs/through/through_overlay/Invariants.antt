use Rattle.road.specs.Roads.{road}
use Rattle.paths.specs.Least.{Told}
use Rattle.distance.specs.workings.Labels.{Entries, label_of}
use Rattle.distance.specs.workings.Through.{Leaves}
use Rattle.distance.proofs.through.through_overlay.Given as goal

abbrev pub invariant-loop-a : goal.invariant-loop-a
invariant-loop-a l =
    Told (Entries (road l.overlay.starts.now l.overlay.heads.now l.overlay.weights.now) l.ways.set.now l.ways.outward.now l.ways.inward.now l.ways.s l.ways.t l.a) (label_of l.best) ×
    Leaves l.overlay l.initial.hand l.hand
