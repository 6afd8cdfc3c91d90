use Rattle.std.specs.Prelude.{Some}
use Rattle.paths.specs.Least.{Told}
use Rattle.distance.specs.workings.Labels.{Exits, label_of}
use Rattle.distance.proofs.through.through_exits.Given as goal

abbrev pub invariant-loop-b : goal.invariant-loop-b
invariant-loop-b l = Told (Exits l.ways.set.now l.labels l.ways.inward.now l.ways.t (label_of (Some l.first)) l.b) (label_of l.best)
