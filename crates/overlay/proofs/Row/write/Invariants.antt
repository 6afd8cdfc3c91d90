use Rattle.overlay.specs.workings.Writing.{Wrote}
use Rattle.overlay.proofs.Row.write.Given as goal

abbrev pub invariant-loop-v : goal.invariant-loop-v
invariant-loop-v l = Wrote l.self.set.now l.self.labels.now l.self.tail l.v l.initial.heads l.initial.weights l.heads l.weights l.count.0
