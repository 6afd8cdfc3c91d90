use Rattle.overlay.specs.workings.Writing.{Found}
use Rattle.overlay.specs.Numbers.{Number}
use Rattle.overlay.proofs.Row.count.Given as goal

abbrev pub invariant-loop-v : goal.invariant-loop-v
invariant-loop-v l = Number (Found l.self.set.now l.self.labels.now l.self.tail) l.v l.count
