use Rattle.search.proofs.States.{Running}
use Rattle.search.specs.workings.States.{mass}
use Prim.Native.Nat.{◌+◌}
use Rattle.search.proofs.Ask.run.Given as goal

abbrev pub invariant-loop-queue : goal.invariant-loop-queue
invariant-loop-queue l =
    Running l.self.graph.starts.now l.self.graph.heads.now l.self.graph.weights.now l.self.blocked.now l.self.source l.initial.labels l.initial.queue l.labels l.queue

abbrev pub decreases-loop-queue : goal.decreases-loop-queue
decreases-loop-queue l = mass l.labels + l.queue.waiting
