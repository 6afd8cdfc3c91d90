use Rattle.search.proofs.States.{Relaxing}
use Rattle.search.proofs.Ask.relax.Given as goal

abbrev pub invariant-loop-p : goal.invariant-loop-p
invariant-loop-p l =
    Relaxing l.self.graph.starts.now l.self.graph.heads.now l.self.graph.weights.now l.self.blocked.now l.self.source l.u l.initial.labels l.initial.queue l.base l.p-end l.p l.labels l.queue
