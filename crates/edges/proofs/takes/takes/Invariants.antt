use Rattle.search.specs.workings.Lent.{GoingOf}
use Rattle.search.specs.workings.States.{All}
use Rattle.edges.proofs.takes.takes.Given as goal

abbrev pub invariant-loop-taken : goal.invariant-loop-taken
invariant-loop-taken l = GoingOf l.ask.graph l.ask.blocked.now l.ask.source l.labels l.queue All
