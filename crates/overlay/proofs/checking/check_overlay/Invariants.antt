use Rattle.overlay.specs.workings.Ends.{EndsBelow}
use Rattle.overlay.proofs.checking.check_overlay.Given as goal

abbrev pub invariant-loop-tail : goal.invariant-loop-tail
invariant-loop-tail l = EndsBelow l.set l.overlay.starts.now l.overlay.heads.now l.tail
