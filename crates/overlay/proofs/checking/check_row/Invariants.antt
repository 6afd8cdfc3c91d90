use Rattle.overlay.specs.workings.Ends.{RowEndsTo}
use Rattle.overlay.proofs.checking.check_row.Given as goal

abbrev pub invariant-loop-p : goal.invariant-loop-p
invariant-loop-p l = RowEndsTo l.set l.overlay.starts.now l.overlay.heads.now l.tail l.p
