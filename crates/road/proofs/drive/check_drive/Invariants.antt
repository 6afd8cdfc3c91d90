use Rattle.road.specs.workings.Scans.{Entered}
use Rattle.road.proofs.drive.check_drive.Given as goal

abbrev pub invariant-loop-i : goal.invariant-loop-i
invariant-loop-i l = Entered l.graph.starts.now l.graph.heads.now l.drive l.i
