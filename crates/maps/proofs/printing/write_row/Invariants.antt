use Rattle.maps.proofs.Printed.{Row}
use Rattle.maps.proofs.printing.write_row.Given as goal

abbrev pub invariant-loop-p : goal.invariant-loop-p
invariant-loop-p l = Row l.initial.out l.graph.heads.now l.graph.weights.now l.tail l.initial.p l.p l.out
