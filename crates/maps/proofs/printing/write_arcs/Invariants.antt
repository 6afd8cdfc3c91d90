use Rattle.maps.proofs.Printed.{Rows}
use Rattle.maps.proofs.printing.write_arcs.Given as goal

abbrev pub invariant-loop-u : goal.invariant-loop-u
invariant-loop-u l = Rows l.initial.out l.graph.starts.now l.graph.heads.now l.graph.weights.now l.u l.out
