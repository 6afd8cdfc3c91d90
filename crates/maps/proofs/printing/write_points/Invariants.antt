use Rattle.maps.proofs.Printed.{Points}
use Rattle.maps.proofs.printing.write_points.Given as goal

abbrev pub invariant-loop-v : goal.invariant-loop-v
invariant-loop-v l = Points l.initial.out l.set l.v l.out
