use Rattle.road.specs.workings.Scans.{Clear}
use Rattle.road.specs.Roads.{nodes_of}
use Prim.Native.Nat.{◌≤◌}
use Rattle.road.proofs.arcs.check_arcs.Given as goal

abbrev pub invariant-loop-tail : goal.invariant-loop-tail
invariant-loop-tail l = (l.tail ≤ nodes_of l.graph.starts.now) × Clear l.limits l.graph.starts.now l.graph.heads.now l.graph.weights.now l.tail
