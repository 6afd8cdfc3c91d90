use Rattle.road.specs.workings.Scans.{ClearTo}
use lib.ListN.{get_or}
use Prim.Native.Nat.{◌≤◌}
use Rattle.road.proofs.arcs.check_row.Given as goal

abbrev pub invariant-loop-p : goal.invariant-loop-p
invariant-loop-p l = (get_or l.graph.starts.now l.tail 0 ≤ l.p) × (l.p ≤ l.p-end) × ClearTo l.limits l.graph.starts.now l.graph.heads.now l.graph.weights.now l.p
