use Rattle.road.proofs.Drives.{Between}
use Prim.Native.Nat.{◌-◌}
use Rattle.road.proofs.Graph.joined.Given as goal

abbrev pub invariant-loop-low : goal.invariant-loop-low
invariant-loop-low l = Between l.self.starts.now l.self.heads.now l.u l.v l.low l.high

abbrev pub decreases-loop-low : goal.decreases-loop-low
decreases-loop-low l = l.high - l.low
