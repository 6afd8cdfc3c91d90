use Rattle.pieces.proofs.Spreading.{Spreading}
use Rattle.road.specs.Lent.{road_of}
use lib.ListN.{length}
use Prim.Native.Nat.{◌-◌}
use Rattle.pieces.proofs.sizes.spread.Given as goal

abbrev pub invariant-loop-i : goal.invariant-loop-i
invariant-loop-i l = Spreading (road_of l.graph) l.cover l.r l.initial.sizes l.sizes l.pieces l.i l.count

abbrev pub decreases-loop-i : goal.decreases-loop-i
decreases-loop-i l = length l.pieces - l.i
