use Rattle.pieces.proofs.Rows.{RowTo}
use Rattle.paths.specs.Graphs.{Any}
use lib.ListN.{length}
use Prim.Native.Nat.{◌<◌}
use Rattle.pieces.proofs.Side.top.Given as goal

abbrev pub invariant-loop-i : goal.invariant-loop-i
invariant-loop-i l = (l.best < length l.self.cover.now) × RowTo l.self.graph.starts.now l.self.graph.heads.now l.v Any l.i-end l.i
