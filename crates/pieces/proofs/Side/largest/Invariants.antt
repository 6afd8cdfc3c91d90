use Rattle.pieces.proofs.Rows.{RowTo}
use Rattle.pieces.specs.workings.Pieces.{Below}
use Rattle.pieces.proofs.Side.largest.Given as goal

abbrev pub invariant-loop-i : goal.invariant-loop-i
invariant-loop-i l = RowTo l.self.graph.starts.now l.self.graph.heads.now l.v (Below l.self.cover.now l.self.sizes.now l.but l.best) l.i-end l.i
