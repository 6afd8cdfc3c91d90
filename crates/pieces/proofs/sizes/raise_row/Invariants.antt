use Rattle.pieces.proofs.Rows.{RowTo}
use Rattle.pieces.specs.workings.Pieces.{Raises, Raised}
use Rattle.pieces.proofs.sizes.raise_row.Given as goal

abbrev pub invariant-loop-i : goal.invariant-loop-i
invariant-loop-i l = (Raises l.r l.initial.sizes l.initial.pieces l.waiting l.sizes l.pieces l.count) × RowTo l.graph.starts.now l.graph.heads.now l.x (Raised l.cover l.sizes l.r) l.i-end l.i
