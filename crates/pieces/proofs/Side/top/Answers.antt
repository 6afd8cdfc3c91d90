use Rattle.pieces.proofs.Rows.{row_none}
use Rattle.pieces.proofs.Side.top.Goals as goal

pub loop-i-init : goal.loop-i-init
loop-i-init c = (c.requires.p_in_bounds, row_none _ _ _ _ _ c.args.self.now.searchable c.requires.v_in_bounds c.row-row.ensures.end _ _ c.row-row.ensures.first)
