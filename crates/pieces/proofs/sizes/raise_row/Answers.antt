use Rattle.pieces.proofs.Spreading.{room_after, raises_then, raises_grown, raised_still}
use Rattle.pieces.proofs.Rows.{row_none, row_more}
use Rattle.pieces.specs.workings.Pieces.{none}
use Rattle.pieces.proofs.sizes.raise_row.Goals as goal

pub loop-i-init : goal.loop-i-init
loop-i-init c = (none, row_none _ _ _ _ _ c.requires.searchable c.requires.x_in_bounds c.row-row.ensures.end _ _ c.row-row.ensures.first)

pub raise-count-requires-clause-room : goal.raise-count-requires-clause-room
raise-count-requires-clause-room c = room_after c.loop-i.invariant.0 c.requires.room

pub loop-i-preserved : goal.loop-i-preserved
loop-i-preserved c = (raises_then c.loop-i.invariant.0 c.raise-count.ensures.raises, row_more _ _ _ _ _ _ _ c.loop-i.invariant.1 c.loop-i-test.true (raised_still _ (raises_grown c.raise-count.ensures.raises)) c.raise-count.ensures.raised)
