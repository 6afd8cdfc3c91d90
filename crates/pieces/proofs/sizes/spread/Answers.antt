use Rattle.pieces.proofs.Spreading.{spreading_more, spreading_end, room_after}
use Rattle.pieces.proofs.Ready.{search_back}
use Rattle.pieces.proofs.sizes.spread.Goals as goal

pub raise_row-count-requires-in-loop-i-clause-searchable : goal.raise_row-count-requires-in-loop-i-clause-searchable
raise_row-count-requires-in-loop-i-clause-searchable c = search_back _ _ _ _ _ _ _ c.requires.prunable

pub raise_row-count-requires-in-loop-i-clause-room : goal.raise_row-count-requires-in-loop-i-clause-room
raise_row-count-requires-in-loop-i-clause-room c = room_after c.raise_row-count.ensures.raises c.loop-i.invariant.spreads.room

pub loop-i-preserved : goal.loop-i-preserved
loop-i-preserved c = spreading_more _ _ _ _ _ _ _ _ _ c.requires.prunable.turned.round c.loop-i.invariant c.loop-i-test.true c.raise_row-count.ensures.raises c.raise_row-count.ensures.row c.raise_row-count-in-loop-i.ensures.raises c.raise_row-count-in-loop-i.ensures.row

pub returns : goal.returns
returns c = spreading_end c.loop-i.invariant c.loop-i-test.false
