use Rattle.drive.proofs.Picks.{picking_same, picking_missed, picking_met, picking_room}
use Rattle.drive.proofs.picking.pick.Goals as goal
use Rattle.drive.proofs.picking.pick.Goals.{else-is_kept, then-is_kept}

pub loop-i-preserved : goal.loop-i-preserved
loop-i-preserved c = elim c.if-is_kept.branch [ then-is_kept w ↦ picking_same _ _ _ _ _ _ _ _ (picking_met _ _ _ _ _ _ c.loop-i.invariant (c.is_kept.ensures.yes w.if-is_kept.true) (picking_room _ _ _ _ _ _ c.loop-i.invariant c.requires c.loop-i-test.true)) w.positions-is w.count-is | else-is_kept w ↦ picking_same _ _ _ _ _ _ _ _ (picking_missed _ _ _ _ _ _ c.loop-i.invariant c.loop-i-test.true (c.is_kept.ensures.no w.if-is_kept.false)) w.positions-is w.count-is ]
