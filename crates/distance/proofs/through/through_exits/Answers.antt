use Rattle.distance.proofs.Telling.{exits_more}
use Rattle.distance.proofs.through.through_exits.Goals as goal

pub loop-b-preserved : goal.loop-b-preserved
loop-b-preserved c = exits_more _ _ _ _ _ _ _ _ _ c.loop-b.invariant c.through_exit.ensures c.lesser-best.ensures
