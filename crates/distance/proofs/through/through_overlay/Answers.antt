use Rattle.distance.proofs.Searches.{leaves_again}
use Rattle.distance.proofs.Telling.{entries_more, entries_all}
use Rattle.distance.proofs.through.through_overlay.Goals as goal

pub loop-a-preserved : goal.loop-a-preserved
loop-a-preserved c = (entries_more _ _ _ _ _ _ _ _ _ _ c.loop-a.invariant.0 c.through_entry.ensures.told c.lesser-best.ensures, leaves_again c.loop-a.invariant.1 c.through_entry.ensures.leaves)

pub returns-clause-told : goal.returns-clause-told
returns-clause-told c = entries_all _ _ _ _ _ _ _ _ _ c.loop-a.invariant.0 c.loop-a.auto.a-end c.loop-a-test.false
