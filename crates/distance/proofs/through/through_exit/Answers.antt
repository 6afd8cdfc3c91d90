use Rattle.distance.proofs.Telling.{says_told, says_as, told_sum, gate_modest}
use Rattle.distance.proofs.through.through_exit.Goals as goal

pub sum-requires-clause-modest_3 : goal.sum-requires-clause-modest_3
sum-requires-clause-modest_3 c = gate_modest _ _ _ _ _ c.gate-last.ensures c.requires.rows.inward_small

pub returns : goal.returns
returns c = told_sum _ _ _ _ (says_told _) (says_as _ _ c.shown-middle.ensures) c.gate-last.ensures c.sum.ensures
