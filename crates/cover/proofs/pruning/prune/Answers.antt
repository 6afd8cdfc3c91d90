use Rattle.rule.proofs.Rules.{going_on, going_end}
use Rattle.cover.proofs.pruning.prune.Goals as goal

pub loop-v-preserved : goal.loop-v-preserved
loop-v-preserved c = (going_on _ _ _ _ _ c.loop-v.invariant.0 c.loop-v-test.true c.take_node.ensures.took, c.take_node.ensures.still_kept)

pub returns : goal.returns
returns c = going_end _ _ _ _ c.loop-v.invariant.0 c.loop-v-test.false
