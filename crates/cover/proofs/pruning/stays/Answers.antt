use Rattle.cover.proofs.Counted.{few_stays_not}
use Rattle.road.proofs.Refusals.{tells_no}
use Rattle.cover.proofs.pruning.stays.Goals as goal

pub returns-then-too_few : goal.returns-then-too_few
returns-then-too_few c = tells_no (few_stays_not _ _ _ _ _ _ _ _ _ _ c.requires.prunable c.requires.v_in_bounds c.too_few.ensures c.if-too_few.true)
