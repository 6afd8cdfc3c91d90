use native.Mathlib.Omega.{arith}
use Rattle.maps.specs.Lists.{numbers}
use Rattle.maps.proofs.Fills.{filled_more, counted_more}
use Rattle.maps.proofs.lists.count_up.Goals as goal

pub loop-i-preserved : goal.loop-i-preserved
loop-i-preserved c = filled_more (numbers 0) _ _ _ _ (omega (arith, c.loop-i-test.true)) (counted_more c.loop-i.i) c.loop-i.invariant
