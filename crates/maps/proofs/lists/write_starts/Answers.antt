use native.Mathlib.Omega.{arith}
use Rattle.maps.specs.Lists.{belows}
use Rattle.maps.proofs.Fills.{filled_more, belows_more}
use Rattle.maps.proofs.lists.write_starts.Goals as goal

pub loop-v-preserved : goal.loop-v-preserved
loop-v-preserved c =
    filled_more (belows c.args.tails.now 0) _ _ _ _ (omega (arith, c.loop-v-test.true))
    (belows_more c.args.tails.now c.loop-v.v _ c.count_below.ensures) c.loop-v.invariant
