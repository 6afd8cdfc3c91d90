use Rattle.cover.proofs.Counted.{counted_few}
use Rattle.road.proofs.Counting.{times_met, times_missed}
use native.Mathlib.Omega.{arith}
use Rattle.cover.proofs.pruning.too_few.Goals as goal
use Rattle.cover.proofs.pruning.too_few.Goals.{else-byte-eq0, then-byte-eq0}

pub loop-byte-preserved : goal.loop-byte-preserved
loop-byte-preserved c = elim c.if-byte-eq0.branch [
  | then-byte-eq0 w ↦ omega (arith, c.loop-byte.invariant, times_met c.args.cover.now c.loop-byte.byte-index 0 c.loop-byte-test.true w.if-byte-eq0.true)
  | else-byte-eq0 w ↦ omega (arith, c.loop-byte.invariant, times_missed c.args.cover.now c.loop-byte.byte-index 0 c.loop-byte-test.true w.if-byte-eq0.false)
]

pub returns : goal.returns
returns c = counted_few _ _ _ _ c.loop-byte.invariant (omega arith)
