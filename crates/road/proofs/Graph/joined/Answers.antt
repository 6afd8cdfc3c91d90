use Rattle.road.proofs.Drives.{between_left, between_right, middle_joined, middle_listed}
use Rattle.road.proofs.Refusals.{tells_yes}
use native.Mathlib.Omega.{arith}
use lib.ListN.{length}
use Prim.Native.Nat.{◌+◌, ◌-◌, ◌/◌, ◌<◌}
use Rattle.road.proofs.Graph.joined.Goals as goal

pub bounds-heads-middle : goal.bounds-heads-middle
bounds-heads-middle c = middle_listed _ _ c.requires.sorted _ _ _ _ _ c.loop-low.invariant (omega arith) (omega arith)

pub returns-then-heads-middle : goal.returns-then-heads-middle
returns-then-heads-middle c = tells_yes (middle_joined _ _ c.requires.sorted _ _ _ _ _ c.loop-low.invariant (omega arith) (omega arith) c.if-heads-middle.true)

pub bounds-heads-middle-in-loop-low : goal.bounds-heads-middle-in-loop-low
bounds-heads-middle-in-loop-low c = middle_listed _ _ c.requires.sorted _ _ _ _ _ c.loop-low.invariant (omega arith) (omega arith)

pub loop-low-preserved-then-heads-middle-2 : goal.loop-low-preserved-then-heads-middle-2
loop-low-preserved-then-heads-middle-2 c = between_right _ _ c.requires.sorted _ _ _ _ _ c.loop-low.invariant (omega arith) (omega arith) c.if-heads-middle-2.true

pub loop-low-preserved : goal.loop-low-preserved
loop-low-preserved c = between_left _ _ c.requires.sorted _ _ _ _ _ c.loop-low.invariant (omega arith) (omega arith) (omega (arith, c.if-heads-middle.false))

pub offset_bounds-heads-middle : goal.offset_bounds-heads-middle
offset_bounds-heads-middle c = let listed : (c.loop-low.low + (c.loop-low.high - c.loop-low.low) / 2) < length c.args.self.now.heads.now = middle_listed _ _ c.requires.sorted _ _ _ _ (c.loop-low.low + (c.loop-low.high - c.loop-low.low) / 2) c.loop-low.invariant (omega arith) (omega arith) in grind (arith, listed)

pub offset_bounds-heads-middle-in-loop-low : goal.offset_bounds-heads-middle-in-loop-low
offset_bounds-heads-middle-in-loop-low c = let listed : (c.loop-low.low + (c.loop-low.high - c.loop-low.low) / 2) < length c.args.self.now.heads.now = middle_listed _ _ c.requires.sorted _ _ _ _ (c.loop-low.low + (c.loop-low.high - c.loop-low.low) / 2) c.loop-low.invariant (omega arith) (omega arith) in grind (arith, listed)
