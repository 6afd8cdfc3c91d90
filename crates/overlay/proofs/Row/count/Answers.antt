use Rattle.overlay.proofs.Numbers.{number_few, number_more, number_past}
use native.Mathlib.Omega.{arith}
use Rattle.overlay.specs.Numbers.{Number}
use Rattle.overlay.proofs.Row.count.Goals.{then-is_head, else-is_head}
use Rattle.overlay.proofs.Row.count.Goals as goal

pub loop-v-init : goal.loop-v-init
loop-v-init c = Number.none

pub overflow_add-count : goal.overflow_add-count
overflow_add-count c = omega (arith, number_few c.loop-v.invariant)

pub loop-v-preserved : goal.loop-v-preserved
loop-v-preserved c = elim c.if-is_head.branch [
  | then-is_head w ↦ number_more _ _ _ (omega (arith, w.count-is)) (c.is_head.ensures.yes w.if-is_head.true) c.loop-v.invariant
  | else-is_head w ↦ number_past _ _ _ (omega (arith, w.count-is)) (c.is_head.ensures.no w.if-is_head.false) c.loop-v.invariant
]
