use Rattle.road.proofs.Refusals.{refuses, passes}
use Rattle.road.proofs.Orders.{mark_none, repeats, other_length, no_node, permutes}
use Rattle.road.proofs.order.check_order.Goals.{then-n-v-via-then-n-v, then-n-v-via-else-n-v+then-seen-v}
use Rattle.road.proofs.order.check_order.Goals as goal

pub returns-then-order-n : goal.returns-then-order-n
returns-then-order-n c = refuses (other_length _ _ c.if-order-n.true)

pub loop-node-init : goal.loop-node-init
loop-node-init c = mark_none _ _

pub returns-then-n-v : goal.returns-then-n-v
returns-then-n-v c =
    refuses (elim c.then-n-v.branch [
      | then-n-v-via-then-n-v w ↦ no_node _ _ _ c.loop-node-test.true w.if-n-v.true
      | then-n-v-via-else-n-v+then-seen-v w ↦ repeats _ _ _ _ c.loop-node.invariant c.loop-node-test.true w.if-seen-v.true
    ])

pub returns : goal.returns
returns c = passes (λ f. f (permutes _ _ _ _ c.loop-node.invariant c.loop-node-test.false c.if-order-n.false))
