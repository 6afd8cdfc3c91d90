use Rattle.road.proofs.Orders.{Marked}
use Rattle.road.proofs.order.check_order.Given as goal

abbrev pub invariant-loop-node : goal.invariant-loop-node
invariant-loop-node l = Marked l.n.0 l.order l.node-index l.seen
