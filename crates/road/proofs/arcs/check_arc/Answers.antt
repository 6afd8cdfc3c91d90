use Rattle.road.proofs.Refusals.{judges_passed, judges_refused}
use Rattle.road.proofs.Scans.{first_outside, first_loop, first_falls, first_heavy, head_apart}
use Rattle.road.proofs.Faults.{arc_clear}
use native.Mathlib.Omega.{arith}
use Rattle.road.proofs.arcs.check_arc.Goals.{then-outside-via-then-outside, then-outside-via-else-outside+then-head-tail, then-outside-via-else-outside+else-head-tail+then-head_falls, then-outside-via-else-outside+else-head-tail+else-head_falls+then-limits-graph}
use Rattle.road.proofs.arcs.check_arc.Goals as goal

pub returns-then-outside : goal.returns-then-outside
returns-then-outside c =
    judges_refused (elim c.then-outside.branch [
      | then-outside-via-then-outside w ↦ first_outside _ _ _ _ _ (record { outside = omega (arith, w.if-outside.true, c.node_count.ensures) })
      | then-outside-via-else-outside+then-head-tail w ↦ first_loop _ _ _ _ _ (λ o. omega (arith, o.outside, w.if-outside.false, c.node_count.ensures)) (record { tail = c.args.tail; owned = c.requires.owned; same = w.if-head-tail.true })
      | then-outside-via-else-outside+else-head-tail+then-head_falls w ↦ first_falls _ _ _ _ _ (λ o. omega (arith, o.outside, w.if-outside.false, c.node_count.ensures)) (head_apart _ _ _ _ _ c.requires w.if-head-tail.false) (w.head_falls.ensures.yes w.if-head_falls.true)
      | then-outside-via-else-outside+else-head-tail+else-head_falls+then-limits-graph w ↦ first_heavy _ _ _ _ _ (λ o. omega (arith, o.outside, w.if-outside.false, c.node_count.ensures)) (head_apart _ _ _ _ _ c.requires w.if-head-tail.false) (w.head_falls.ensures.no w.if-head_falls.false) (record { over = w.if-limits-graph.true })
    ])

pub returns : goal.returns
returns c = judges_passed (arc_clear _ _ _ _ _ (λ o. omega (arith, o.outside)) (head_apart _ _ _ _ _ c.requires (λ e. c.if-head-tail.false (omega arith))) (c.head_falls.ensures.no c.if-head_falls.false) (λ o. omega (arith, o.over)))
