use native.Mathlib.Omega.{arith}
use Rattle.overlay.proofs.Rooms.{tail_skipped, tail_fits, tail_counted}
use Rattle.overlay.proofs.counting.count_tail.Goals as goal

pub returns-then-set-tail-eq0-clause-arcs_2 : goal.returns-then-set-tail-eq0-clause-arcs_2
returns-then-set-tail-eq0-clause-arcs_2 c = tail_skipped _ _ _ _ _ _ _ c.requires.searching _ c.requires.tail_bound _ c.requires.arcs c.if-set-tail-eq0.true

pub overflow_add-result : goal.overflow_add-result
overflow_add-result c = omega (arith, tail_fits _ _ _ _ _ _ _ c.requires.searching _ c.requires.tail_bound _ c.requires.arcs c.if-set-tail-eq0.false _ c.search.ensures.row _ c.count.ensures)

pub returns-clause-arcs_2 : goal.returns-clause-arcs_2
returns-clause-arcs_2 c = tail_counted _ _ _ _ _ _ _ c.requires.searching _ c.requires.tail_bound _ c.requires.arcs c.if-set-tail-eq0.false _ c.search.ensures.row _ c.count.ensures
