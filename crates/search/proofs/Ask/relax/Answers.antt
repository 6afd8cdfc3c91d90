use native.Mathlib.Omega.{arith}
use Rattle.search.proofs.States.{relax_more, relax_end, row_listed, row_near, row_weighed}
use Rattle.search.proofs.Ask.relax.Goals as goal

pub offset_bounds-weights-p : goal.offset_bounds-weights-p
offset_bounds-weights-p c = omega (arith, row_near _ _ _ _ _ _ _ _ _ _ _ _ _ c.loop-p.invariant c.loop-p-test.true)

pub offset_bounds-heads-p : goal.offset_bounds-heads-p
offset_bounds-heads-p c = omega (arith, row_near _ _ _ _ _ _ _ _ _ _ _ _ _ c.loop-p.invariant c.loop-p-test.true)

pub bounds-weights-p : goal.bounds-weights-p
bounds-weights-p c = row_weighed _ _ _ _ _ _ _ _ _ _ _ _ _ c.loop-p.invariant c.loop-p-test.true

pub bounds-heads-p : goal.bounds-heads-p
bounds-heads-p c = row_listed _ _ _ _ _ _ _ _ _ _ _ _ _ c.loop-p.invariant c.loop-p-test.true

pub loop-p-preserved : goal.loop-p-preserved
loop-p-preserved c =
    relax_more _ _ _ _ _ _ _ _ _ _ _ _ _ c.loop-p.invariant c.loop-p-test.true _ _ _ c.from.ensures c.offer.ensures.still_heap c.offer.ensures.offered c.offer.auto.labels c.offer.ensures.slices

pub returns-clause-still_going : goal.returns-clause-still_going
returns-clause-still_going c = relax_end _ _ _ _ _ _ _ _ _ _ _ _ _ c.loop-p.invariant c.loop-p-test.false
