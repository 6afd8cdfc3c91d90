use native.Mathlib.Omega.{arith}
use Rattle.road.proofs.Rows.{owned_listed}
use Rattle.overlay.proofs.Ends.{owned_at, row_refused, tail_outside, head_outside}
use Rattle.overlay.proofs.checking.check_row.Goals.{then-set-tail-ne1-via-then-set-tail-ne1, then-set-tail-ne1-via-else-set-tail-ne1+then-set-heads-ne1}
use Rattle.overlay.proofs.checking.check_row.Goals as goal

pub returns-then-set-tail-ne1 : goal.returns-then-set-tail-ne1
returns-then-set-tail-ne1 c =
    let own = owned_at _ _ c.row-row.ensures c.loop-p.auto.p c.loop-p-test.true in
    elim c.then-set-tail-ne1.branch [
      | then-set-tail-ne1-via-then-set-tail-ne1 w ↦ row_refused _ _ _ _ _ (tail_outside _ _ _ _ c.requires.sound _ _ own w.if-set-tail-ne1.true)
      | then-set-tail-ne1-via-else-set-tail-ne1+then-set-heads-ne1 w ↦ row_refused _ _ _ _ _ (head_outside _ _ _ _ c.requires.sound _ _ own w.if-set-heads-ne1.true)
    ]

pub offset_bounds-heads-p : goal.offset_bounds-heads-p
offset_bounds-heads-p c =
    omega (arith, owned_listed _ _ c.requires.sound.rising _ _ (owned_at _ _ c.row-row.ensures c.loop-p.auto.p c.loop-p-test.true), c.requires.sound.sized.few)

pub bounds-heads-p : goal.bounds-heads-p
bounds-heads-p c = owned_listed _ _ c.requires.sound.rising _ _ (owned_at _ _ c.row-row.ensures c.loop-p.auto.p c.loop-p-test.true)
