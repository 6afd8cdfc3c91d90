use Prim.Native.Nat.{◌+◌}
use mathlib.Core.Path.{sym, subst}
use Rattle.maps.proofs.Printed.{Points, points_room, points_in, points_out}
use Rattle.maps.proofs.printing.write_points.Goals.{then-b-eq1, else-b-eq1}
use Rattle.maps.proofs.printing.write_points.Goals as goal

pub point-requires : goal.point-requires
point-requires c = points_room _ c.args.set.now c.requires _ _ c.loop-v.invariant c.loop-v-test.true

pub loop-v-preserved : goal.loop-v-preserved
loop-v-preserved c =
    elim c.if-b-eq1.branch [
      | then-b-eq1 w ↦
          subst (Points c.args.out.now c.args.set.now (c.loop-v.v + 1)) (sym w.out-is)
          (points_in _ c.args.set.now c.requires _ _ c.loop-v.invariant c.loop-v-test.true _ w.if-b-eq1.true w.point.ensures)
      | else-b-eq1 w ↦
          subst (Points c.args.out.now c.args.set.now (c.loop-v.v + 1)) (sym w.out-is)
          (points_out _ c.args.set.now c.requires _ _ c.loop-v.invariant c.loop-v-test.true w.if-b-eq1.false)
    ]
