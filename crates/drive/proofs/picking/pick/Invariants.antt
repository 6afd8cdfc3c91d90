use Rattle.drive.specs.workings.Picking.{Picking}
use Rattle.drive.proofs.picking.pick.Given as goal

abbrev pub invariant-loop-i : goal.invariant-loop-i
invariant-loop-i l = Picking l.set l.drive l.initial.positions l.i l.positions l.count
