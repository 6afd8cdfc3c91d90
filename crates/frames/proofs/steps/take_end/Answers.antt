use native.Mathlib.Omega.{arith}
use Rattle.frames.proofs.Ending.{end_early, end_good}
use Rattle.frames.proofs.steps.take_end.Goals as goal

pub returns-in-Begun : goal.returns-in-Begun
returns-in-Begun c = end_early _ _ _ _ c.in-Begun.is c.stop.ensures

pub returns-in-Asking : goal.returns-in-Asking
returns-in-Asking c = end_good _ _ c.requires.goes.going c.requires.goes.good.lines c.in-Asking.is (omega (arith, c.requires.room))
