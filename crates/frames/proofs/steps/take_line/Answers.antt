use native.Mathlib.Omega.{arith}
use Rattle.frames.proofs.Ending.{line_beyond, line_refused}
use Rattle.frames.proofs.steps.take_line.Goals as goal

pub returns-then-s-eq-MOST_LINES : goal.returns-then-s-eq-MOST_LINES
returns-then-s-eq-MOST_LINES c =
    line_beyond c.args.s _ _ _ c.requires.goes.going c.args.areas.now c.args.areas.now _ (omega (arith, c.if-s-eq-MOST_LINES.true)) c.stop.ensures

pub returns-in-Err : goal.returns-in-Err
returns-in-Err c =
    line_refused c.args.s _ c.args.areas.now _ _ _ _ _ _ (omega (arith, c.requires.goes.good.lines, c.if-s-eq-MOST_LINES.false)) c.in-Err.ensures.leaves
    c.stop-in-Err.ensures
