use Rattle.frames.specs.Held.{Good}
use Rattle.gulvane_frames.specs.workings.Runs.{Filled, Fits, Roomy}
use Rattle.gulvane_frames.proofs.main.Given as goal

abbrev pub invariant-loop : goal.invariant-loop
invariant-loop l = Good l.s × Filled l.chunk × Fits l.line × Roomy l.out
