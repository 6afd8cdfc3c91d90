use Rattle.readings.specs.workings.Readings.{Reading}
use Rattle.readings.proofs.characters.read_text.Given as goal

abbrev pub invariant-loop-i : goal.invariant-loop-i
invariant-loop-i l = Reading l.line l.room l.i
