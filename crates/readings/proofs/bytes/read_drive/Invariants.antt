use lib.ListN.{drop}
use Rattle.readings.specs.workings.Readings.{NodesRead}
use Rattle.readings.proofs.bytes.read_drive.Given as goal

abbrev pub invariant-loop-i : goal.invariant-loop-i
invariant-loop-i l = NodesRead (drop 1 l.rest) l.initial.nodes l.i l.nodes
