use Rattle.maps.specs.Lists.{numbers}
use Rattle.maps.proofs.Fills.{Filled}
use Rattle.maps.proofs.lists.count_up.Given as goal

abbrev pub invariant-loop-i : goal.invariant-loop-i
invariant-loop-i l = Filled (numbers 0) l.initial.s l.i l.s
