use Rattle.maps.specs.Lists.{belows}
use Rattle.maps.proofs.Fills.{Filled}
use Rattle.maps.proofs.lists.write_starts.Given as goal

abbrev pub invariant-loop-v : goal.invariant-loop-v
invariant-loop-v l = Filled (belows l.tails 0) l.initial.starts l.v l.starts
