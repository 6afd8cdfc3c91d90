use lib.Dec.{ltb}
use lib.ListN.{take}
use Rattle.std.specs.List.{count_by}
use mathlib.Core.Path.{◌≡◌}
use Rattle.maps.proofs.lists.count_below.Given as goal

abbrev pub invariant-loop-tail : goal.invariant-loop-tail
invariant-loop-tail l = l.count ≡ count_by (λ x. ltb x l.v) (take l.tail-index l.tails)
