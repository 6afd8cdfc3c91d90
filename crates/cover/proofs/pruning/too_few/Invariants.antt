use Rattle.road.specs.Counting.{times}
use lib.ListN.{take}
use mathlib.Core.Path.{◌≡◌}
use Prim.Native.Nat.{◌+◌}
use Rattle.cover.proofs.pruning.too_few.Given as goal

abbrev pub invariant-loop-byte : goal.invariant-loop-byte
invariant-loop-byte l = l.nodes ≡ times 0 (take l.byte-index l.cover) + 1
