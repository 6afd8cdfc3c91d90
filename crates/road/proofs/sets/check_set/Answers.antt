use Rattle.road.proofs.Refusals.{refuses}
use Rattle.road.specs.Faults.{other}
use native.Mathlib.Omega.{arith}
use Rattle.road.proofs.sets.check_set.Goals as goal

pub returns-then-byte-gt1 : goal.returns-then-byte-gt1
returns-then-byte-gt1 c = refuses (other _ c.loop-byte-test.true (λ e. omega arith) (λ e. omega arith))
