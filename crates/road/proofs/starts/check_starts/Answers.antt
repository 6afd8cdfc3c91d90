use Rattle.road.proofs.Refusals.{refuses}
use Rattle.road.specs.Faults.{falls}
use native.Mathlib.Omega.{arith}
use Rattle.road.proofs.starts.check_starts.Goals as goal

pub returns-then-starts-u : goal.returns-then-starts-u
returns-then-starts-u c = refuses (falls _ (omega arith) c.if-starts-u.true)
