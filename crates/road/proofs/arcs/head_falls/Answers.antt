use Rattle.std.proofs.Common.{tests}
use Rattle.road.proofs.Scans.{first_of_row}
use native.Mathlib.Omega.{arith}
use Rattle.road.proofs.arcs.head_falls.Goals as goal

pub returns-else-graph-tail : goal.returns-else-graph-tail
returns-else-graph-tail c = record { yes = λ e. absurd (omega (arith, tests, e)); no = λ e. first_of_row _ _ _ _ _ c.requires c.if-graph-tail.false }
