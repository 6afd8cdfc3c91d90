use Rattle.road.proofs.Refusals.{told}
use Rattle.road.proofs.Drives.{apart_at}
use Rattle.road.specs.Drives.{outside}
use native.Mathlib.Omega.{arith}
use Rattle.road.proofs.drive.check_position.Goals as goal

pub returns-then-node_count-drive : goal.returns-then-node_count-drive
returns-then-node_count-drive c = told (outside _ c.requires.i_in_bounds (omega arith))

pub returns : goal.returns
returns c = told (apart_at _ _ _ _ c.if-i-eq0.false c.requires.i_in_bounds (c.joined.ensures.no c.if-joined.false))
