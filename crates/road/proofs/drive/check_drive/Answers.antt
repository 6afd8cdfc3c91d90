use Rattle.road.proofs.Refusals.{refused_on}
use Rattle.road.proofs.drive.check_drive.Goals as goal

pub returns-in_err-check_position : goal.returns-in_err-check_position
returns-in_err-check_position c = refused_on c.in_err-check_position.was c.from_residual.ensures.1 (rw c.in_err-check_position.was at c.check_position.ensures)
