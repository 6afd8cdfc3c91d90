use Rattle.drive.proofs.Outcomes.{refused_early, refused_late, fits, thinned_so}
use Rattle.drive.proofs.calls.thin.Goals as goal

pub returns-in_err-check_drive_input : goal.returns-in_err-check_drive_input
returns-in_err-check_drive_input c = refused_early _ _ _ _ _ _ _ _ _ c.check_drive_input.ensures c.in_err-check_drive_input.was c.from_residual.ensures.1

pub returns-in_err-check_length : goal.returns-in_err-check_length
returns-in_err-check_length c = refused_late _ _ _ _ _ _ _ c.check_drive_input.ensures c.in_ok-check_drive_input.was _ c.check_length.ensures _ _ c.in_err-check_length.was c.from_residual-in_err-check_length.ensures.1

pub pick-requires : goal.pick-requires
pick-requires c = fits _ _ _ _ _ _ _ c.check_drive_input.ensures c.in_ok-check_drive_input.was _ c.check_length.ensures c.in_ok-check_length.was

pub returns : goal.returns
returns c = thinned_so _ _ _ _ _ _ _ c.check_drive_input.ensures c.in_ok-check_drive_input.was _ c.check_length.ensures c.in_ok-check_length.was _ _ c.pick.ensures
