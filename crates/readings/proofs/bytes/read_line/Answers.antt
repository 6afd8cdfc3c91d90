use Rattle.readings.proofs.Shapes.{line_wrong, line_read}
use Rattle.readings.proofs.bytes.read_line.Goals as goal

pub returns-in_err-bytes : goal.returns-in_err-bytes
returns-in_err-bytes c = rw c.from_residual.ensures (line_wrong _ _ c.in_err-bytes.ensures)

pub returns : goal.returns
returns c = line_read _ _ _ _ _ c.in_ok-bytes.ensures c.read_frame.ensures
