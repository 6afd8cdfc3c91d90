use lib.ListN.{take}
use Rattle.hexlines.specs.Text.{hex_text}
use Rattle.hexlines.specs.Writers.{Writes}
use Rattle.hexlines.proofs.Writer.bytes.Given as goal

abbrev pub invariant-loop-b : goal.invariant-loop-b
invariant-loop-b l = Writes l.initial.self (hex_text (take l.b-index l.bytes)) l.self
