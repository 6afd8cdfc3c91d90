use lib.ListN.{take}
use Rattle.hexlines.specs.Text.{hex_text}
use Rattle.hexlines.specs.Outputs.{ones}
use Rattle.hexlines.specs.Writers.{Writes}
use Rattle.hexlines.proofs.Writer.kept.Given as goal

abbrev pub invariant-loop-p : goal.invariant-loop-p
invariant-loop-p l = Writes l.initial.self (hex_text (take l.p-index (ones l.positions))) l.self
