use Rattle.overlay.proofs.Written.{one_less}
use Rattle.overlay.specs.workings.Writing.{put}
use mathlib.Core.Path.{refl}
use native.Mathlib.Omega.{arith}
use Rattle.overlay.proofs.Row.write_arc.Goals as goal

pub returns-then-is_head : goal.returns-then-is_head
returns-then-is_head c = put _ (c.is_head.ensures.yes c.if-is_head.true) (one_less _ (c.is_head.ensures.yes c.if-is_head.true).label) refl refl (omega arith)
