use mathlib.Core.List.{[]}
use Rattle.gulvane_frames.proofs.Rooms.{left_room, none}
use Rattle.gulvane_frames.proofs.finish.Goals as goal

pub returns-then-line-gt0-clause-good : goal.returns-then-line-gt0-clause-good
returns-then-line-gt0-clause-good c = (c.take_unended.ensures.step none []).good

pub returns-then-line-gt0-clause-waits : goal.returns-then-line-gt0-clause-waits
returns-then-line-gt0-clause-waits c = left_room _ _ _ _ _ _ c.requires.roomy.long (c.take_unended.ensures.step none [])

pub returns-clause-good : goal.returns-clause-good
returns-clause-good c = (c.take_end.ensures.step none).good

pub returns-clause-waits : goal.returns-clause-waits
returns-clause-waits c = left_room _ _ _ _ _ _ c.requires.roomy.long (c.take_end.ensures.step none)
