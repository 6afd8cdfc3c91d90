use Rattle.gulvane_frames.proofs.Rooms.{left_room}
use Rattle.gulvane_frames.proofs.turn.Goals as goal

pub drain-requires-2-clause-waits : goal.drain-requires-2-clause-waits
drain-requires-2-clause-waits g c = (left_room _ _ _ _ _ _ c.requires.roomy.long c.take_line-next.ensures).0

pub drain-requires-2-clause-long : goal.drain-requires-2-clause-long
drain-requires-2-clause-long g c = (left_room _ _ _ _ _ _ c.requires.roomy.long c.take_line-next.ensures).1
