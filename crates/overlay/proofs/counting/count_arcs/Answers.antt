use mathlib.Core.Path.{refl}
use Rattle.overlay.specs.Overlays.{Arcs}
use Rattle.overlay.proofs.Stays.{stays_none}
use Rattle.overlay.proofs.counting.count_arcs.Goals as goal

pub loop-tail-init : goal.loop-tail-init
loop-tail-init c = (Arcs.none, refl, stays_none _)
