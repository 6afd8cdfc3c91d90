use native.Mathlib.Omega.{arith}
use mathlib.Core.Path.{refl, ap, ◌∙◌}
use mathlib.Core.List.{List}
use Prim.Native.Nat.{ℕ, ◌+◌}
use lib.ListN.{set}
use Rattle.overlay.proofs.Rooms.{counts_fit, building_none, building_more}
use Rattle.overlay.proofs.Stays.{stays_none, stays_then}
use Rattle.overlay.proofs.writing.write_arcs.Goals as goal

pub loop-tail-init : goal.loop-tail-init
loop-tail-init c = (building_none _ _ _ _ c.args.rooms.now.starts.now c.requires.starts_room, record { starts = refl; heads = refl; weights = refl }, refl, stays_none _)

pub overflow_cast-rooms : goal.overflow_cast-rooms
overflow_cast-rooms c =
    omega (arith, counts_fit _ _ _ _ _ _ _ c.requires.searching _ _ c.write_tail-count.ensures.row_written.counted (omega (arith, c.loop-tail-test.true, c.requires.searching.bytes)))

pub loop-tail-preserved : goal.loop-tail-preserved
loop-tail-preserved c =
    let same = c.write_tail-count.ensures.same_rooms in
    let was = c.loop-tail.invariant.1 in (
      building_more _ _ _ _ _ _ _ _ _ c.loop-tail.invariant.0 (omega (arith, c.loop-tail-test.true, c.requires.searching.bytes)) _ _ _ _
          c.write_tail-count.ensures.row_written (ap (λ (l : List ℕ). set l (c.loop-tail.tail + 1) c.write_tail-count.result.0) c.write_tail-count.ensures.starts),
      record { starts = same.starts ∙ was.starts; heads = same.heads ∙ was.heads; weights = same.weights ∙ was.weights },
      c.write_tail-count.auto.labels ∙ c.loop-tail.invariant.2,
      stays_then _ _ _ c.loop-tail.invariant.3 c.write_tail-count.ensures.queue,
    )
