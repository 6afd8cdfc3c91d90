use Rattle.std.proofs.Common.{rules}
use mathlib.Core.Path.{sym, ◌∙◌}
use Rattle.search.proofs.States.{going_at, places_long, row_of, heap_empty, places_empty, left_so}
use Rattle.search.proofs.labels.search.Goals as goal

pub returns-clause-row : goal.returns-clause-row
returns-clause-row c = row_of _ _ _ _ _ _ _ _ (going_at _ _ _ _ _ _ _ _ _ _ c.run.ensures.none c.run.ensures.still_going)

pub returns-clause-unchanged : goal.returns-clause-unchanged
returns-clause-unchanged c =
    let done = going_at _ _ _ _ _ _ _ _ _ _ c.run.ensures.none c.run.ensures.still_going in
    let first = c.begin.ensures.slices in
    let then = c.run.ensures.slices in
    let heap = sym (then.heap ∙ first.heap) in
    let places = sym (then.places ∙ first.places) in (
      left_so (heap_empty _ _ _ _ _ _ _ _ done _ (then.heap_long ∙ first.heap_long) ∙ sym c.requires.heap_zero) (search rules),
      left_so
          (places_empty _ _ _ _ _ _ _ _ done _ (then.places_long ∙ first.places_long ∙ places_long _ _ _ _ _ _ _ _ c.requires) ∙
          sym c.requires.places_zero)
          (search rules),
    )
