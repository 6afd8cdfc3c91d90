-- The queue over several searches: its slices stay, and hold what they held.
use mathlib.Core.Path.{refl, ◌∙◌}
use Rattle.search.specs.declared.Queue.{Queue}
use Rattle.search.proofs.Heaps.{same_slices, slices_then}
use Rattle.overlay.specs.workings.Lending.{QueueStays}

pub stays_none : (queue : Queue) → QueueStays queue queue
stays_none queue = record { heap = refl; places = refl; slices = same_slices queue }

pub stays_then : (queue₀ queue queue' : Queue) → QueueStays queue₀ queue → QueueStays queue queue' → QueueStays queue₀ queue'
stays_then queue₀ queue queue' s t =
    record { heap = t.heap ∙ s.heap; places = t.places ∙ s.places; slices = slices_then queue₀ queue queue' s.slices t.slices }
