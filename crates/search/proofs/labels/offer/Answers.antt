use Rattle.search.proofs.Heaps.{held_place}
use mathlib.Core.Path.{refl}
use Rattle.search.proofs.labels.offer.Goals as goal

pub up-requires-clause-from_lt_waiting : goal.up-requires-clause-from_lt_waiting
up-requires-clause-from_lt_waiting c = held_place _ _ _ c.requires.heap.is_heap _ _ refl c.if-at-eq0.false
