use native.Mathlib.Omega.{arith}
use Rattle.overlay.proofs.Rooms.{counts_fit, tail_left, tail_fits, tail_written, behind, row_fits, row_room, as_far}
use Rattle.overlay.proofs.writing.write_tail.Goals as goal

pub returns-then-set-tail-eq0-clause-row_written : goal.returns-then-set-tail-eq0-clause-row_written
returns-then-set-tail-eq0-clause-row_written c = tail_left _ _ _ _ _ _ _ c.requires.searching _ c.requires.tail_bound _ c.requires.arcs c.if-set-tail-eq0.true _ _

pub offset_bounds-rooms-from : goal.offset_bounds-rooms-from
offset_bounds-rooms-from c = omega (arith, counts_fit _ _ _ _ _ _ _ c.requires.searching _ _ c.requires.arcs (omega (arith, c.requires.tail_bound)))

pub slice_bounds-write-count : goal.slice_bounds-write-count
slice_bounds-write-count c = behind _ _ _ _ _ _ _ c.requires.searching _ c.requires.tail_bound _ c.requires.arcs c.if-set-tail-eq0.false _ c.search.ensures.row c.requires.light c.args.rooms.now.heads.now c.args.rooms.now.weights.now c.requires.enough c.requires.weights_room

pub slice_bounds-write-start : goal.slice_bounds-write-start
slice_bounds-write-start c = behind _ _ _ _ _ _ _ c.requires.searching _ c.requires.tail_bound _ c.requires.arcs c.if-set-tail-eq0.false _ c.search.ensures.row c.requires.light c.args.rooms.now.heads.now c.args.rooms.now.weights.now c.requires.enough c.requires.weights_room

pub offset_bounds-rooms-from-2 : goal.offset_bounds-rooms-from-2
offset_bounds-rooms-from-2 c = omega (arith, counts_fit _ _ _ _ _ _ _ c.requires.searching _ _ c.requires.arcs (omega (arith, c.requires.tail_bound)))

pub slice_bounds-write-count-2 : goal.slice_bounds-write-count-2
slice_bounds-write-count-2 c = omega (arith, behind _ _ _ _ _ _ _ c.requires.searching _ c.requires.tail_bound _ c.requires.arcs c.if-set-tail-eq0.false _ c.search.ensures.row c.requires.light c.args.rooms.now.heads.now c.args.rooms.now.weights.now c.requires.enough c.requires.weights_room, c.requires.weights_room)

pub slice_bounds-write-start-2 : goal.slice_bounds-write-start-2
slice_bounds-write-start-2 c = as_far _ _ _ (behind _ _ _ _ _ _ _ c.requires.searching _ c.requires.tail_bound _ c.requires.arcs c.if-set-tail-eq0.false _ c.search.ensures.row c.requires.light c.args.rooms.now.heads.now c.args.rooms.now.weights.now c.requires.enough c.requires.weights_room) c.requires.weights_room

pub write-arcs-requires-clause-fits : goal.write-arcs-requires-clause-fits
write-arcs-requires-clause-fits c = row_fits _ _ _ _ _ _ _ c.requires.searching _ c.requires.tail_bound _ c.requires.arcs c.if-set-tail-eq0.false _ c.search.ensures.row c.requires.light c.args.rooms.now.heads.now c.args.rooms.now.weights.now c.requires.enough c.requires.weights_room

pub write-arcs-requires-clause-row_room : goal.write-arcs-requires-clause-row_room
write-arcs-requires-clause-row_room c = row_room _ _ _ _ _ _ _ c.requires.searching _ c.requires.tail_bound _ c.requires.arcs c.if-set-tail-eq0.false _ c.search.ensures.row c.requires.light c.args.rooms.now.heads.now c.args.rooms.now.weights.now c.requires.enough c.requires.weights_room

pub overflow_add-result : goal.overflow_add-result
overflow_add-result c = omega (arith, tail_fits _ _ _ _ _ _ _ c.requires.searching _ c.requires.tail_bound _ c.requires.arcs c.if-set-tail-eq0.false _ c.search.ensures.row _ c.write-arcs.ensures.number)

pub returns-clause-row_written : goal.returns-clause-row_written
returns-clause-row_written c = tail_written _ _ _ _ _ _ _ c.requires.searching _ c.requires.tail_bound _ c.requires.arcs c.if-set-tail-eq0.false _ c.search.ensures.row c.requires.light c.args.rooms.now.heads.now c.args.rooms.now.weights.now c.requires.enough c.requires.weights_room _ _ _ c.write-arcs.ensures
