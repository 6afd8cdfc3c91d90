use Rattle.maps.proofs.Printed.{row_room, row_more}
use Rattle.maps.proofs.printing.write_row.Goals as goal

pub arc-requires : goal.arc-requires
arc-requires c = row_room _ c.args.graph.now.heads.now c.args.graph.now.weights.now _ _ _ _ c.loop-p.invariant _ c.requires.room c.loop-p-test.true

pub loop-p-preserved : goal.loop-p-preserved
loop-p-preserved c = row_more _ c.args.graph.now.heads.now c.args.graph.now.weights.now _ _ _ _ c.loop-p.invariant _ c.arc.ensures
