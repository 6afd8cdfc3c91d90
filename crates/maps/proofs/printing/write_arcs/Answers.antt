use native.Mathlib.Omega.{arith}
use Rattle.maps.proofs.Printed.{rows_ask, rows_more}
use Rattle.maps.proofs.printing.write_arcs.Goals as goal

pub write_row-requires-clause-within : goal.write_row-requires-clause-within
write_row-requires-clause-within c =
    let asked = rows_ask _ c.args.graph.now.starts.now c.args.graph.now.heads.now c.args.graph.now.weights.now _ c.requires _ _ c.loop-u.invariant (omega (arith, c.loop-u-test.true, c.node_count-u-end.ensures)) _ _ c.row.ensures.first c.row.ensures.end in
    (asked.1, asked.2)

pub write_row-requires-clause-room : goal.write_row-requires-clause-room
write_row-requires-clause-room c =
    let asked = rows_ask _ c.args.graph.now.starts.now c.args.graph.now.heads.now c.args.graph.now.weights.now _ c.requires _ _ c.loop-u.invariant (omega (arith, c.loop-u-test.true, c.node_count-u-end.ensures)) _ _ c.row.ensures.first c.row.ensures.end in
    asked.3

pub loop-u-preserved : goal.loop-u-preserved
loop-u-preserved c =
    rows_more _ c.args.graph.now.starts.now c.args.graph.now.heads.now c.args.graph.now.weights.now _ c.requires _ _ c.loop-u.invariant (omega (arith, c.loop-u-test.true, c.node_count-u-end.ensures)) _ _ c.row.ensures.first c.row.ensures.end _ c.write_row.ensures
