use lib.ListN.{length}
use Rattle.road.specs.Roads.{nodes_of}
use Rattle.frames.proofs.Laying.{arcs_fit, map_wrote}
use Rattle.frames.proofs.building.print_map.Goals as goal

pub write_arcs-requires : goal.write_arcs-requires
write_arcs-requires c =
    arcs_fit c.args.out.now c.args.points.0 (length c.args.overlay.now.heads.now) c.args.set.now c.args.overlay.now.starts.now c.args.overlay.now.heads.now
    c.args.overlay.now.weights.now (nodes_of c.args.overlay.now.starts.now) _ c.counts.ensures _ c.write_points.ensures c.requires.rows_fit

pub returns : goal.returns
returns c =
    map_wrote c.args.out.now c.args.points.0 (length c.args.overlay.now.heads.now) c.args.set.now c.args.overlay.now.starts.now c.args.overlay.now.heads.now
    c.args.overlay.now.weights.now (nodes_of c.args.overlay.now.starts.now) _ c.counts.ensures _ c.write_points.ensures _ c.write_arcs.ensures
