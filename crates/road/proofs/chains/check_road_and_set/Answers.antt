use Rattle.road.proofs.Refusals.{judged_alone, hands_on, goes_on}
use Rattle.road.specs.Faults.{graph_faults}
use Rattle.road.specs.Limits.{road_limits}
use Rattle.road.proofs.chains.check_road_and_set.Goals as goal

pub returns-in_err-check_graph : goal.returns-in_err-check_graph
returns-in_err-check_graph c = hands_on (graph_faults road_limits _ _ _) _ c.in_err-check_graph.was c.from_residual.ensures.1 (rw c.road_limits.ensures at c.check_graph.ensures)

pub returns : goal.returns
returns c = goes_on (graph_faults road_limits _ _ _) _ c.in_ok-check_graph.was (rw c.road_limits.ensures at c.check_graph.ensures) (judged_alone (rw c.node_count.ensures at c.check_set.ensures))
