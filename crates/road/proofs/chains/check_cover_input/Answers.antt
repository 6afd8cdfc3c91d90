use Rattle.road.proofs.Refusals.{judged_alone, hands_on, goes_on}
use mathlib.Core.List.{[], ◌∷◌}
use Rattle.road.specs.Faults.{graph_faults}
use Rattle.road.specs.Limits.{road_limits}
use Rattle.road.proofs.chains.check_cover_input.Goals as goal

pub returns-in_err-check_graph : goal.returns-in_err-check_graph
returns-in_err-check_graph c = hands_on (graph_faults road_limits _ _ _) _ c.in_err-check_graph.was c.from_residual.ensures.1 (rw c.road_limits.ensures at c.check_graph.ensures)

pub returns-in_err-check_k : goal.returns-in_err-check_k
returns-in_err-check_k c = goes_on (graph_faults road_limits _ _ _) _ c.in_ok-check_graph.was (rw c.road_limits.ensures at c.check_graph.ensures)
    (hands_on (_ ∷ []) _ c.in_err-check_k.was c.from_residual-in_err-check_k.ensures.1 (judged_alone c.check_k.ensures))

pub returns : goal.returns
returns c = goes_on (graph_faults road_limits _ _ _) _ c.in_ok-check_graph.was (rw c.road_limits.ensures at c.check_graph.ensures)
    (goes_on (_ ∷ []) _ c.in_ok-check_k.was (judged_alone c.check_k.ensures) (judged_alone (rw c.node_count.ensures at c.check_order.ensures)))
