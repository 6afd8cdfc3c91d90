use mathlib.Core.List.{[], ◌∷◌}
use Rattle.road.proofs.Refusals.{judged_alone, hands_on, goes_on}
use Rattle.road.specs.Chains.{road_and_set_faults}
use Rattle.distance.proofs.checking.check_pair_input.Goals as goal

pub returns-in_err-check_road_and_set : goal.returns-in_err-check_road_and_set
returns-in_err-check_road_and_set c = hands_on (road_and_set_faults _ _ _ _) _ c.in_err-check_road_and_set.was c.from_residual.ensures.1 c.check_road_and_set.ensures

pub returns-in_err-check_overlay : goal.returns-in_err-check_overlay
returns-in_err-check_overlay c = goes_on (road_and_set_faults _ _ _ _) _ c.in_ok-check_road_and_set.was c.check_road_and_set.ensures
    (hands_on (_ ∷ []) _ c.in_err-check_overlay.was c.from_residual-in_err-check_overlay.ensures.1 (judged_alone c.check_overlay.ensures))

pub returns : goal.returns
returns c = goes_on (road_and_set_faults _ _ _ _) _ c.in_ok-check_road_and_set.was c.check_road_and_set.ensures
    (goes_on (_ ∷ []) _ c.in_ok-check_overlay.was (judged_alone c.check_overlay.ensures) (judged_alone (rw c.node_count.ensures at c.check_nodes.ensures)))
