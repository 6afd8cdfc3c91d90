use mathlib.Core.List.{[], ◌∷◌}
use Rattle.road.proofs.Refusals.{judged_alone, hands_on, goes_on}
use Rattle.road.specs.Chains.{lone_set_faults}
use Rattle.distance.proofs.checking.check_hand_input.Goals as goal

pub returns-in_err-check_lone_set : goal.returns-in_err-check_lone_set
returns-in_err-check_lone_set c = hands_on (lone_set_faults _) _ c.in_err-check_lone_set.was c.from_residual.ensures.1 c.check_lone_set.ensures

pub returns-in_err-check_overlay : goal.returns-in_err-check_overlay
returns-in_err-check_overlay c = goes_on (lone_set_faults _) _ c.in_ok-check_lone_set.was c.check_lone_set.ensures
    (hands_on (_ ∷ []) _ c.in_err-check_overlay.was c.from_residual-in_err-check_overlay.ensures.1 (judged_alone c.check_overlay.ensures))

pub returns-in_err-check_nodes : goal.returns-in_err-check_nodes
returns-in_err-check_nodes c = goes_on (lone_set_faults _) _ c.in_ok-check_lone_set.was c.check_lone_set.ensures
    (goes_on (_ ∷ []) _ c.in_ok-check_overlay.was (judged_alone c.check_overlay.ensures)
    (hands_on (_ ∷ []) _ c.in_err-check_nodes.was c.from_residual-in_err-check_nodes.ensures.1 (judged_alone c.check_nodes.ensures)))

pub returns : goal.returns
returns c = goes_on (lone_set_faults _) _ c.in_ok-check_lone_set.was c.check_lone_set.ensures
    (goes_on (_ ∷ []) _ c.in_ok-check_overlay.was (judged_alone c.check_overlay.ensures)
    (goes_on (_ ∷ []) _ c.in_ok-check_nodes.was (judged_alone c.check_nodes.ensures) (judged_alone c.check_in_set.ensures)))
