use Rattle.overlay.proofs.Outcomes.{refused_early, refused_late, ready}
use Rattle.overlay.proofs.calls.overlay.Goals as goal

pub returns-in_err-check_road_and_set-clause-outcome : goal.returns-in_err-check_road_and_set-clause-outcome
returns-in_err-check_road_and_set-clause-outcome c =
    refused_early _ _ _ _ _ _ c.check_road_and_set.ensures c.in_err-check_road_and_set.was c.from_residual.ensures.1

pub returns-in_err-check_lengths-clause-outcome : goal.returns-in_err-check_lengths-clause-outcome
returns-in_err-check_lengths-clause-outcome c =
    refused_late _ _ _ _ _ _ c.check_road_and_set.ensures c.in_ok-check_road_and_set.was _ (rw c.node_count-n.ensures at c.check_lengths.ensures) _
    c.in_err-check_lengths.was c.from_residual-in_err-check_lengths.ensures.1

pub build-requires : goal.build-requires
build-requires c =
    ready _ _ _ _ _ _ c.check_road_and_set.ensures c.in_ok-check_road_and_set.was _ (rw c.node_count-n.ensures at c.check_lengths.ensures) c.in_ok-check_lengths.was
