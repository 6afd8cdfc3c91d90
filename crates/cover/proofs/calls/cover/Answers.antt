use Rattle.cover.proofs.Outcomes.{refused_early, refused_late, ready, covered_so}
use Rattle.cover.proofs.calls.cover.Goals as goal

pub returns-in_err-check_cover_input-clause-outcome : goal.returns-in_err-check_cover_input-clause-outcome
returns-in_err-check_cover_input-clause-outcome c = refused_early _ _ _ _ _ _ _ _ _ c.check_cover_input.ensures c.in_err-check_cover_input.was c.from_residual.ensures.1

pub returns-in_err-check_areas-clause-outcome : goal.returns-in_err-check_areas-clause-outcome
returns-in_err-check_areas-clause-outcome c = refused_late _ _ _ _ _ _ _ c.check_cover_input.ensures c.in_ok-check_cover_input.was _ (rw c.node_count.ensures at c.check_areas.ensures) _ _ c.in_err-check_areas.was c.from_residual-in_err-check_areas.ensures.1

pub build-requires : goal.build-requires
build-requires c = ready _ _ _ _ _ _ _ c.check_cover_input.ensures c.in_ok-check_cover_input.was _ (rw c.node_count.ensures at c.check_areas.ensures) c.in_ok-check_areas.was

pub returns-clause-outcome : goal.returns-clause-outcome
returns-clause-outcome c = covered_so _ _ _ _ _ _ _ c.check_cover_input.ensures c.in_ok-check_cover_input.was _ (rw c.node_count.ensures at c.check_areas.ensures) c.in_ok-check_areas.was _ _ c.build.ensures.built
