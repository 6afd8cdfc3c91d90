use mathlib.Core.List.{[], ◌∷◌}
use Rattle.road.proofs.Faults.{sound_of, sorted_of}
use Rattle.road.proofs.Refusals.{judged_alone, hands_on, goes_on, none_front}
use Rattle.road.specs.Chains.{road_and_set_faults}
use Rattle.road.specs.Faults.{graph_faults, set_fault}
use Rattle.road.specs.Limits.{road_limits}
use Rattle.road.proofs.chains.check_drive_input.Goals as goal

pub returns-in_err-check_road_and_set : goal.returns-in_err-check_road_and_set
returns-in_err-check_road_and_set c = hands_on (road_and_set_faults _ _ _ _) _ c.in_err-check_road_and_set.was c.from_residual.ensures.1 c.check_road_and_set.ensures

pub check_drive-requires : goal.check_drive-requires
check_drive-requires c = sorted_of _ _ _ _ (sound_of _ _ _ _ (none_front (graph_faults road_limits _ _ _) (set_fault _ _ ∷ []) (c.check_road_and_set.ensures.passed c.in_ok-check_road_and_set.was)))

pub returns : goal.returns
returns c = goes_on (road_and_set_faults _ _ _ _) _ c.in_ok-check_road_and_set.was c.check_road_and_set.ensures (judged_alone c.check_drive.ensures)
