use mathlib.Core.Path.{refl}
use Rattle.distance.proofs.Outcomes.{hand_handed, hand_refused_early, hand_refused_late, hand_ready, hand_answered, said_found}
use Rattle.distance.proofs.calls.handheld.Goals as goal

pub returns-in_err-check_hand_input-clause-outcome : goal.returns-in_err-check_hand_input-clause-outcome
returns-in_err-check_hand_input-clause-outcome c = hand_handed _ _ _ _ _ _ _ _ _ c.from_residual.ensures.1 (hand_refused_early _ _ _ _ _ _ _ _ _ c.check_hand_input.ensures c.in_err-check_hand_input.was)

pub returns-in_err-check_hand_lengths-clause-outcome : goal.returns-in_err-check_hand_lengths-clause-outcome
returns-in_err-check_hand_lengths-clause-outcome c = hand_handed _ _ _ _ _ _ _ _ _ c.from_residual-in_err-check_hand_lengths.ensures.1 (hand_refused_late _ _ _ _ _ _ _ _ c.check_hand_input.ensures c.in_ok-check_hand_input.was _ c.check_hand_lengths.ensures _ c.in_err-check_hand_lengths.was)

pub ask_overlay-requires : goal.ask_overlay-requires
ask_overlay-requires c = hand_ready _ _ _ _ _ _ _ _ c.check_hand_input.ensures c.in_ok-check_hand_input.was _ c.check_hand_lengths.ensures c.in_ok-check_hand_lengths.was _ _ refl refl

pub returns-clause-outcome : goal.returns-clause-outcome
returns-clause-outcome c = hand_answered _ _ _ _ _ _ _ _ c.check_hand_input.ensures c.in_ok-check_hand_input.was _ c.check_hand_lengths.ensures c.in_ok-check_hand_lengths.was _ _ _ refl refl c.ask_overlay.ensures.told _ c.ask_overlay.ensures.cleared _ (said_found _)
