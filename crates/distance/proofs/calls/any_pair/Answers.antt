use mathlib.Core.Path.{refl}
use borrow.Author.Rules.{rules}
use Rattle.distance.proofs.Outcomes.{pair_handed, pair_refused_early, pair_refused_late, pair_ready, pair_answered, said_found}
use Rattle.distance.proofs.calls.any_pair.Goals as goal

pub returns-in_err-check_pair_input-clause-outcome : goal.returns-in_err-check_pair_input-clause-outcome
returns-in_err-check_pair_input-clause-outcome c = pair_handed _ _ _ _ _ _ _ _ _ _ _ _ c.from_residual.ensures.1 (pair_refused_early _ _ _ _ _ _ _ _ _ _ _ _ c.check_pair_input.ensures c.in_err-check_pair_input.was)

pub returns-in_err-check_pair_lengths-clause-outcome : goal.returns-in_err-check_pair_lengths-clause-outcome
returns-in_err-check_pair_lengths-clause-outcome c = pair_handed _ _ _ _ _ _ _ _ _ _ _ _ c.from_residual-in_err-check_pair_lengths.ensures.1 (pair_refused_late _ _ _ _ _ _ _ _ _ _ _ c.check_pair_input.ensures c.in_ok-check_pair_input.was _ (rw c.node_count.ensures at c.check_pair_lengths.ensures) _ c.in_err-check_pair_lengths.was)

pub ask_pair-requires : goal.ask_pair-requires
ask_pair-requires c = pair_ready _ _ _ _ _ _ _ _ _ _ _ c.check_pair_input.ensures c.in_ok-check_pair_input.was _ (rw c.node_count.ensures at c.check_pair_lengths.ensures) c.in_ok-check_pair_lengths.was _ _ refl refl

pub returns-clause-outcome : goal.returns-clause-outcome
returns-clause-outcome c = pair_answered _ _ _ _ _ _ _ _ _ _ _ c.check_pair_input.ensures c.in_ok-check_pair_input.was _ (rw c.node_count.ensures at c.check_pair_lengths.ensures) c.in_ok-check_pair_lengths.was _ _ _ refl refl c.ask_pair.ensures.told _ (search rules) _ (said_found _)
