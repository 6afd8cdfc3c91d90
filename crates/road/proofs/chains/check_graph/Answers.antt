use Rattle.road.proofs.Faults.{sized_of, rising_of, listed_of}
use Rattle.road.proofs.Refusals.{judged_alone, hands_on, goes_on, unheld}
use mathlib.Core.List.{[], ◌∷◌}
use Rattle.road.proofs.chains.check_graph.Goals as goal

pub returns-in_err-check_starts : goal.returns-in_err-check_starts
returns-in_err-check_starts c = goes_on (_ ∷ []) _ c.in_ok-check_sizes.was (judged_alone c.check_sizes.ensures)
    (hands_on (_ ∷ []) _ c.in_err-check_starts.was c.from_residual-in_err-check_starts.ensures.1 (judged_alone c.check_starts.ensures))

pub check_arcs-requires : goal.check_arcs-requires
check_arcs-requires c = listed_of _ _ _ _ (sized_of _ _ _ _ (unheld (c.check_sizes.ensures.passed c.in_ok-check_sizes.was)))
    (rising_of _ _ (unheld (c.check_starts.ensures.passed c.in_ok-check_starts.was)))

pub returns : goal.returns
returns c = goes_on (_ ∷ []) _ c.in_ok-check_sizes.was (judged_alone c.check_sizes.ensures)
    (goes_on (_ ∷ []) _ c.in_ok-check_starts.was (judged_alone c.check_starts.ensures) (judged_alone c.check_arcs.ensures))
