use Rattle.road.proofs.Refusals.{judged_alone, goes_on}
use mathlib.Core.List.{[], ◌∷◌}
use Rattle.road.proofs.chains.check_lone_set.Goals as goal

pub returns : goal.returns
returns c = goes_on (_ ∷ []) _ c.in_ok-check_set_size.was (judged_alone c.check_set_size.ensures) (judged_alone c.check_set.ensures)
