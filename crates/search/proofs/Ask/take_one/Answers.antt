use Rattle.search.proofs.States.{going_taken, going_shut}
use mathlib.Core.Logic.{⊎_elim}
use native.Mathlib.Omega.{arith}
use Rattle.search.proofs.Ask.take_one.Goals as goal

pub relax-requires-clause-going : goal.relax-requires-clause-going
relax-requires-clause-going c = going_taken _ _ _ _ _ _ _ _ _ c.requires.going _ _ _ _ c.take-u.ensures.still_heap c.take-u.ensures.without

pub returns-else-free-clause-still_going : goal.returns-else-free-clause-still_going
returns-else-free-clause-still_going c =
    going_shut _ _ _ _ _ _ _ _ _ c.requires.going _ _ _ _ c.take-u.ensures.still_heap c.take-u.ensures.without (⊎_elim c.if-u-self.false (λ f. omega arith))
