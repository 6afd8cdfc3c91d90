use mathlib.Core.Path.{refl}
use Rattle.frames.proofs.Judging.{begins_head, not_head}
use Rattle.frames.proofs.Standing.{leaves_as}
use Rattle.frames.proofs.loading.take_head.Goals as goal

pub returns-in_default : goal.returns-in_default
returns-in_default c = record { leaves = λ nodes. not_head _ nodes _ c.in_default.not-Head; kept = tt }

pub returns-clause-leaves : goal.returns-clause-leaves
returns-clause-leaves c =
    λ nodes. leaves_as _ _ _ _ _ _ _ (begins_head _ _ _ _ c.in-Head.is nodes) (λ p. refl) c.go_on.ensures.leaves
