use lib.ListN.{length}
use mathlib.Core.Path.{◌≡◌, refl}
use native.Mathlib.Omega.{arith}
use Rattle.frames.proofs.Standing.{leaves_as, loads_complete, loads_more}
use Rattle.frames.proofs.loading.go_on.Goals as goal

pub returns-then-load-clause-leaves : goal.returns-then-load-clause-leaves
returns-then-load-clause-leaves c =
    let long : length c.args.areas.now.tails ≡ 2048 = search in
    loads_more c.args.load c.args.areas.now c.requires.limits.2 c.requires.limits.1 long _ c.if-load.true (omega (arith, c.requires.room))

pub returns-clause-leaves : goal.returns-clause-leaves
returns-clause-leaves c =
    let long : length c.args.areas.now.tails ≡ 2048 = search in
    leaves_as _ _ _ _ _ _ _ (loads_complete c.args.load c.args.areas.now c.requires.limits.2 c.requires.limits.1 long (omega (arith, c.if-load.false)))
    (λ p. refl) c.complete.ensures.leaves
