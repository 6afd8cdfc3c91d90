use lib.ListN.{length}
use mathlib.Core.Path.{◌≡◌, refl}
use native.Mathlib.Omega.{arith}
use Rattle.frames.proofs.Judging.{arc_loads, arc_undue, not_arc}
use Rattle.frames.proofs.Standing.{leaves_as}
use Rattle.frames.proofs.loading.take_arc.Goals as goal

pub returns-in_default : goal.returns-in_default
returns-in_default c = record { leaves = λ nodes. not_arc c.args.load c.args.areas.now _ nodes _ c.in_default.not-Arc; kept = tt }

pub returns-then-falls-clause-leaves : goal.returns-then-falls-clause-leaves
returns-then-falls-clause-leaves c =
    λ nodes. arc_undue c.args.load c.args.areas.now _ _ _ _ c.in-Arc.is _ c.falls.ensures nodes _ c.if-falls.true

pub returns-clause-leaves : goal.returns-clause-leaves
returns-clause-leaves c =
    let a = c.args.areas.now in
    let f = c.requires.fits in
    let e₁ : length c.args.areas.now.tails ≡ 2048 = search in
    let e₂ : length c.args.areas.now.heads ≡ 2048 = search in
    let e₃ : length c.args.areas.now.weights ≡ 2048 = search in
    λ nodes.
    leaves_as _ _ _ _ _ _ _
    (arc_loads c.args.load a _ _ _ _ c.in-Arc.is _ c.falls.ensures nodes c.if-falls.false (omega (arith, f.more, f.arcs)) (omega (arith, f.more, f.arcs))
    (omega (arith, f.more, f.arcs)))
    (λ p. refl) c.go_on.ensures.leaves
