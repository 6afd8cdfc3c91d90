use Rattle.std.proofs.lemmas.Result.{err_from_is_err_and}
use Rattle.frames.proofs.Fitting.{front_back}
use Rattle.frames.proofs.Laying.{built_refused, built_laid}
use native.Mathlib.Omega.{arith}
use Rattle.frames.proofs.building.build.Goals as goal

pub returns-in_err-points-clause-built : goal.returns-in_err-points-clause-built
returns-in_err-points-clause-built c =
    let p = err_from_is_err_and c.from_residual.result c.from_residual.ensures.1 in
    rw (p.1, p.2) (built_refused _ _ _ _ _ _ _ _ c.in_err-points.ensures)

pub returns-clause-built : goal.returns-clause-built
returns-clause-built c =
    built_laid _ _ _ _ _ _ _ _ _ _ _
    (front_back _ _ _ _ (omega (arith, c.told-set, c.requires.nodes)) c.find_cover.auto.set)
    (front_back _ _ _ _ (omega (arith, c.told-over_starts, c.requires.nodes)) c.lay_in.auto.over_starts) _ _ _ _ c.in_ok-points.ensures c.lay_in.ensures.laid
