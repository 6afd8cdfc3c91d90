use Rattle.std.proofs.lemmas.Result.{err_from_is_err_and}
use Rattle.frames.proofs.Standing.{completed, completed_refused}
use Rattle.frames.proofs.loading.complete.Goals as goal

pub returns-in_err-over-clause-leaves : goal.returns-in_err-over-clause-leaves
returns-in_err-over-clause-leaves c =
    let p = err_from_is_err_and c.from_residual.result c.from_residual.ensures.1 in
    rw (p.1, p.2) (completed_refused c.args.load c.args.areas.now _ c.write_front.ensures _ _ _ c.in_err-over.ensures.built)

pub returns-clause-leaves : goal.returns-clause-leaves
returns-clause-leaves c = completed c.args.load c.args.areas.now _ c.write_front.ensures _ _ _ _ _ _ _ c.in_ok-over.ensures.built
