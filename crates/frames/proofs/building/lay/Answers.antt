use Rattle.std.proofs.lemmas.Result.{err_from_is_err_and}
use Rattle.frames.proofs.Laying.{laid_refused, laid_built, made_few, print_fits}
use Rattle.frames.proofs.building.lay.Goals as goal

pub returns-in_err-arcs-clause-laid : goal.returns-in_err-arcs-clause-laid
returns-in_err-arcs-clause-laid c =
    let p = err_from_is_err_and c.from_residual.result c.from_residual.ensures.1 in
    rw (p.1, p.2) (laid_refused _ _ _ _ _ _ _ c.requires.room _ _ _ _ _ _ c.in_err-arcs.ensures.found)

pub print_map-requires-clause-rows_fit : goal.print_map-requires-clause-rows_fit
print_map-requires-clause-rows_fit c =
    let e = c.lent-room.ensures in
    print_fits _ _ _ _ _ _ _ c.requires.room c.in_ok-arcs.arcs _ _ _ c.in_ok-arcs.ensures.found _ c.requires _ _ _ e.starts e.heads e.weights

pub returns-clause-laid : goal.returns-clause-laid
returns-clause-laid c =
    let e = c.lent-room.ensures in
    laid_built _ _ _ _ _ _ _ c.requires.room c.in_ok-arcs.arcs _ _ _ c.in_ok-arcs.ensures.found _ _ _ _ _ _ e.starts e.heads e.weights
    c.print_map.ensures

pub returns-clause-few : goal.returns-clause-few
returns-clause-few c = (made_few _ _ _ _ _ _ _ c.requires.room c.in_ok-arcs.arcs _ _ _ c.in_ok-arcs.ensures.found).2
