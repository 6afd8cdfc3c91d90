use mathlib.Core.Path.{◌≡◌}
use native.Mathlib.Omega.{arith}
use Rattle.road.specs.declared.Refusal.TheVariants.{Overlay}
use Rattle.road.proofs.Refusals.{refused_on, passes}
use Rattle.overlay.proofs.Ends.{map_passed, map_refused, rows_more, graph_faulty, graph_sound, all_in}
use borrow.Author.Rules.{rules}
use Rattle.overlay.proofs.checking.check_overlay.Goals as goal

pub returns-in_err-map_err : goal.returns-in_err-map_err
returns-in_err-map_err c =
    let is : c.in_err-map_err.field-0.0 ≡ Overlay = search rules in
    let faulty = graph_faulty _ _ _ _ _ (rw c.overlay_limits.ensures at c.check_graph.ensures) _ (map_refused c.map_err.ensures.variant c.in_err-map_err.was).1 in
    refused_on c.in_err-map_err.was c.from_residual.ensures.1 (record { is = is; holds = faulty })

pub check_row-requires-clause-sound : goal.check_row-requires-clause-sound
check_row-requires-clause-sound c = graph_sound _ _ _ _ (rw c.overlay_limits.ensures at c.check_graph.ensures) (map_passed c.map_err.ensures.variant c.in_ok-map_err.was)

pub returns-in_err-check_row : goal.returns-in_err-check_row
returns-in_err-check_row c = refused_on c.in_err-check_row.was c.from_residual-in_err-check_row.ensures.1 (c.check_row.ensures.refused _ c.in_err-check_row.was)

pub loop-tail-preserved : goal.loop-tail-preserved
loop-tail-preserved c = rows_more _ _ _ _ c.loop-tail.invariant (c.check_row.ensures.passed c.in_ok-check_row.was)

pub returns : goal.returns
returns c =
    passes
    (all_in _ _ _ _ _ (rw c.overlay_limits.ensures at c.check_graph.ensures) (map_passed c.map_err.ensures.variant c.in_ok-map_err.was) _
    (omega (arith, c.if-node_count-set.false, c.node_count.ensures, (graph_sound _ _ _ _ (rw c.overlay_limits.ensures at c.check_graph.ensures) (map_passed c.map_err.ensures.variant c.in_ok-map_err.was)).sized.least))
    (search rules) c.loop-tail.invariant)
