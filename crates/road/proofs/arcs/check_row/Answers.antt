use mathlib.Core.Path.{sym, subst, ◌∙◌}
use Rattle.road.specs.workings.Scans.{Scanned}
use Rattle.road.specs.workings.Verdicts.{Verdict}
use Rattle.road.proofs.Refusals.{handed_on}
use Rattle.road.proofs.Scans.{clear_at, clear_more, placed, found}
use native.Mathlib.Omega.{arith}
use Rattle.road.proofs.arcs.check_row.Goals as goal

pub check_arc-requires : goal.check_arc-requires
check_arc-requires c = placed _ _ _ c.requires.listed _ _ c.requires.tail_bound c.loop-p.invariant.0 (omega arith)

pub returns-in_err-check_arc : goal.returns-in_err-check_arc
returns-in_err-check_arc c = subst (λ (v : Verdict). Scanned c.args.limits c.args.graph.now.starts.now c.args.graph.now.heads.now c.args.graph.now.weights.now c.args.tail v) (sym (handed_on c.in_err-check_arc.was c.from_residual.ensures.1 ∙ c.in_err-check_arc.was))
    (found _ _ _ _ _ _ (placed _ _ _ c.requires.listed _ _ c.requires.tail_bound c.loop-p.invariant.0 (omega arith)).head
    c.loop-p.invariant.2
    (c.check_arc.ensures.refused _ c.in_err-check_arc.was))

pub loop-p-preserved : goal.loop-p-preserved
loop-p-preserved c = (omega arith, omega arith, clear_more _ _ _ _ _ c.loop-p.invariant.2 (c.check_arc.ensures.passed c.in_ok-check_arc.was))

pub returns : goal.returns
returns c = clear_at _ _ _ _ _ _ (omega arith) c.loop-p.invariant.2
