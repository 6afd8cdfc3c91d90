use borrow.Author.Rules.{rules}
use native.Mathlib.Omega.{arith}
use Rattle.trails.specs.Trails.{on_trail}
use Rattle.trails.proofs.Searching.{best_at, best_none, best_met, best_missed, best_is, best_reached, best_short, longest_most, longest_none, longest_carried, row_bounds, place_listed}
use Rattle.trails.proofs.search.+longest.Goals as goal
use Rattle.trails.proofs.search.+longest.Goals.{then-is_free+in-Some+else-most-best, else-is_free}

pub returns-then-most-eq0 : goal.returns-then-most-eq0
returns-then-most-eq0 t c = longest_none _ _ _ _ _ _ c.if-most-eq0.true

pub loop-p-init : goal.loop-p-init
loop-p-init t c = best_none _ _ _ _ _ _ _ _ c.row-row.ensures.first (omega (arith, c.requires.searchable.rising.rises c.args.last (row_bounds _ _ _ _ c.requires.searchable c.requires.last_in_bounds)))

pub offset_bounds-graph-p : goal.offset_bounds-graph-p
offset_bounds-graph-p t c = grind (arith, place_listed _ _ _ _ _ c.requires.searchable c.loop-p.invariant.from (omega arith))

pub bounds-graph-p : goal.bounds-graph-p
bounds-graph-p t c = place_listed _ _ _ _ _ c.requires.searchable c.loop-p.invariant.from (omega arith)

pub returns-then-most-best : goal.returns-then-most-best
returns-then-most-best t c =
    let l = longest_carried _ _ _ (on_trail c.args.t) _ _ _ _ c.in-Some.ensures.1.nodes c.longest-found.ensures in
    longest_most _ _ _ _ _ _ c.row-row.result.end _ c.if-most-best.true
    (best_short _ _ _ _ _ _ _ _ _ c.loop-p.invariant c.loop-p-test.true c.requires.searchable.rising c.row-row.ensures.end c.if-most-eq0.false (c.is_free.ensures.yes c.if-is_free.true) _ _ l (search rules))
    (best_reached _ _ _ _ _ _ _ _ _ c.loop-p.invariant c.loop-p-test.true c.requires.searchable.rising c.row-row.ensures.end c.if-most-eq0.false (c.is_free.ensures.yes c.if-is_free.true) _ _ l (search rules))

pub loop-p-preserved : goal.loop-p-preserved
loop-p-preserved t c = elim c.if-is_free.branch [
  | then-is_free+in-Some+else-most-best w ↦
      let l = longest_carried _ _ _ (on_trail c.args.t) _ _ _ _ w.in-Some.ensures.1.nodes w.longest-found.ensures in
      rw w.best-is (best_met _ _ _ _ _ _ _ _ _ c.loop-p.invariant c.loop-p-test.true c.requires.searchable.rising c.row-row.ensures.end c.if-most-eq0.false (c.is_free.ensures.yes w.if-is_free.true) _ _ l (search rules))
  | else-is_free w ↦ rw w.best-is (best_missed _ _ _ _ _ _ _ _ _ c.loop-p.invariant c.loop-p-test.true (c.is_free.ensures.no w.if-is_free.false))
]

pub returns : goal.returns
returns t c = best_is _ _ _ _ _ _ c.row-row.result.end _ (best_at _ _ _ _ _ _ _ _ _ _ (omega (arith, c.loop-p.invariant.to)) c.loop-p.invariant) c.row-row.ensures.end
