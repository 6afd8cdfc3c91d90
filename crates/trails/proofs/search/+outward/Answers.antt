use mathlib.Core.List.{List}
use Prim.Native.Nat.{ℕ, ◌-◌}
use lib.ListN.{get_or}
use native.Mathlib.Omega.{arith}
use Rattle.trails.specs.workings.Search.{Outward, ends}
use Rattle.trails.proofs.Searching.{leads, none_leads, place_listed, carried, tried_to}
use Rattle.road.proofs.Refusals.{tells_yes, tells_no}
use Rattle.trails.proofs.search.+outward.Goals as goal

pub returns-then-missing-eq0 : goal.returns-then-missing-eq0
returns-then-missing-eq0 t c = tells_yes (ends (record { none = c.if-missing-eq0.true }))

pub offset_bounds-graph-p : goal.offset_bounds-graph-p
offset_bounds-graph-p t c = grind (arith, place_listed _ _ _ _ _ c.requires.searchable c.loop-p.invariant.0 (omega arith))

pub bounds-graph-p : goal.bounds-graph-p
bounds-graph-p t c = place_listed _ _ _ _ _ c.requires.searchable c.loop-p.invariant.0 (omega arith)

pub returns-then-outward : goal.returns-then-outward
returns-then-outward t c = tells_yes
    (leads _ _ _ _ _ c.requires.searchable.rising _ _ c.if-missing-eq0.false _ c.loop-p.invariant.0 (omega (arith, c.loop-p-test.true, c.row-row.ensures.end)) (c.is_free.ensures.yes c.if-is_free.true)
    ((carried (λ (l : List ℕ). Outward c.args.graph.now.starts.now c.args.graph.now.heads.now c.args.cover.now l (get_or c.args.graph.now.heads.now c.loop-p.p 0) (c.args.missing.0 - 1)) _ _ c.in-Some.ensures.1.nodes c.outward.ensures).yes c.if-outward.true))

pub returns : goal.returns
returns t c = tells_no (none_leads _ _ _ _ _ c.requires.searchable.rising _ _ c.if-missing-eq0.false (tried_to _ _ _ _ _ _ _ _ _ (omega arith) c.loop-p.invariant.2) (λ e. c.if-missing-eq0.false e.none))
