use Prim.Native.Nat.{ℕ, ◌-◌, ◌<◌}
use lib.ListN.{get_or, length}
use native.Mathlib.Omega.{arith}
use mathlib.Core.List.{List}
use Rattle.road.proofs.Refusals.{tells_yes, tells_no}
use Rattle.trails.specs.workings.Search.{Inward, ends}
use Rattle.trails.proofs.Searching.{tried_to, leads, last_resort, none_leads, within_longer, out_of_reach, place_listed, head_node, carried}
use Rattle.trails.proofs.search.+inward.Goals as goal

pub returns-then-missing-eq0 : goal.returns-then-missing-eq0
returns-then-missing-eq0 t c = tells_yes (ends (record { outward = ends (record { none = c.if-missing-eq0.true }) }))

pub offset_bounds-back-p : goal.offset_bounds-back-p
offset_bounds-back-p t c = grind (arith, place_listed _ _ _ _ _ c.requires.back_searchable c.loop-p.invariant.0 (omega arith))

pub bounds-back-p : goal.bounds-back-p
bounds-back-p t c = place_listed _ _ _ _ _ c.requires.back_searchable c.loop-p.invariant.0 (omega arith)

pub inward-requires : goal.inward-requires
inward-requires t c =
    let h : get_or c.args.back.now.heads.now c.loop-p.p 0 < length c.args.cover.now = head_node _ _ _ _ _ c.requires.back_searchable c.loop-p.invariant.0 (omega arith) in
    (omega arith, (c.requires.searchable, (c.requires.back_searchable, (h, (c.requires.last_in_bounds, (omega (arith, c.in-Some.ensures.1.count), within_longer _ _ _ _ _ _ _ _ _ c.in-Some.ensures.1.nodes c.requires.within))))))

pub returns-then-inward : goal.returns-then-inward
returns-then-inward t c = tells_yes
    (leads _ _ _ _ _ c.requires.back_searchable.rising _ _ c.if-missing-eq0.false _ c.loop-p.invariant.0 (omega (arith, c.loop-p-test.true, c.row-row.ensures.end)) (c.is_free.ensures.yes c.if-is_free.true)
    ((carried (λ (l : List ℕ). Inward c.args.graph.now.starts.now c.args.graph.now.heads.now c.args.back.now.starts.now c.args.back.now.heads.now c.args.cover.now c.args.last l (get_or c.args.back.now.heads.now c.loop-p.p 0) (c.args.missing.0 - 1)) _ _ c.in-Some.ensures.1.nodes c.inward.ensures).yes c.if-inward.true))

pub returns-then-reach-missing : goal.returns-then-reach-missing
returns-then-reach-missing t c = tells_no (none_leads _ _ _ _ _ c.requires.back_searchable.rising _ _ c.if-missing-eq0.false (tried_to _ _ _ _ _ _ _ _ _ (omega arith) c.loop-p.invariant.2) (out_of_reach _ _ _ _ _ _ _ c.requires.within (omega arith)))

pub returns : goal.returns
returns t c = last_resort _ _ _ _ _ c.requires.back_searchable.rising _ _ c.if-missing-eq0.false (tried_to _ _ _ _ _ _ _ _ _ (omega arith) c.loop-p.invariant.2)
    (record { yes = λ e. record { outward = c.outward.ensures.yes e }; no = λ e o. c.outward.ensures.no e o.outward })
