use Rattle.trails.proofs.Completing.{needed_told}
use Rattle.pieces.proofs.Ready.{search_back}
use Rattle.trails.specs.workings.Search.{ends}
use Rattle.road.proofs.Refusals.{tells_yes}
use native.Mathlib.Omega.{arith}
use Rattle.cover.proofs.pruning.is_needed.Goals as goal

pub returns-then-reach-most : goal.returns-then-reach-most
returns-then-reach-most c = needed_told _ _ _ _ _ _ _ c.requires.prunable.sound c.requires.prunable.turned.round _ _ _ (omega (arith, c.requires.prunable.bytes, c.requires.v_in_bounds)) c.args.roads.now.of_k.some
    (tells_yes (ends (record { outward = rw (c.of-trail.ensures.0, c.if-reach-most.true) at c.longest-reach.ensures.reached })))

pub inward-requires-clause-back_searchable : goal.inward-requires-clause-back_searchable
inward-requires-clause-back_searchable c = search_back _ _ _ _ _ _ _ c.requires.prunable

pub returns : goal.returns
returns c = needed_told _ _ _ _ _ _ _ c.requires.prunable.sound c.requires.prunable.turned.round _ _ _ (omega (arith, c.requires.prunable.bytes, c.requires.v_in_bounds)) c.args.roads.now.of_k.some
    (rw c.of-trail.ensures.0 at c.inward.ensures)
