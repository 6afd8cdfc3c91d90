use Rattle.pieces.proofs.Bounding.{two_fit}
use Rattle.pieces.proofs.Ready.{search_back}
use Rattle.pieces.specs.workings.Pieces.{Fits}
use Rattle.pieces.specs.workings.Steps.{road_of}
use mathlib.Core.Path.{subst}
use Prim.Native.Nat.{ℕ}
use native.Mathlib.Omega.{arith}
use Rattle.pieces.proofs.Roads.size_for.Goals as goal

pub invariant_of-back-clause-searchable : goal.invariant_of-back-clause-searchable
invariant_of-back-clause-searchable c = search_back _ _ _ _ _ _ _ c.requires.prunable

pub returns : goal.returns
returns c = subst (λ (r : ℕ). Fits (road_of c.args.self.now) c.args.self.now.k.0 c.args.cover.now c.args.sizes.now c.args.v r) (omega arith)
    (two_fit _ _ _ _ _ _ _ _ c.requires.prunable _ _ c.requires.kept _ _ _ _ c.max-second.result c.max-first.result c.largest-out.ensures c.largest-into.ensures c.max-second.ensures c.max-first.ensures (omega (arith, c.if-k-size.false)))
