use Rattle.pieces.proofs.Spreading.{push_room, raises_one}
use Rattle.pieces.specs.workings.Pieces.{none}
use native.Mathlib.Omega.{arith}
use Rattle.pieces.proofs.sizes.raise.Goals as goal

pub returns-then-cover-y-ne0-clause-raises : goal.returns-then-cover-y-ne0-clause-raises
returns-then-cover-y-ne0-clause-raises c = none

pub bounds-pieces-count : goal.bounds-pieces-count
bounds-pieces-count c = push_room c.args.sizes.now c.args.y (omega arith) (omega arith) _ _ c.requires.room

pub returns-clause-raises : goal.returns-clause-raises
returns-clause-raises c = raises_one c.args.sizes.now c.args.y (omega arith) (omega arith) _ _
