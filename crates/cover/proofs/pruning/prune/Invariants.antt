use Rattle.pieces.specs.workings.Pieces.{Kept}
use Rattle.pieces.specs.workings.Steps.{road_of}
use Rattle.rule.proofs.Rules.{Going}
use Rattle.cover.specs.workings.Ready.{paths_of}
use Rattle.cover.proofs.pruning.prune.Given as goal

abbrev pub invariant-loop-v : goal.invariant-loop-v
invariant-loop-v l =
    Going (paths_of l.roads) l.order l.initial.cover l.v-index l.cover × Kept (road_of l.roads) l.roads.k.0 l.cover l.sizes l.pieces
