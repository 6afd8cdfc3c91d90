use Rattle.trails.specs.Trails.{on_trail}
use Rattle.trails.proofs.Searching.{Best}
use Rattle.trails.proofs.search.+longest.Given as goal

abbrev pub decreases-longest : goal.decreases-longest
decreases-longest l = l.most.0

abbrev pub invariant-loop-p : goal.invariant-loop-p
invariant-loop-p l = Best l.graph.starts.now l.graph.heads.now l.cover (on_trail l.t) l.most.0 l.last l.p-end l.p l.best
