use Prim.Native.Nat.{◌≤◌}
use lib.ListN.{get_or}
use Rattle.trails.specs.workings.Search.{OutwardFrom}
use Rattle.trails.specs.Trails.{on_trail}
use Rattle.trails.proofs.Searching.{Tried}
use Rattle.trails.proofs.search.+inward.Given as goal

abbrev pub decreases-inward : goal.decreases-inward
decreases-inward l = l.missing.0

abbrev pub invariant-loop-p : goal.invariant-loop-p
invariant-loop-p l = (get_or l.back.starts.now l.first 0 ≤ l.p) × (l.p ≤ l.p-end) × Tried (OutwardFrom l.graph.starts.now l.graph.heads.now l.cover l.last) l.back.starts.now l.back.heads.now l.cover (on_trail l.t) l.fewer.0 (get_or l.back.starts.now l.first 0) l.p
