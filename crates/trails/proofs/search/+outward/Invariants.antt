use Prim.Native.Nat.{◌≤◌}
use lib.ListN.{get_or}
use Rattle.trails.specs.workings.Search.{NoneMissing}
use Rattle.trails.specs.Trails.{on_trail}
use Rattle.trails.proofs.Searching.{Tried}
use Rattle.trails.proofs.search.+outward.Given as goal

abbrev pub decreases-outward : goal.decreases-outward
decreases-outward l = l.missing.0

abbrev pub invariant-loop-p : goal.invariant-loop-p
invariant-loop-p l = (get_or l.graph.starts.now l.last 0 ≤ l.p) × (l.p ≤ l.p-end) × Tried NoneMissing l.graph.starts.now l.graph.heads.now l.cover (on_trail l.t) l.fewer.0 (get_or l.graph.starts.now l.last 0) l.p
