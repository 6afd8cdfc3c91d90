use Rattle.std.proofs.Common.{◌≤◌}
use Rattle.edges.proofs.graphs.Maze.fill.Given as goal

abbrev pub invariant-loop-j : goal.invariant-loop-j
invariant-loop-j l = l.arcs ≤ 16384

abbrev pub invariant-loop-v : goal.invariant-loop-v
invariant-loop-v l = l.arcs ≤ 16384
