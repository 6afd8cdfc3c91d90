use lib.ListN.{length, get_or}
use Prim.Native.Nat.{ℕ, ◌+◌, ◌-◌, ◌≤◌, ◌<◌}
use Rattle.road.proofs.starts.check_starts.Given as goal

abbrev pub invariant-loop-u : goal.invariant-loop-u
invariant-loop-u l = (l.u ≤ length l.starts - 1) × ((x : ℕ) → x < l.u → get_or l.starts x 0 ≤ get_or l.starts (x + 1) 0)
