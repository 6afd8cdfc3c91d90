use Rattle.road.proofs.Refusals.{judged_passed}
use Rattle.road.proofs.Scans.{clear_at, found_none}
use mathlib.Core.Path.{◌≡◌, ap, ◌∙◌}
use native.Mathlib.Omega.{arith}
use lib.ListN.{get_or}
use Prim.Native.Nat.{ℕ, ◌≤◌}
use Rattle.road.proofs.arcs.check_arcs.Goals as goal

at-end : {a b : ℕ} → a ≤ b → b ≤ a → a ≡ b
at-end h l = omega arith

pub returns : goal.returns
returns c = judged_passed (found_none _ _ _ _ _ (omega arith) (clear_at _ _ _ _ _ _ (ap (λ (u : ℕ). get_or c.args.graph.now.starts.now u 0) (at-end c.loop-tail.invariant.0 (rw c.node_count-tail-end.ensures at c.loop-tail-test.false)) ∙ c.requires.rising.ends) c.loop-tail.invariant.1))
