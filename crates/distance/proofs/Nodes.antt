-- What the checks of a question's nodes leave.
use mathlib.Core.Path.{◌≡◌}
use Prim.Native.Nat.{ℕ, ◌<◌}
use Rattle.std.specs.Prelude.{Ok}
use native.Mathlib.Decide.{dec_lt}
use native.Mathlib.Omega.{arith}
use Rattle.road.specs.Faults.{NoNode, node_fault}
use Rattle.road.specs.workings.Verdicts.{Verdict, Judged}
use Rattle.road.proofs.Refusals.{unheld}

module _ (n s t : ℕ) (f : NoNode n s t → ⊥) where
  pub from_node : s < n
  from_node = by (dec_lt s n)
    where
      by : Dec (s < n) → s < n
      by (yes h) = h
      by (no h) = absurd (f (NoNode.from (omega arith)))

  pub to_node : t < n
  to_node = by (dec_lt t n)
    where
      by : Dec (t < n) → t < n
      by (yes h) = h
      by (no h) = absurd (f (NoNode.to (omega arith)))

pub passed_from : (n s t : ℕ) (v : Verdict) → Judged (node_fault n s t) v → v ≡ Ok tt → s < n
passed_from n s t v j e = from_node n s t (unheld (j.passed e))

pub passed_to : (n s t : ℕ) (v : Verdict) → Judged (node_fault n s t) v → v ≡ Ok tt → t < n
passed_to n s t v j e = to_node n s t (unheld (j.passed e))
