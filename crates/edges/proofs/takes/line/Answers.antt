use mathlib.Core.Path.{◌≡◌, sym, ap}
use mathlib.Core.List.{List}
use Prim.Native.Nat.{ℕ}
use native.Mathlib.Omega.{arith}
use lib.ListN.{length, replicate, length-replicate}
use Rattle.std.specs.Prelude.{Ok}
use Rattle.road.specs.Faults.{graph_faults}
use Rattle.road.specs.Limits.{overlay_limits}
use Rattle.road.specs.Roads.{nodes_of}
use Rattle.road.specs.workings.Verdicts.{Verdict, Judges}
use Rattle.road.proofs.Faults.{sound_of}
use Rattle.search.specs.workings.Rows.{Asks}
use borrow.Author.Rules.{rules}
use Rattle.edges.proofs.takes.line.Goals as goal

-- from the checks to what the search asks
ready :
    (starts heads weights blocked : List ℕ) (v : Verdict) → Judges (graph_faults overlay_limits starts heads weights) v → v ≡ Ok tt → length starts ≡ 4097 → length blocked ≡ 4096 →
    Asks starts heads weights blocked 0 (replicate 4096 0) (replicate 4096 0) (replicate 4096 0)
ready starts heads weights blocked v j e s b =
    record {
      sound = sound_of overlay_limits starts heads weights (j.passed e);
      node = omega arith;
      bytes = omega arith;
      room = omega (arith, long);
      queue = omega (arith, long);
      heap_zero = ap (λ (k : ℕ). replicate {A = ℕ} k 0) (sym long);
      places_zero = ap (λ (k : ℕ). replicate {A = ℕ} k 0) nodes;
    }
  where
    long : length (replicate {A = ℕ} 4096 0) ≡ 4096
    long = length-replicate {A = ℕ} 4096 0

    nodes : 4096 ≡ nodes_of starts
    nodes = omega arith

pub count-requires : goal.count-requires
count-requires g c = ready _ _ _ _ _ (rw c.overlay_limits.ensures at c.check_graph.ensures) c.in_default.is c.graph-graph.ensures (search rules)
