-- Where too few nodes are dropped, a node is not needed: a path of k nodes has k - 1 others.
use mathlib.Core.Path.{◌≡◌, sym, ap, subst, ◌∙◌}
use mathlib.Core.List.{List, [], ◌∷◌}
use Prim.Native.Nat.{ℕ, ◌+◌, ◌≤◌, ◌<◌}
use native.Mathlib.Decide.{ℕ_discrete}
use native.Mathlib.Omega.{arith}
use lib.ListN.{length, set, length-set}
use lib.Seq.{get_or-set_same, get_or-set_other}
use Rattle.paths.specs.Graphs.{Graph, Proper}
use Rattle.paths.specs.Lists.{Mem, Different, Each}
use Rattle.paths.proofs.Lists.{each_mem, mem_each}
use Rattle.paths.proofs.Weights.{nodes_of}
use Rattle.road.specs.Counting.{times}
use Rattle.road.proofs.Counting.{times_fewer, times_set}
use Rattle.rule.specs.Rule.{Dropped, Needed, PathOf}

-- different nodes that are dropped are no more than the zeros
abbrev Zero : List ℕ → ℕ → Type 0
Zero cover x = (x < length cover) × Dropped cover x

zeros_enough : (l cover : List ℕ) → Different l → Each (Zero cover) l → length l ≤ times 0 cover
zeros_enough [] cover d e = omega arith
zeros_enough (x ∷ l) cover d e =
    omega (arith, zeros_enough l (set cover x 1) d.1 (mem_each (Zero (set cover x 1)) l still), times_fewer cover x 1 0 e.0.0 e.0.1 (λ z. omega arith))
  where
    still : (y : ℕ) → Mem y l → Zero (set cover x 1) y
    still y m =
        let z = each_mem (Zero cover) y l e.1 m in (
          omega (arith, z.0, length-set cover x 1),
          get_or-set_other cover x y 1 0 (λ q. d.0 (subst (λ (k : ℕ). Mem k l) q m)) ∙ z.1,
        )

module _ (G : Graph) (p : Proper G) (k : ℕ) (cover : List ℕ) (v : ℕ) (long : length cover ≡ G.nodes) (node : v < length cover) where
  -- a path of k nodes, v and dropped ones, takes k - 1 dropped ones
  pub few_unneeded : times 0 cover + 1 < k → Needed (PathOf G k) cover v → ⊥
  few_unneeded few n =
      let c = n.counts in
      let size : length (c.first ∷ c.after) ≡ k = ap length (sym c.whole) ∙ c.nodes in
      omega (
        arith,
        size,
        zeros_enough (c.first ∷ c.after) (set cover v 0) c.path.different (mem_each (Zero (set cover v 0)) (c.first ∷ c.after) dropped),
        times_set cover v 0 0 node,
      )
    where
      by : (x : ℕ) → Mem x n.path → Dec (x ≡ v) → Dropped (set cover v 0) x
      by x m (yes e) = subst (λ (y : ℕ). Dropped (set cover v 0) y) (sym e) (get_or-set_same cover v 0 0 node)
      by x m (no d) = get_or-set_other cover v x 0 0 d ∙ n.others x m d

      dropped : (x : ℕ) → Mem x (n.counts.first ∷ n.counts.after) → Zero (set cover v 0) x
      dropped x m = (
        omega (
          arith,
          long,
          length-set cover v 0,
          each_mem (λ (y : ℕ). y < G.nodes) x (n.counts.first ∷ n.counts.after) (nodes_of p n.counts.path.node n.counts.path.along) m,
        ),
        by x (subst (Mem x) (sym n.counts.whole) m) (ℕ_discrete x v),
      )
