-- How many nodes a path has, and how much it weighs.
use mathlib.Core.List.{List, ◌∷◌}
use Prim.Native.Nat.{ℕ, ◌-◌, ◌*◌, ◌≤◌, ◌<◌}
use native.Mathlib.Nat.{mul-le-mul_right, le_trans, suc-mul}
use native.Mathlib.Omega.{arith}
use lib.ListN.{length}
use Rattle.paths.specs.Lists.{Each}
use Rattle.paths.specs.Graphs.{Graph, Proper, Lighter, Along, stop, step, IsPath, arcs_of}
use Rattle.paths.proofs.Lists.{few}

module _ {G : Graph} where
  pub nodes_of : Proper G → {a : ℕ} {l : List ℕ} {b w : ℕ} → a < G.nodes → Along G a l b w → Each (λ (v : ℕ). v < G.nodes) (a ∷ l)
  nodes_of g h stop = (h, tt)
  nodes_of g h (step s r) = (h, nodes_of g (g.head s) r)

  -- a path has at most as many nodes as the graph
  pub path_short : Proper G → {a : ℕ} {l : List ℕ} {b w : ℕ} → IsPath G a l b w → length (a ∷ l) ≤ G.nodes
  path_short g {a} {l} p = few G.nodes (a ∷ l) p.different (nodes_of g p.node p.along)

  way_light : {most : ℕ} → Lighter G most → {a : ℕ} {l : List ℕ} {b w : ℕ} → Along G a l b w → w ≤ length l * most
  way_light g stop = omega arith
  way_light {most} g (step {l = l} s r) = omega (arith, g.light s, way_light g r, suc-mul (length l) most)

  -- so it weighs at most the greatest weight of a step, once for each arc that a path through all nodes has
  pub path_light : {most : ℕ} → Proper G → Lighter G most → {a : ℕ} {l : List ℕ} {b w : ℕ} → IsPath G a l b w → w ≤ arcs_of G.nodes * most
  path_light {most} g h {a} {l} p =
      let fewer : length l ≤ G.nodes - 1 = omega (arith, path_short g p) in
      le_trans (way_light h p.along) (mul-le-mul_right most fewer)
