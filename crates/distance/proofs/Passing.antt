-- The any-pair question over the road's own overlay.
--   pair_road           under each of its sums there is a path of the road
--   road_pair           under each path of the road there is one of its sums
use mathlib.Core.Path.{refl, sym, subst₂}
use mathlib.Core.Logic.{◌⊎◌, inl, inr}
use mathlib.Core.List.{List, []}
use Prim.Native.Nat.{ℕ, ◌+◌, ◌≤◌, ◌<◌}
use native.Mathlib.Omega.{arith}
use Rattle.paths.specs.Graphs.{Graph, Along, stop, Reaches, Walks, Any}
use Rattle.paths.specs.Least.{Under}
use Rattle.paths.specs.Lists.{Each}
use Rattle.paths.proofs.Lists.{each_inside, any_inside}
use Rattle.paths.proofs.Ways.{walks_joined, end_node, path_within}
use Rattle.road.specs.Faults.{InSet}
use Rattle.overlay.specs.Overlays.{Outside}
use Rattle.overlay.proofs.Locals.{reaches_map}
use Rattle.overlay.proofs.Crossing.{in?, FirstSet, LastSet, first?, last?, Over, road_walk, over_path}
use Rattle.distance.specs.Questions.{WayIn, WayOut, AnyPair, direct, over}
use Rattle.distance.proofs.Gates.{lone_in, lone_out}

module _ (G O : Graph) (chosen : List ℕ) (x : Over G O chosen) (s t : ℕ) (node : s < G.nodes) where
  in_walk : (a w : ℕ) → WayIn G chosen s a w → Walks G Any s a w
  in_walk a w (WayIn.itself i e z) =
      subst₂ (λ (v k : ℕ). Walks G Any s v k) (sym e) (sym z) (record { after = []; along = stop; inner = tt })
  in_walk a w (WayIn.reached o i l) = record { after = l.after; along = l.path.along; inner = any_inside l.after }

  out_walk : (b w : ℕ) → WayOut G chosen b t w → Walks G Any b t w
  out_walk b w (WayOut.itself i e z) =
      subst₂ (λ (v k : ℕ). Walks G Any v t k) (sym e) (sym z) (record { after = []; along = stop; inner = tt })
  out_walk b w (WayOut.reached o i l) = record { after = l.after; along = l.path.along; inner = any_inside l.after }

  -- each sum of the any-pair question has a path of the road under it
  pub pair_road : Under (AnyPair G O chosen s t) (Reaches G Any s t)
  pair_road = record { under = by }
    where
      by : (d : ℕ) → AnyPair G O chosen s t d → (e : ℕ) × Reaches G Any s t e × (e ≤ d)
      by d (direct r) = (d, reaches_map (λ v o. tt) r, omega arith)
      by d (over a b u v w p q o e) =
          let z = path_within node (walks_joined (walks_joined (in_walk a u p) tt (road_walk G O chosen x q.path.along)) tt (out_walk b w o)) in
          (z.0, z.1, omega (arith, z.2))

  -- from a node of the set to t: through the overlay, and out
  record Leaves (a p : ℕ) : Type 0 where
    exit : ℕ
    middle : ℕ
    last : ℕ
    path : Reaches O Any a exit middle
    out : WayOut G chosen exit t last
    lighter : middle + last ≤ p

  leaves : {a p : ℕ} {l : List ℕ} → InSet chosen a → a < G.nodes → Along G a l t p → Leaves a p
  leaves {a} {p} {l} i n r = by (in? chosen t)
    where
      outside_by : Outside chosen t → Each (Outside chosen) l ⊎ LastSet G chosen a l t p → Leaves a p
      outside_by o (inl e) =
          let z : (d : ℕ) × Reaches G (Outside chosen) a t d × (d ≤ p) = path_within n (record { after = l; along = r; inner = each_inside (Outside chosen) l e }) in
          record {
            exit = a;
            middle = 0;
            last = z.0;
            path = record { after = []; path = record { node = omega (arith, x.nodes); along = stop; different = ((λ m. m), tt) }; inner = tt };
            out = WayOut.reached o i (lone_out chosen o z.1);
            lighter = omega (arith, z.2);
          }
      outside_by o (inr f) =
          let y = over_path G O chosen x f.parts.to i f.member n in
          let z : (d : ℕ) × Reaches G (Outside chosen) f.node t d × (d ≤ f.parts.past) =
          path_within (end_node x.proper n f.parts.to) (record { after = f.parts.back; along = f.parts.from; inner = each_inside (Outside chosen) f.parts.back f.rest })
          in
          record {
            exit = f.node;
            middle = y.0;
            last = z.0;
            path = y.1;
            out = WayOut.reached o f.member (lone_out chosen o z.1);
            lighter = omega (arith, y.2, z.2, f.parts.weight);
          }

      by : InSet chosen t ⊎ Outside chosen t → Leaves a p
      by (inl j) =
          let y = over_path G O chosen x r i j n in
          record { exit = t; middle = y.0; last = 0; path = y.1; out = WayOut.itself j refl refl; lighter = omega (arith, y.2) }
      by (inr o) = outside_by o (last? chosen r)

  -- and each path of the road has a sum of the any-pair question under it
  pub road_pair : Under (Reaches G Any s t) (AnyPair G O chosen s t)
  road_pair = record { under = λ d r. by d r (in? chosen s) }
    where
      entered : (d : ℕ) (r : Reaches G Any s t d) → Outside chosen s → Each (Outside chosen) r.after ⊎ FirstSet G chosen s r.after t d → (e : ℕ) × AnyPair G O chosen s t e × (e ≤ d)
      entered d r o (inl e) = (d, direct (record { after = r.after; path = r.path; inner = each_inside (Outside chosen) r.after e }), omega arith)
      entered d r o (inr f) =
          let z : (k : ℕ) × Reaches G (Outside chosen) s f.node k × (k ≤ f.parts.before) =
          path_within node (record { after = f.parts.front; along = f.parts.to; inner = f.inner })
          in
          let y = leaves f.member (end_node x.proper node f.parts.to) f.parts.from in (
            z.0 + y.middle + y.last,
            over f.node y.exit z.0 y.middle y.last (WayIn.reached o f.member (lone_in chosen o z.1)) y.path y.out refl,
            omega (arith, z.2, y.lighter, f.parts.weight),
          )

      by : (d : ℕ) → Reaches G Any s t d → InSet chosen s ⊎ Outside chosen s → (e : ℕ) × AnyPair G O chosen s t e × (e ≤ d)
      by d r (inl i) =
          let y = leaves i node r.path.along in
          (0 + y.middle + y.last, over s y.exit 0 y.middle y.last (WayIn.itself i refl refl) y.path y.out refl, omega (arith, y.lighter))
      by d r (inr o) = entered d r o (first? chosen r.path.along)
