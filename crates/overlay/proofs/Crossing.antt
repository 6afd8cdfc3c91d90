-- Paths of the overlay are paths of the road, and the other way round.
--   in?                 a node is in the set, or outside it
--   first?, last?       a way cut at the first, or the last, node of the set behind its beginning
--   Over                an overlay over the road: its steps are the definition's arcs, and all of them
--   over_road           under each path of the overlay there is one of the road
--   road_over           under each path of the road between nodes of the set there is one of the overlay
use mathlib.Core.Path.{◌≡◌, refl, sym, subst}
use mathlib.Core.Logic.{◌⊎◌, inl, inr, ◌≢◌}
use mathlib.Core.List.{List, [], ◌∷◌}
use Prim.Native.Nat.{ℕ, zero, suc, ◌+◌, ◌≤◌, ◌<◌}
use native.Mathlib.Decide.{ℕ_discrete}
use native.Mathlib.Omega.{arith}
use lib.ListN.{length, get_or}
use Rattle.paths.specs.Graphs.{Graph, Proper, Along, stop, step, Reaches, Walks, Any}
use Rattle.paths.specs.Least.{Under}
use Rattle.paths.specs.Lists.{Each, Inside}
use Rattle.paths.proofs.Lists.{each_mem, inside_cons, any_inside}
use Rattle.paths.proofs.Ways.{Cut, cut_here, cut_further, walks_joined, walk_of, end_node, end_in, path_within}
use Rattle.road.specs.Faults.{InSet}
use Rattle.overlay.specs.Overlays.{Outside, OverlayArc, HasArc}
use Rattle.overlay.proofs.Locals.{reaches_map}

pub in? : (chosen : List ℕ) (v : ℕ) → InSet chosen v ⊎ Outside chosen v
in? chosen v = by (ℕ_discrete (get_or chosen v 0) 1)
  where
    by : Dec (get_or chosen v 0 ≡ 1) → InSet chosen v ⊎ Outside chosen v
    by (yes e) = inl e
    by (no n) = inr n

-- a way cut at the first node of the set behind its beginning
pub record FirstSet (G : Graph) (chosen : List ℕ) (a : ℕ) (l : List ℕ) (b w : ℕ) : Type 0 where
  pub node : ℕ
  pub parts : Cut G a l b w node
  pub inner : Inside (Outside chosen) parts.front
  pub member : InSet chosen node
  pub shorter : length parts.back < length l

-- and at the last
pub record LastSet (G : Graph) (chosen : List ℕ) (a : ℕ) (l : List ℕ) (b w : ℕ) : Type 0 where
  pub node : ℕ
  pub parts : Cut G a l b w node
  pub rest : Each (Outside chosen) parts.back
  pub member : InSet chosen node

module _ {G : Graph} (chosen : List ℕ) where
  pub first? : {a b w : ℕ} {l : List ℕ} → Along G a l b w → Each (Outside chosen) l ⊎ FirstSet G chosen a l b w
  first? stop = inl tt
  first? {a} {b} (step {x = x} {w = w} {d = d} {l = l} s r) = by (in? chosen x) (first? r)
    where
      by : InSet chosen x ⊎ Outside chosen x → Each (Outside chosen) l ⊎ FirstSet G chosen x l b d → Each (Outside chosen) (x ∷ l) ⊎ FirstSet G chosen a (x ∷ l) b (w + d)
      by (inl i) f = inr (record { node = x; parts = cut_further w s (cut_here r refl); inner = tt; member = i; shorter = omega arith })
      by (inr o) (inl e) = inl (o, e)
      by (inr o) (inr f) =
          inr
          (record {
            node = f.node;
            parts = cut_further w s f.parts;
            inner = inside_cons (Outside chosen) x f.parts.front o f.inner;
            member = f.member;
            shorter = omega (arith, f.shorter);
          })

  pub last? : {a b w : ℕ} {l : List ℕ} → Along G a l b w → Each (Outside chosen) l ⊎ LastSet G chosen a l b w
  last? stop = inl tt
  last? {a} {b} (step {x = x} {w = w} {d = d} {l = l} s r) = by (in? chosen x) (last? r)
    where
      by : InSet chosen x ⊎ Outside chosen x → Each (Outside chosen) l ⊎ LastSet G chosen x l b d → Each (Outside chosen) (x ∷ l) ⊎ LastSet G chosen a (x ∷ l) b (w + d)
      by i (inr f) = inr (record { node = f.node; parts = cut_further w s f.parts; rest = f.rest; member = f.member })
      by (inl i) (inl e) = inr (record { node = x; parts = cut_further w s (cut_here r refl); rest = e; member = i })
      by (inr o) (inl e) = inl (o, e)

-- an overlay over the road: the same nodes, its steps are overlay arcs, and each pair of the definition has one
pub record Over (G O : Graph) (chosen : List ℕ) : Type 0 where
  pub nodes : O.nodes ≡ G.nodes
  pub proper : Proper G
  pub arc : (a b w : ℕ) → O.Step a b w → OverlayArc G chosen a b w
  pub pair : (a b : ℕ) → HasArc G chosen a b → (w : ℕ) × O.Step a b w

module _ (G O : Graph) (chosen : List ℕ) (x : Over G O chosen) where
  -- each way of the overlay is a walk of the road, of the same weight
  pub road_walk : {a b w : ℕ} {l : List ℕ} → Along O a l b w → Walks G Any a b w
  road_walk stop = record { after = []; along = stop; inner = tt }
  road_walk (step {a = a} {x = c} {w = w} s r) =
      walks_joined (walk_of (reaches_map (λ v o. tt) (x.arc a c w s).least.is)) tt (road_walk r)

  pub over_road : {a b : ℕ} → a < G.nodes → Under (Reaches O Any a b) (Reaches G Any a b)
  over_road h = record { under = λ d r. path_within h (road_walk r.path.along) }

  -- one arc of the overlay for a way between two nodes of the set with none between them, of no more weight
  short : {a c w : ℕ} {l : List ℕ} → a < G.nodes → InSet chosen a → InSet chosen c → a ≢ c → Along G a l c w → Inside (Outside chosen) l → (d : ℕ) × O.Step a c d × (d ≤ w)
  short {a} {c} {w} {l} h i j n r inner =
      let p : (d : ℕ) × Reaches G (Outside chosen) a c d × (d ≤ w) = path_within h (record { after = l; along = r; inner = inner }) in
      let y = x.pair a c (record { tail = i; head = j; apart = n; weight = p.0; some = p.1 }) in
      (y.0, y.1, omega (arith, (x.arc a c y.0 y.1).least.least p.0 p.1, p.2))

  -- between nodes of the set the overlay has a walk for each way of the road, of no more weight
  at_once : {a b w : ℕ} {l : List ℕ} → length l ≤ 0 → Along G a l b w → (d : ℕ) × Walks O Any a b d × (d ≤ w)
  at_once h stop = (0, record { after = []; along = stop; inner = tt }, omega arith)
  at_once h (step s r) = absurd (omega arith)

  none_behind : {a b w : ℕ} {l : List ℕ} → Along G a l b w → Each (Outside chosen) l → InSet chosen b → (d : ℕ) × Walks O Any a b d × (d ≤ w)
  none_behind stop e j = (0, record { after = []; along = stop; inner = tt }, omega arith)
  none_behind {b = b} (step {x = y} {l = m} s r) e j = absurd (each_mem (Outside chosen) b (y ∷ m) e (end_in (step s r)) j)

  over_walk : (k a b w : ℕ) (l : List ℕ) → length l ≤ k → Along G a l b w → InSet chosen a → InSet chosen b → a < G.nodes → (d : ℕ) × Walks O Any a b d × (d ≤ w)
  over_walk zero a b w l h r i j n = at_once h r
  over_walk (suc k) a b w l h r i j n = by (first? chosen r) (λ c v q g u e z. over_walk k c b v q g u e j z)
    where
      by :
          Each (Outside chosen) l ⊎ FirstSet G chosen a l b w →
          ((c v : ℕ) (q : List ℕ) → length q ≤ k → Along G c q b v → InSet chosen c → c < G.nodes → (d : ℕ) × Walks O Any c b d × (d ≤ v)) → (d : ℕ) × Walks O Any a b d × (d ≤ w)
      by (inl e) again = none_behind r e j
      by (inr f) again = onward (ℕ_discrete a f.node) (again f.node f.parts.past f.parts.back (omega (arith, f.shorter)) f.parts.from f.member (end_node x.proper n f.parts.to))
        where
          onward : Dec (a ≡ f.node) → (d : ℕ) × Walks O Any f.node b d × (d ≤ f.parts.past) → (d : ℕ) × Walks O Any a b d × (d ≤ w)
          onward (yes e) z = (z.0, subst (λ (v : ℕ). Walks O Any v b z.0) (sym e) z.1, omega (arith, z.2, f.parts.weight))
          onward (no q) z =
              let t = short n i f.member q f.parts.to f.inner in (
                t.0 + z.0,
                record { after = f.node ∷ z.1.after; along = step t.1 z.1.along; inner = any_inside (f.node ∷ z.1.after) },
                omega (arith, t.2, z.2, f.parts.weight),
              )

  pub over_path : {a b w : ℕ} {l : List ℕ} → Along G a l b w → InSet chosen a → InSet chosen b → a < G.nodes → (d : ℕ) × Reaches O Any a b d × (d ≤ w)
  over_path {a} {b} {w} {l} r i j n =
      let z = over_walk (length l) a b w l (omega arith) r i j n in
      let p = path_within (omega (arith, x.nodes)) z.1 in
      (p.0, p.1, omega (arith, z.2, p.2))

  pub road_over : {a b : ℕ} → InSet chosen a → InSet chosen b → a < G.nodes → Under (Reaches G Any a b) (Reaches O Any a b)
  road_over i j n = record { under = λ d r. over_path r.path.along i j n }
