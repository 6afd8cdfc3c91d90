-- Ways in and out of the set, as the rows of the two searches find them.
use mathlib.Core.Path.{◌≡◌, refl, sym, subst}
use mathlib.Core.Logic.{◌⊎◌, inl, inr, ⊎_elim}
use mathlib.Core.List.{List, ◌∷◌}
use Prim.Native.Nat.{ℕ, zero, suc, ◌+◌, ◌≤◌, ◌<◌}
use native.Mathlib.Omega.{arith}
use lib.ListN.{length}
use Rattle.paths.specs.Graphs.{Graph, Along, stop, step, Reaches}
use Rattle.paths.specs.Least.{Told}
use Rattle.paths.specs.Lists.{Mem, Different, Inside}
use Rattle.paths.proofs.Least.{told_carries}
use Rattle.paths.proofs.Lists.{each_inside, mem_each}
use Rattle.paths.proofs.Ways.{end_in}
use Rattle.paths.proofs.Turned.{turned_reaches}
use Rattle.road.specs.Faults.{InSet}
use Rattle.road.specs.Limits.{overlay_limits}
use Rattle.road.specs.Roads.{road}
use Rattle.road.specs.workings.Sound.{Sound, TurnedRound}
use Rattle.road.proofs.Faults.{road_proper}
use Rattle.overlay.specs.Overlays.{Outside}
use Rattle.overlay.specs.workings.Writing.{Local}
use Rattle.overlay.proofs.Locals.{in_bytes}
use Rattle.distance.specs.workings.Labels.{Lesser, Gate, itself, reached, Entries, Into}
use Rattle.distance.specs.Questions.{Lone, WayIn, WayOut, AnyPair, direct, over}
use Rattle.distance.proofs.Telling.{told_lesser}
use Rattle.search.specs.workings.Rows.{label_at}

module _ {G : Graph} (chosen : List ℕ) where
  -- a node behind the first is outside the set, or the last
  behind : {s t v w : ℕ} {l : List ℕ} → Along G s l t w → Inside (Outside chosen) l → Mem v l → Outside chosen v ⊎ (v ≡ t)
  behind (step x stop) i (inl e) = inr e
  behind (step x (step y r)) i (inl e) = inl (subst (Outside chosen) (sym e) i.0)
  behind (step x (step y r)) i (inr m) = behind (step y r) i.1 m
  behind {v = v} (stop {a = a}) i x11 = elim x11 [ ]
  behind {v = v} (step {a = a} {w = w} x stop) i (inr m) = elim m [ ]

  inside_by : {s t w : ℕ} {l : List ℕ} → Along G s l t w → Different l → ((v : ℕ) → Mem v l → InSet chosen v → v ≡ t) → Inside (Outside chosen) l
  inside_by stop d o = tt
  inside_by (step x stop) d o = tt
  inside_by (step {x = a} x (step {x = b} {l = l} y r)) d o =
      ((λ i. d.0 (subst (λ (k : ℕ). Mem k (b ∷ l)) (sym (o a (inl refl) i)) (end_in (step y r)))), inside_by (step y r) d.1 (λ v m. o v (inr m)))

  -- from a node outside the set: a path with no node of the set strictly inside is one on which its end alone can be in the set
  pub lone_in : {s a x : ℕ} → Outside chosen s → Reaches G (Outside chosen) s a x → Lone G chosen a s a x
  lone_in {s} {a} o r = record { after = r.after; path = r.path; only = only }
    where
      only : (v : ℕ) → Mem v (s ∷ r.after) → InSet chosen v → v ≡ a
      only v (inl e) i = absurd (o (subst (InSet chosen) e i))
      only v (inr m) i = ⊎_elim (λ n. absurd (n i)) (λ e. e) (behind r.path.along r.inner m)

  pub lone_in_reaches : {s a x : ℕ} → Lone G chosen a s a x → Reaches G (Outside chosen) s a x
  lone_in_reaches l = record { after = l.after; path = l.path; inner = inside_by l.path.along l.path.different.1 (λ v m. l.only v (inr m)) }

  -- into a node outside the set, likewise
  pub lone_out : {b t z : ℕ} → Outside chosen t → Reaches G (Outside chosen) b t z → Lone G chosen b b t z
  lone_out {b} {t} o r = record { after = r.after; path = r.path; only = only }
    where
      only : (v : ℕ) → Mem v (b ∷ r.after) → InSet chosen v → v ≡ b
      only v (inl e) i = e
      only v (inr m) i = ⊎_elim (λ n. absurd (n i)) (λ e. absurd (o (subst (InSet chosen) e i))) (behind r.path.along r.inner m)

  pub lone_out_reaches : {b t z : ℕ} → Lone G chosen b b t z → Reaches G (Outside chosen) b t z
  lone_out_reaches {b} l =
      record {
        after = l.after;
        path = l.path;
        inner = each_inside (Outside chosen) l.after (mem_each (Outside chosen) l.after (λ v m i. l.path.different.0 (subst (λ (k : ℕ). Mem k l.after) (l.only v (inr m) i) m)));
      }

  module _ (s : ℕ) (row : List ℕ) (f : Local G chosen s row) (as_long : length chosen ≡ G.nodes) where
    -- what the row from s says of an entry is a way in
    pub gate_in : (a x : ℕ) → Gate chosen row s a x → WayIn G chosen s a x
    gate_in a x (itself i e z) = WayIn.itself i e z
    gate_in a x (reached o i e) = WayIn.reached o i (lone_in o ((f.told a (omega (arith, in_bytes chosen a i, as_long))).some x e).is)

    -- and each way in is found, at no more
    pub in_gate : (a x : ℕ) → WayIn G chosen s a x → (d : ℕ) × Gate chosen row s a d × (d ≤ x)
    in_gate a x (WayIn.itself i e z) = (x, itself i e z, omega arith)
    in_gate a x (WayIn.reached o i l) = by (label_at row a) refl
      where
        here : Told (Reaches G (Outside chosen) s a) (label_at row a)
        here = f.told a (omega (arith, in_bytes chosen a i, as_long))

        by : (k : ℕ) → label_at row a ≡ k → (d : ℕ) × Gate chosen row s a d × (d ≤ x)
        by zero e = absurd ((here.none e).none x (lone_in_reaches l))
        by (suc d) e = (d, reached o i e, (here.some d e).least x (lone_in_reaches l))

  module _ (t : ℕ) (row : List ℕ) (f : Into G chosen t row) (as_long : length chosen ≡ G.nodes) where
    pub gate_out : (b z : ℕ) → Gate chosen row t b z → WayOut G chosen b t z
    gate_out b z (itself i e q) = WayOut.itself i e q
    gate_out b z (reached o i e) = WayOut.reached o i (lone_out o ((f.told b (omega (arith, in_bytes chosen b i, as_long))).some z e).is)

    pub out_gate : (b z : ℕ) → WayOut G chosen b t z → (d : ℕ) × Gate chosen row t b d × (d ≤ z)
    out_gate b z (WayOut.itself i e q) = (z, itself i e q, omega arith)
    out_gate b z (WayOut.reached o i l) = by (label_at row b) refl
      where
        here : Told (Reaches G (Outside chosen) b t) (label_at row b)
        here = f.told b (omega (arith, in_bytes chosen b i, as_long))

        by : (k : ℕ) → label_at row b ≡ k → (d : ℕ) × Gate chosen row t b d × (d ≤ z)
        by zero e = absurd ((here.none e).none z (lone_out_reaches l))
        by (suc d) e = (d, reached o i e, (here.some d e).least z (lone_out_reaches l))

-- a graph with the same nodes and steps has the same paths
module _ {G H : Graph} (nodes : G.nodes ≡ H.nodes) (f : (u v w : ℕ) → G.Step u v w → H.Step u v w) where
  same_way : {a b w : ℕ} {l : List ℕ} → Along G a l b w → Along H a l b w
  same_way stop = stop
  same_way (step {a = a} {x = x} {w = w} s r) = step (f a x w s) (same_way r)

  pub same_reaches : {P : ℕ → Type 0} {a b w : ℕ} → Reaches G P a b w → Reaches H P a b w
  same_reaches {a = a} r =
      record {
        after = r.after;
        path = record { node = subst (λ (n : ℕ). a < n) nodes r.path.node; along = same_way r.path.along; different = r.path.different };
        inner = r.inner;
      }

-- the row from t in the graph turned round is the row into t
module _
    (starts heads weights starts' heads' weights' chosen : List ℕ)
    (s : Sound overlay_limits starts heads weights)
    (s' : Sound overlay_limits starts' heads' weights')
    (x : TurnedRound starts heads weights starts' heads' weights')
    (e : length starts' ≡ length starts)
  where
    there : {P : ℕ → Type 0} {a b w : ℕ} → Reaches (road starts heads weights) P a b w → Reaches (road starts' heads' weights') P b a w
    there r = same_reaches (omega (arith, e)) (λ u v w q. x.turns v u w q) (turned_reaches (road_proper overlay_limits starts heads weights s) r)

    back : {P : ℕ → Type 0} {a b w : ℕ} → Reaches (road starts' heads' weights') P b a w → Reaches (road starts heads weights) P a b w
    back r = same_reaches (omega (arith, e)) (λ u v w q. x.comes u v w q) (turned_reaches (road_proper overlay_limits starts' heads' weights' s') r)

    pub into_of : (t : ℕ) (row : List ℕ) → Local (road starts' heads' weights') chosen t row → Into (road starts heads weights) chosen t row
    into_of t row f =
        record {
          told =
              λ v h.
              told_carries (record { under = λ d r. (d, back r, omega arith) }) (record { under = λ d r. (d, there r, omega arith) }) (f.told v (omega (arith, e)));
        }

-- the lesser of the direct way and of the ways through the overlay is the answer
module _
    (G O : Graph)
    (chosen outward inward : List ℕ)
    (s t : ℕ)
    (f : Local G chosen s outward)
    (g : Into G chosen t inward)
    (as_long : length chosen ≡ G.nodes)
  where
    pub pair_told :
        (l m r : ℕ) → Told (Reaches G (Outside chosen) s t) l → Told (Entries O chosen outward inward s t (length chosen)) m → Lesser l m r → Told (AnyPair G O chosen s t) r
    pair_told l m r x y h = told_carries (record { under = to }) (record { under = from }) (told_lesser l m r x y h)
      where
        to : (d : ℕ) → Reaches G (Outside chosen) s t d ⊎ Entries O chosen outward inward s t (length chosen) d → (e : ℕ) × AnyPair G O chosen s t e × (e ≤ d)
        to d (inl p) = (d, direct p, omega arith)
        to d (inr p) =
            let z = p.through.sum in (
              d,
              over p.entry p.through.exit z.first z.second z.third (gate_in chosen s outward f as_long p.entry z.first z.in_first) z.in_second
                  (gate_out chosen t inward g as_long p.through.exit z.third z.in_third) z.total,
              omega arith,
            )

        member : (u a x : ℕ) (row : List ℕ) → Gate chosen row u a x → a < length chosen
        member u a x row (itself i e z) = subst (λ (k : ℕ). k < length chosen) (sym e) (in_bytes chosen u i)
        member u a x row (reached o i e) = in_bytes chosen a i

        from : (d : ℕ) → AnyPair G O chosen s t d → (e : ℕ) × (Reaches G (Outside chosen) s t e ⊎ Entries O chosen outward inward s t (length chosen) e) × (e ≤ d)
        from d (direct p) = (d, inl p, omega arith)
        from d (over a b x y z p q k e) =
            let i = in_gate chosen s outward f as_long a x p in
            let o = out_gate chosen t inward g as_long b z k in (
              i.0 + y + o.0,
              inr
                  (record {
                    entry = a;
                    below = member s a i.0 outward i.1;
                    through =
                        record {
                          exit = b;
                          node = member t b o.0 inward o.1;
                          sum = record { first = i.0; second = y; third = o.0; in_first = i.1; in_second = q; in_third = o.1; total = refl };
                        };
                  }),
              omega (arith, i.2, o.2),
            )
