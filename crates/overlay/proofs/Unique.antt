-- A row is unique, and so is the overlay; its arcs are counted by the definition alone.
use mathlib.Core.Path.{◌≡◌, refl, sym, ap, subst, ◌∙◌}
use mathlib.Core.Logic.{◌≢◌}
use mathlib.Core.List.{List}
use Prim.Native.Nat.{ℕ, zero, suc, ◌+◌, ◌-◌, ◌≤◌, ◌<◌}
use native.Mathlib.Decide.{dec_lt, ℕ_discrete}
use native.Mathlib.Numerals.{add-one}
use native.Mathlib.Omega.{arith}
use lib.ListN.{length, get_or}
use lib.Seq.{ext_get_or}
use Rattle.paths.specs.Graphs.{Graph}
use Rattle.paths.proofs.Least.{least_one}
use Rattle.road.specs.Roads.{nodes_of, Owns, Arc}
use Rattle.road.specs.workings.Sound.{Rising}
use Rattle.road.proofs.Rows.{owner_node, owned_listed, owner_of}
use Rattle.overlay.specs.Numbers.{Number, none, one, skip}
use Rattle.overlay.specs.Overlays.{OverlayArc, HasArc, RowAt, OverlayOf, Arcs, row, ArcsInAll}
use Rattle.overlay.proofs.Locals.{in_bytes, has_arc}
use Rattle.overlay.proofs.Numbers.{number_one}

module _ (G : Graph) (chosen : List ℕ) (a : ℕ) where
  -- the row is cut where the heads come to v: behind the cut they are v or more, and so many are before it
  record Split (heads : List ℕ) (from to v : ℕ) : Type 0 where
    pub place : ℕ
    pub least : from ≤ place
    pub most : place ≤ to
    pub before : (p : ℕ) → from ≤ p → p < place → get_or heads p 0 < v
    pub after : (p : ℕ) → place ≤ p → p < to → v ≤ get_or heads p 0
    pub number : Number (HasArc G chosen a) v (place - from)

  module _ (heads weights : List ℕ) (from to : ℕ) (x : RowAt G chosen a heads weights from to) where
    pub far : (p d : ℕ) → from ≤ p → p + suc d < to → get_or heads p 0 < get_or heads (p + suc d) 0
    far p zero h l = subst (λ (k : ℕ). get_or heads p 0 < get_or heads k 0) (omega arith) (x.ascends p h (omega arith))
    far p (suc d) h l =
        let next : p + suc d + 1 ≡ p + suc (suc d) = omega arith in
        omega (arith, far p d h (omega arith), x.ascends (p + suc d) (omega arith) (omega arith), ap (λ (k : ℕ). get_or heads k 0) next)

    pub apart : (p q : ℕ) → from ≤ p → p < q → q < to → get_or heads p 0 < get_or heads q 0
    apart p q h l k =
        let there : p + suc (q - p - 1) ≡ q = omega arith in
        omega (arith, far p (q - p - 1) h (omega arith), ap (λ (z : ℕ). get_or heads z 0) there)

    further : (v : ℕ) → (s : Split heads from to v) → Dec (s.place < to) → Dec (get_or heads s.place 0 ≡ v) → Split heads from to (suc v)
    further v s (yes h) (yes e) =
        record {
          place = suc s.place;
          least = omega (arith, s.least);
          most = omega arith;
          before = λ p l k. before_by p l k (ℕ_discrete p s.place);
          after = λ p l k. omega (arith, apart s.place p s.least (omega arith) k);
          number =
              subst (λ (m : ℕ). Number (HasArc G chosen a) (suc v) m) (omega (arith, s.least))
              (one (has_arc (subst (λ (b : ℕ). OverlayArc G chosen a b (get_or weights s.place 0)) e (x.arcs s.place s.least h))) s.number);
        }
      where
        before_by : (p : ℕ) → from ≤ p → p < suc s.place → Dec (p ≡ s.place) → get_or heads p 0 < suc v
        before_by p l k (yes q) = omega (arith, ap (λ (z : ℕ). get_or heads z 0) q)
        before_by p l k (no n) = omega (arith, s.before p l (omega arith))
    further v s d (no n) = past v s n
      where
        past : (v : ℕ) → (s : Split heads from to v) → get_or heads s.place 0 ≢ v → Split heads from to (suc v)
        past v s n =
            record {
              place = s.place;
              least = s.least;
              most = s.most;
              before = λ p l k. omega (arith, s.before p l k);
              after = after_it;
              number = skip none_there s.number;
            }
          where
            after_by : (p : ℕ) → s.place ≤ p → p < to → Dec (p ≡ s.place) → suc v ≤ get_or heads p 0
            after_by p l k (yes q) = omega (arith, ap (λ (z : ℕ). get_or heads z 0) q, s.after p l k, n)
            after_by p l k (no m) = omega (arith, s.after s.place (omega arith) (omega arith), apart s.place p s.least (omega arith) k)

            after_it : (p : ℕ) → s.place ≤ p → p < to → suc v ≤ get_or heads p 0
            after_it p l k = after_by p l k (ℕ_discrete p s.place)

            none_there : HasArc G chosen a v → ⊥
            none_there y = by (x.all v y).0 (x.all v y).1 (x.all v y).2 (x.all v y).3 (dec_lt (x.all v y).0 s.place)
              where
                by : (p : ℕ) → from ≤ p → p < to → get_or heads p 0 ≡ v → Dec (p < s.place) → ⊥
                by p l k e (yes h) = omega (arith, s.before p l h)
                by p l k e (no h) = omega (arith, after_it p (omega arith) k)
    further v s (no h) (yes e) =
        record {
          place = s.place;
          least = s.least;
          most = s.most;
          before = λ p l k. omega (arith, s.before p l k);
          after = λ p l k. absurd (omega arith);
          number = skip none_there s.number;
        }
      where
        none_there : HasArc G chosen a v → ⊥
        none_there y = omega (arith, s.before (x.all v y).0 (x.all v y).1 (omega (arith, (x.all v y).2)), (x.all v y).3)

    split : (v : ℕ) → Split heads from to v
    split zero =
        record {
          place = from;
          least = omega arith;
          most = x.rises;
          before = λ p l k. absurd (omega arith);
          after = λ p l k. omega arith;
          number = subst (λ (m : ℕ). Number (HasArc G chosen a) 0 m) (omega arith) none;
        }
    split (suc v) =
        let s = split v in
        further v s (dec_lt s.place to) (ℕ_discrete (get_or heads s.place 0) v)

    -- the row's length is the number of its heads
    pub row_size : length chosen ≡ G.nodes → Number (HasArc G chosen a) G.nodes (to - from)
    row_size e = subst (λ (m : ℕ). Number (HasArc G chosen a) G.nodes (m - from)) (all (dec_lt s.place to)) s.number
      where
        s : Split heads from to G.nodes
        s = split G.nodes

        all : Dec (s.place < to) → s.place ≡ to
        all (no h) = omega (arith, s.most)
        all (yes h) = absurd (omega (arith, e, in_bytes chosen (get_or heads s.place 0) (x.arcs s.place s.least h).head, s.after s.place (omega arith) h))

    -- and each arc's place is the number of the heads below its own
    pub row_place : (p : ℕ) → from ≤ p → p < to → Number (HasArc G chosen a) (get_or heads p 0) (p - from)
    row_place p h l = subst (λ (m : ℕ). Number (HasArc G chosen a) (get_or heads p 0) (m - from)) (here (dec_lt p s.place) (dec_lt s.place p)) s.number
      where
        s : Split heads from to (get_or heads p 0)
        s = split (get_or heads p 0)

        here : Dec (p < s.place) → Dec (s.place < p) → s.place ≡ p
        here (yes k) d = absurd (omega (arith, s.before p h k))
        here (no k) (yes d) = absurd (omega (arith, s.after s.place (omega arith) (omega arith), apart s.place p s.least d l))
        here (no k) (no d) = omega arith

  -- two rows of one tail are equal
  module _
      (e : length chosen ≡ G.nodes)
      (heads weights : List ℕ)
      (from to : ℕ)
      (x : RowAt G chosen a heads weights from to)
      (heads' weights' : List ℕ)
      (from' to' : ℕ)
      (y : RowAt G chosen a heads' weights' from' to')
    where
      pub row_sizes : to - from ≡ to' - from'
      row_sizes = number_one (row_size heads weights from to x e) (row_size heads' weights' from' to' y e)

      module _ (j : ℕ) (h : j < to - from) where
        arc : OverlayArc G chosen a (get_or heads (from + j) 0) (get_or weights (from + j) 0)
        arc = x.arcs (from + j) (omega arith) (omega arith)

        at : (p : ℕ) → from' ≤ p → p < to' → get_or heads' p 0 ≡ get_or heads (from + j) 0 → p ≡ from' + j
        at p l k q =
            let same : p - from' ≡ from + j - from =
            number_one (subst (λ (b : ℕ). Number (HasArc G chosen a) b (p - from')) q (row_place heads' weights' from' to' y p l k))
            (row_place heads weights from to x (from + j) (omega arith) (omega arith))
            in
            omega arith

        pub row_heads : get_or heads (from + j) 0 ≡ get_or heads' (from' + j) 0
        row_heads =
            let t = y.all (get_or heads (from + j) 0) (has_arc arc) in
            sym t.3 ∙ ap (λ (p : ℕ). get_or heads' p 0) (at t.0 t.1 t.2 t.3)

        pub row_weights : get_or weights (from + j) 0 ≡ get_or weights' (from' + j) 0
        row_weights =
            least_one arc.least
            (subst (λ (b : ℕ). OverlayArc G chosen a b (get_or weights' (from' + j) 0)) (sym row_heads) (y.arcs (from' + j) (omega arith) (omega (arith, row_sizes)))).least

module _ (G : Graph) (chosen starts heads weights : List ℕ) (o : OverlayOf G chosen starts heads weights) where
  pub as_nodes : nodes_of starts ≡ G.nodes
  as_nodes = omega (arith, o.long)

  pub overlay_rises : Rising starts heads
  overlay_rises =
      record {
        begins = o.begins;
        rises = λ u h. (o.rows u (omega (arith, o.long))).rises;
        ends = ap (λ (n : ℕ). get_or starts n 0) as_nodes ∙ o.ends;
      }

  -- the arcs that are written are those of the definition
  pub written_arc : (a b w : ℕ) → Arc starts heads weights a b w → OverlayArc G chosen a b w
  written_arc a b w x =
      subst (λ (y : ℕ). OverlayArc G chosen a b y) x.weight
      (subst (λ (y : ℕ). OverlayArc G chosen a y (get_or weights x.place 0)) x.head
      ((o.rows a (omega (arith, owner_node starts a x.place x.owned, as_nodes))).arcs x.place x.owned.from x.owned.below))

  -- each pair of the definition has its arc
  pub pair_written : length chosen ≡ G.nodes → (a b : ℕ) → HasArc G chosen a b → (w : ℕ) × Arc starts heads weights a b w
  pair_written e a b x = found ((o.rows a (omega (arith, e, in_bytes chosen a x.tail))).all b x)
    where
      found : (p : ℕ) × (get_or starts a 0 ≤ p) × (p < get_or starts (a + 1) 0) × (get_or heads p 0 ≡ b) → (w : ℕ) × Arc starts heads weights a b w
      found t = (
        get_or weights t.0 0,
        record {
          place = t.0;
          listed = owned_listed starts heads overlay_rises a t.0 (record { from = t.1; below = t.2 });
          owned = record { from = t.1; below = t.2 };
          head = t.3;
          weight = refl;
        },
      )

  pub arc_written : length chosen ≡ G.nodes → (a b w : ℕ) → OverlayArc G chosen a b w → Arc starts heads weights a b w
  arc_written e a b w x =
      let t = pair_written e a b (has_arc x) in
      subst (λ (y : ℕ). Arc starts heads weights a b y) (least_one (written_arc a b t.0 t.1).least x.least) t.1

  -- each once
  pub written_once : (a p q : ℕ) → Owns starts a p → Owns starts a q → get_or heads p 0 ≡ get_or heads q 0 → p ≡ q
  written_once a p q x y e = by (dec_lt p q) (dec_lt q p)
    where
      r : RowAt G chosen a heads weights (get_or starts a 0) (get_or starts (a + 1) 0)
      r = o.rows a (omega (arith, owner_node starts a p x, as_nodes))

      by : Dec (p < q) → Dec (q < p) → p ≡ q
      by (yes h) d = absurd (omega (arith, apart G chosen a heads weights (get_or starts a 0) (get_or starts (a + 1) 0) r p q x.from h y.below))
      by (no h) (yes l) = absurd (omega (arith, apart G chosen a heads weights (get_or starts a 0) (get_or starts (a + 1) 0) r q p y.from l x.below))
      by (no h) (no l) = omega arith

  -- and they are as many as the pairs of the definition
  counted_to : length chosen ≡ G.nodes → (a : ℕ) → a ≤ G.nodes → Arcs G chosen a (get_or starts a 0)
  counted_to e zero h = subst (λ (m : ℕ). Arcs G chosen 0 m) (sym o.begins) Arcs.none
  counted_to e (suc a) h =
      let r = o.rows a (omega arith) in
      let next : get_or starts (a + 1) 0 ≡ get_or starts (suc a) 0 = ap (λ (k : ℕ). get_or starts k 0) (add-one a) in
      subst (λ (m : ℕ). Arcs G chosen (suc a) m) (omega (arith, r.rises))
      (row (counted_to e a (omega arith)) (row_size G chosen a heads weights (get_or starts a 0) (get_or starts (a + 1) 0) r e))

  pub written_count : length chosen ≡ G.nodes → ArcsInAll G chosen (length heads)
  written_count e = subst (λ (m : ℕ). ArcsInAll G chosen m) o.ends (counted_to e G.nodes (omega arith))

module _
    (G : Graph)
    (chosen : List ℕ)
    (e : length chosen ≡ G.nodes)
    (starts heads weights starts' heads' weights' : List ℕ)
    (o : OverlayOf G chosen starts heads weights)
    (o' : OverlayOf G chosen starts' heads' weights')
  where
    starts_at : (a : ℕ) → a ≤ G.nodes → get_or starts a 0 ≡ get_or starts' a 0
    starts_at zero h = o.begins ∙ sym o'.begins
    starts_at (suc a) h =
        let r = o.rows a (omega arith) in
        let r' = o'.rows a (omega arith) in
        omega (
          arith,
          starts_at a (omega arith),
          row_sizes G chosen a e heads weights (get_or starts a 0) (get_or starts (a + 1) 0) r heads' weights' (get_or starts' a 0) (get_or starts' (a + 1) 0) r',
          r.rises,
          r'.rises,
          ap (λ (k : ℕ). get_or starts k 0) (add-one a),
          ap (λ (k : ℕ). get_or starts' k 0) (add-one a),
        )

    pub starts_one : starts ≡ starts'
    starts_one = ext_get_or 0 starts starts' (omega (arith, o.long, o'.long)) (λ i h. starts_at i (omega (arith, o.long)))

    as_many : length heads ≡ length heads'
    as_many = omega (arith, o.ends, o'.ends, starts_at G.nodes (omega arith))

    entries : (p u : ℕ) → Owns starts u p → (get_or heads p 0 ≡ get_or heads' p 0) × (get_or weights p 0 ≡ get_or weights' p 0)
    entries p u w = (
      at heads ∙ row_heads G chosen u e heads weights (get_or starts u 0) (get_or starts (u + 1) 0) r heads' weights' (get_or starts' u 0) (get_or starts' (u + 1) 0) r' (p - get_or starts u 0) within ∙ sym (at' heads'),
      at weights ∙ row_weights G chosen u e heads weights (get_or starts u 0) (get_or starts (u + 1) 0) r heads' weights' (get_or starts' u 0) (get_or starts' (u + 1) 0) r' (p - get_or starts u 0) within ∙ sym (at' weights'),
    )
      where
        node : u < G.nodes
        node = omega (arith, owner_node starts u p w, o.long)

        r : RowAt G chosen u heads weights (get_or starts u 0) (get_or starts (u + 1) 0)
        r = o.rows u node

        r' : RowAt G chosen u heads' weights' (get_or starts' u 0) (get_or starts' (u + 1) 0)
        r' = o'.rows u node

        within : p - get_or starts u 0 < get_or starts (u + 1) 0 - get_or starts u 0
        within = omega (arith, w.from, w.below)

        at : (l : List ℕ) → get_or l p 0 ≡ get_or l (get_or starts u 0 + (p - get_or starts u 0)) 0
        at l =
            let there : p ≡ get_or starts u 0 + (p - get_or starts u 0) = omega (arith, w.from) in
            ap (λ (k : ℕ). get_or l k 0) there

        at' : (l : List ℕ) → get_or l p 0 ≡ get_or l (get_or starts' u 0 + (p - get_or starts u 0)) 0
        at' l =
            let there : p ≡ get_or starts' u 0 + (p - get_or starts u 0) = omega (arith, w.from, starts_at u (omega (arith, node))) in
            ap (λ (k : ℕ). get_or l k 0) there

    pub heads_one : heads ≡ heads'
    heads_one = ext_get_or 0 heads heads' as_many (λ p h. at p (owner_of starts heads (overlay_rises G chosen starts heads weights o) p h))
      where
        at : (p : ℕ) → (u : ℕ) × Owns starts u p → get_or heads p 0 ≡ get_or heads' p 0
        at p t = (entries p t.0 t.1).0

    pub weights_one : weights ≡ weights'
    weights_one =
        ext_get_or 0 weights weights' (omega (arith, as_many, o.alike, o'.alike))
        (λ p h. at p (owner_of starts heads (overlay_rises G chosen starts heads weights o) p (omega (arith, o.alike))))
      where
        at : (p : ℕ) → (u : ℕ) × Owns starts u p → get_or weights p 0 ≡ get_or weights' p 0
        at p t = (entries p t.0 t.1).1
