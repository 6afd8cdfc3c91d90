-- Offers, and what holds when nothing waits.
use mathlib.Core.Path.{◌≡◌, refl, sym, ap, subst, subst₂, ◌∙◌}
use mathlib.Core.Logic.{◌⊎◌, inl, inr, ⊎_elim, ◌≢◌}
use mathlib.Core.List.{List, [], ◌∷◌}
use Prim.Native.Nat.{ℕ, zero, suc, ◌+◌, ◌-◌, ◌*◌, ◌≤◌, ◌<◌}
use native.Mathlib.Decide.{ℕ_discrete}
use native.Mathlib.Nat.{mul-le-mul_right}
use native.Mathlib.Omega.{arith}
use lib.ListN.{length, get_or, set, replicate, length-set, length-replicate}
use lib.Seq.{get_or-set_same, get_or-set_other, ext_get_or}
use Rattle.paths.specs.Graphs.{Along, stop, step, Reaches, Walks}
use Rattle.paths.specs.Least.{Told}
use Rattle.paths.specs.Lists.{Inside}
use Rattle.paths.proofs.Ways.{walks_joined, path_within, weighing}
use Rattle.road.specs.Limits.{overlay_limits, most_nodes}
use Rattle.road.specs.Roads.{nodes_of, Owns, Arc, road}
use Rattle.road.specs.workings.Sound.{Sound}
use Rattle.road.proofs.Rows.{owned_listed}
use Rattle.road.proofs.Filled.{zeros_at}
use Rattle.search.specs.declared.Queue.{Queue}
use Rattle.search.specs.Lent.{SameSlices}
use Rattle.search.specs.workings.Lent.{HeapOf}
use Rattle.search.specs.workings.Queue.{Heap, Waits, Sooner, With, Without}
use Rattle.search.specs.workings.Rows.{Free, Row, Asks, label_at}
use Rattle.search.specs.workings.States.{Open, Reached, State, Closed, Labelled, All, Upto, Offered, refused, taken, heavy, mass, Going, Leaves}
use Rattle.search.proofs.Heaps.{waits_node, same_slices, slices_then}
use Rattle.road.proofs.Counting.{times_fewer, times_kept, times_each, times_all}
use Rattle.road.specs.Counting.{times}

-- what is left behind is what was left before it
pub left_so : {l m k : List ℕ} → m ≡ k → l ≡ m → l ≡ k
left_so e f = f ∙ e

mass_set : (l : List ℕ) (i v : ℕ) → i < length l → mass (set l i v) + heavy (get_or l i 0) ≡ mass l + heavy v
mass_set [] i v h = absurd (omega arith)
mass_set (x ∷ l) zero v h = omega arith
mass_set (x ∷ l) (suc i) v h = omega (arith, mass_set l i v (omega arith))

heavy_none : (x : ℕ) → x ≡ 0 → heavy x ≡ 20000000000000
heavy_none zero e = refl
heavy_none (suc x) e = absurd (omega arith)

heavy_some : (x : ℕ) → x ≢ 0 → heavy x ≡ x
heavy_some zero n = absurd (n refl)
heavy_some (suc x) n = refl

-- a label that is taken weighs less than what was there
pub mass_falls : (labels : List ℕ) (v x : ℕ) → v < length labels → x ≢ 0 → x < 20000000000000 → Sooner x (label_at labels v) → mass (set labels v x) + 1 ≤ mass labels
mass_falls labels v x h n b s = by s (ℕ_discrete (label_at labels v) 0)
  where
    by : Sooner x (label_at labels v) → Dec (label_at labels v ≡ 0) → mass (set labels v x) + 1 ≤ mass labels
    by t (yes e) = omega (arith, mass_set labels v x h, heavy_none (label_at labels v) e, heavy_some x n)
    by (inl e) (no d) = absurd (d e)
    by (inr l) (no d) = omega (arith, mass_set labels v x h, heavy_some (label_at labels v) d, heavy_some x n)

module _ (starts heads weights blocked : List ℕ) (source : ℕ) (labels : List ℕ) (g : State starts heads weights blocked source labels) where
  -- a label is small, and so is one more step
  pub label_small : (v : ℕ) → label_at labels v ≤ 16773120000001
  label_small v =
      omega (arith, g.small v, mul-le-mul_right 4095000000 nodes)
    where
      nodes : nodes_of starts ≤ 4096
      nodes = omega (arith, g.sound_graph.sized.most)

  -- the label that an arc offers
  module _ (u v w : ℕ) (a : Arc starts heads weights u v w) (some : label_at labels u ≢ 0) (o : Open blocked source u) where
    light : w ≤ 4095000000
    light = omega (arith, g.sound_graph.light a.place a.listed, a.weight)

    one_step : Walks (road starts heads weights) (Free blocked) u v w
    one_step = record { after = v ∷ []; along = weighing (omega arith) (step a stop); inner = tt }

    pub offered_walk : (d : ℕ) → label_at labels u + w ≡ suc d → Walks (road starts heads weights) (Free blocked) source v d
    offered_walk d e = by o
      where
        at : Walks (road starts heads weights) (Free blocked) source u (label_at labels u - 1)
        at = g.sound u (label_at labels u - 1) (omega (arith, some))

        by : Open blocked source u → Walks (road starts heads weights) (Free blocked) source v d
        by (inl s) =
            let base = ap (λ (x : ℕ). label_at labels x) s in
            let same : w ≡ d = omega (arith, g.start) in
            subst₂ (λ (x y : ℕ). Walks (road starts heads weights) (Free blocked) x v y) s same one_step
        by (inr f) =
            let same : label_at labels u - 1 + w ≡ d = omega (arith, some) in
            subst (Walks (road starts heads weights) (Free blocked) source v) same (walks_joined at f one_step)

    pub offered_node : v < length labels
    offered_node = omega (arith, g.long, g.sound_graph.inside a.place a.listed, a.head)

    pub offered_small : label_at labels u + w < 20000000000000
    offered_small = omega (arith, label_small u, light)

    -- a label that is taken keeps the state
    pub taken_state : Sooner (label_at labels u + w) (label_at labels v) → State starts heads weights blocked source (set labels v (label_at labels u + w))
    taken_state s =
        record {
          sound_graph = g.sound_graph;
          node = g.node;
          bytes = g.bytes;
          long = length-set labels v (label_at labels u + w) ∙ g.long;
          start = start_by (ℕ_discrete source v);
          sound = λ x d e. sound_by x d e (ℕ_discrete x v);
          small = λ x. small_by x (ℕ_discrete x v) s;
        }
      where
        start_by : Dec (source ≡ v) → label_at (set labels v (label_at labels u + w)) source ≡ 1
        start_by (no n) = get_or-set_other labels v source (label_at labels u + w) 0 n ∙ g.start
        start_by (yes e) = absurd (⊎_elim (λ z. omega (arith, ap (λ (x : ℕ). label_at labels x) e, g.start)) (λ l. omega (arith, ap (λ (x : ℕ). label_at labels x) e, g.start, some)) s)

        sound_by : (x d : ℕ) → label_at (set labels v (label_at labels u + w)) x ≡ suc d → Dec (x ≡ v) → Walks (road starts heads weights) (Free blocked) source x d
        sound_by x d e (yes q) =
            subst (λ (y : ℕ). Walks (road starts heads weights) (Free blocked) source y d) (sym q)
            (offered_walk d (sym (ap (λ (y : ℕ). label_at (set labels v (label_at labels u + w)) y) q ∙ get_or-set_same labels v (label_at labels u + w) 0 offered_node) ∙ e))
        sound_by x d e (no n) = g.sound x d (sym (get_or-set_other labels v x (label_at labels u + w) 0 n) ∙ e)

        new_label : (x : ℕ) → x ≡ v → label_at (set labels v (label_at labels u + w)) x ≡ label_at labels u + w
        new_label x q = ap (λ (y : ℕ). label_at (set labels v (label_at labels u + w)) y) q ∙ get_or-set_same labels v (label_at labels u + w) 0 offered_node

        small_by : (x : ℕ) → Dec (x ≡ v) → Sooner (label_at labels u + w) (label_at labels v) → label_at (set labels v (label_at labels u + w)) x + times 0 (set labels v (label_at labels u + w)) * 4095000000 ≤ 1 + nodes_of starts * 4095000000
        small_by x d (inl z) = by d
          where
            fewer : times 0 (set labels v (label_at labels u + w)) + 1 ≡ times 0 labels
            fewer = times_fewer labels v (label_at labels u + w) 0 offered_node z (λ k. omega (arith, some))

            by : Dec (x ≡ v) → label_at (set labels v (label_at labels u + w)) x + times 0 (set labels v (label_at labels u + w)) * 4095000000 ≤ 1 + nodes_of starts * 4095000000
            by (yes q) = omega (arith, new_label x q, fewer, g.small u, light)
            by (no n) = omega (arith, get_or-set_other labels v x (label_at labels u + w) 0 n, fewer, g.small x)
        small_by x d (inr l) = by d (ℕ_discrete (label_at labels v) 0)
          where
            by : Dec (x ≡ v) → Dec (label_at labels v ≡ 0) → label_at (set labels v (label_at labels u + w)) x + times 0 (set labels v (label_at labels u + w)) * 4095000000 ≤ 1 + nodes_of starts * 4095000000
            by e (yes z) = absurd (omega arith)
            by (yes q) (no k) = omega (arith, new_label x q, times_kept labels v (label_at labels u + w) 0 offered_node k (λ j. omega (arith, some)), g.small v)
            by (no n) (no k) =
                omega
                (arith, get_or-set_other labels v x (label_at labels u + w) 0 n, times_kept labels v (label_at labels u + w) 0 offered_node k (λ j. omega (arith, some)), g.small x)

pub waits? : (places : List ℕ) (x : ℕ) → (get_or places x 0 ≡ 0) ⊎ Waits places x
waits? places x = by (ℕ_discrete (get_or places x 0) 0)
  where
    by : Dec (get_or places x 0 ≡ 0) → (get_or places x 0 ≡ 0) ⊎ Waits places x
    by (yes e) = inl e
    by (no n) = inr n

module _ (starts heads weights blocked : List ℕ) (source : ℕ) (labels places : List ℕ) (g : State starts heads weights blocked source labels) where
  -- one arc more of u is closed
  module _ (u i : ℕ) (own : Owns starts u i) (listed : i < length heads) (some : label_at labels u ≢ 0) (idle : get_or places u 0 ≡ 0) (o : Open blocked source u)
      (c : Closed starts heads weights blocked source labels places (Upto u i)) (labels' places' : List ℕ) (count count' : ℕ)
      (f : Offered (get_or heads i 0) (label_at labels u + get_or weights i 0) labels places count labels' places' count') where
    arc : Arc starts heads weights u (get_or heads i 0) (get_or weights i 0)
    arc = record { place = i; listed = listed; owned = own; head = refl; weight = refl }

    other_head : get_or heads i 0 ≢ u
    other_head = g.sound_graph.unlooped u i own

    -- an arc of the places done, or the arc at place i
    earlier : (x p : ℕ) → Upto u (i + 1) x p → Dec (x ≡ u) → Dec (p ≡ i) → ((x ≡ u) × (p ≡ i)) ⊎ Upto u i x p
    earlier x p h (yes e) (yes q) = inl (e, q)
    earlier x p h (yes e) (no n) = inr (λ d. omega (arith, h d, n))
    earlier x p h (no n) d = inr (λ e. absurd (n e))

    pub state_after : State starts heads weights blocked source labels'
    state_after = by f
      where
        by : Offered (get_or heads i 0) (label_at labels u + get_or weights i 0) labels places count labels' places' count' → State starts heads weights blocked source labels'
        by (refused r e p q) = subst (State starts heads weights blocked source) (sym e) g
        by (taken s e w t y q) =
            subst (State starts heads weights blocked source) (sym e) (taken_state starts heads weights blocked source labels g u (get_or heads i 0) (get_or weights i 0) arc some o s)

    node_in : get_or heads i 0 < length labels
    node_in = offered_node starts heads weights blocked source labels g u (get_or heads i 0) (get_or weights i 0) arc some o

    pub label_after : label_at labels' u ≡ label_at labels u
    label_after = by f
      where
        by : Offered (get_or heads i 0) (label_at labels u + get_or weights i 0) labels places count labels' places' count' → label_at labels' u ≡ label_at labels u
        by (refused r e p q) = ap (λ (l : List ℕ). get_or l u 0) e
        by (taken s e w t y q) = ap (λ (l : List ℕ). get_or l u 0) e ∙ get_or-set_other labels (get_or heads i 0) u (label_at labels u + get_or weights i 0) 0 (λ z. other_head (sym z))

    pub idle_after : get_or places' u 0 ≡ 0
    idle_after = by f (waits? places' u)
      where
        by : Offered (get_or heads i 0) (label_at labels u + get_or weights i 0) labels places count labels' places' count' → (get_or places' u 0 ≡ 0) ⊎ Waits places' u → get_or places' u 0 ≡ 0
        by r (inl z) = z
        by (refused r e p q) (inr w) = ap (λ (l : List ℕ). get_or l u 0) p ∙ idle
        by (taken s e w t y q) (inr k) = absurd (⊎_elim (λ z. other_head (sym z)) (λ z. z idle) (y u k))

    pub mass_after : mass labels' + count' ≤ mass labels + count
    mass_after = by f
      where
        by : Offered (get_or heads i 0) (label_at labels u + get_or weights i 0) labels places count labels' places' count' → mass labels' + count' ≤ mass labels + count
        by (refused r e p q) = omega (arith, ap mass e)
        by (taken s e w t y q) =
            omega (
              arith,
              ap mass e,
              mass_falls labels (get_or heads i 0) (label_at labels u + get_or weights i 0) node_in (λ z. omega (arith, some))
                  (offered_small starts heads weights blocked source labels g u (get_or heads i 0) (get_or weights i 0) arc some o) s,
            )

    pub labelled_after : Labelled labels places → Labelled labels' places'
    labelled_after l = by f
      where
        by : Offered (get_or heads i 0) (label_at labels u + get_or weights i 0) labels places count labels' places' count' → Labelled labels' places'
        by (refused r e p q) = subst₂ Labelled (sym e) (sym p) l
        by (taken s e w t y q) = record { labelled = λ v k z. at v (y v k) (ap (λ (h : List ℕ). get_or h v 0) (sym e) ∙ z) (ℕ_discrete v (get_or heads i 0)) }
          where
            at : (v : ℕ) → (v ≡ get_or heads i 0) ⊎ Waits places v → label_at (set labels (get_or heads i 0) (label_at labels u + get_or weights i 0)) v ≡ 0 → Dec (v ≡ get_or heads i 0) → ⊥
            at v h z (yes q) =
                omega (
                  arith,
                  ap (λ (k : ℕ). label_at (set labels (get_or heads i 0) (label_at labels u + get_or weights i 0)) k) q,
                  get_or-set_same labels (get_or heads i 0) (label_at labels u + get_or weights i 0) 0 node_in,
                  some,
                )
            at v (inl q) z (no n) = n q
            at v (inr k) z (no n) = l.labelled v k (sym (get_or-set_other labels (get_or heads i 0) v (label_at labels u + get_or weights i 0) 0 n) ∙ z)

    pub closed_after : Closed starts heads weights blocked source labels' places' (Upto u (i + 1))
    closed_after = by f
      where
        -- the arc at place i
        at_place : (x y w : ℕ) (a : Arc starts heads weights x y w) → x ≡ u → a.place ≡ i → (y ≡ get_or heads i 0) × (w ≡ get_or weights i 0)
        at_place x y w a e q = (sym a.head ∙ ap (λ (k : ℕ). get_or heads k 0) q, sym a.weight ∙ ap (λ (k : ℕ). get_or weights k 0) q)

        by : Offered (get_or heads i 0) (label_at labels u + get_or weights i 0) labels places count labels' places' count' → Closed starts heads weights blocked source labels' places' (Upto u (i + 1))
        by (refused r e p q) =
            subst₂ (λ (l k : List ℕ). Closed starts heads weights blocked source l k (Upto u (i + 1))) (sym e) (sym p)
            (record { closed = λ x y w n z h a b. at x y w n z h a (earlier x a.place b (ℕ_discrete x u) (ℕ_discrete a.place i)) })
          where
            at :
                (x y w : ℕ) → label_at labels x ≢ 0 → get_or places x 0 ≡ 0 → Open blocked source x → (a : Arc starts heads weights x y w) → ((x ≡ u) × (a.place ≡ i)) ⊎ Upto u i x a.place →
                Reached labels y (label_at labels x + w)
            at x y w n z h a (inr b) = c.closed x y w n z h a b
            at x y w n z h a (inl b) =
                let k = at_place x y w a b.0 b.1 in
                record {
                  some = λ j. r.some (ap (λ (m : ℕ). label_at labels m) (sym k.0) ∙ j);
                  most = omega (arith, r.most, ap (λ (m : ℕ). label_at labels m) k.0, k.1, ap (λ (m : ℕ). label_at labels m) b.0);
                }
        by (taken s e w t only q) =
            subst (λ (l : List ℕ). Closed starts heads weights blocked source l places' (Upto u (i + 1))) (sym e)
            (record { closed = λ x y k n z h a b. at x y k n z h a (earlier x a.place b (ℕ_discrete x u) (ℕ_discrete a.place i)) })
          where
            not_v : (x : ℕ) → get_or places' x 0 ≡ 0 → x ≢ get_or heads i 0
            not_v x z j = w (ap (λ (m : ℕ). get_or places' m 0) (sym j) ∙ z)

            old_label : (x : ℕ) → x ≢ get_or heads i 0 → label_at (set labels (get_or heads i 0) (label_at labels u + get_or weights i 0)) x ≡ label_at labels x
            old_label x j = get_or-set_other labels (get_or heads i 0) x (label_at labels u + get_or weights i 0) 0 j

            new_label : label_at (set labels (get_or heads i 0) (label_at labels u + get_or weights i 0)) (get_or heads i 0) ≡ label_at labels u + get_or weights i 0
            new_label = get_or-set_same labels (get_or heads i 0) (label_at labels u + get_or weights i 0) 0 node_in

            old_idle : (x : ℕ) → get_or places' x 0 ≡ 0 → get_or places x 0 ≡ 0
            old_idle x z = ⊎_elim (λ j. j) (λ j. absurd (t x j z)) (waits? places x)

            lower : (y b : ℕ) → Reached labels y b → Dec (y ≡ get_or heads i 0) → Reached (set labels (get_or heads i 0) (label_at labels u + get_or weights i 0)) y b
            lower y b r (no n) =
                record { some = λ z. r.some (sym (old_label y n) ∙ z); most = omega (arith, old_label y n, r.most) }
            lower y b r (yes j) =
                let here = ap (λ (m : ℕ). label_at (set labels (get_or heads i 0) (label_at labels u + get_or weights i 0)) m) j in
                let was = ap (λ (m : ℕ). label_at labels m) j in
                record {
                  some = λ z. omega (arith, here, new_label, some);
                  most = ⊎_elim (λ z. absurd (r.some (was ∙ z))) (λ l. omega (arith, here, new_label, was, r.most)) s;
                }

            at :
                (x y k : ℕ) → label_at (set labels (get_or heads i 0) (label_at labels u + get_or weights i 0)) x ≢ 0 → get_or places' x 0 ≡ 0 → Open blocked source x →
                (a : Arc starts heads weights x y k) → ((x ≡ u) × (a.place ≡ i)) ⊎ Upto u i x a.place →
                Reached (set labels (get_or heads i 0) (label_at labels u + get_or weights i 0)) y (label_at (set labels (get_or heads i 0) (label_at labels u + get_or weights i 0)) x + k)
            at x y k n z h a (inr b) =
                let old = old_label x (not_v x z) in
                let r = lower y (label_at labels x + k) (c.closed x y k (λ j. n (old ∙ j)) (old_idle x z) h a b) (ℕ_discrete y (get_or heads i 0)) in
                record { some = r.some; most = omega (arith, r.most, old) }
            at x y k n z h a (inl b) =
                let m = at_place x y k a b.0 b.1 in
                let here = ap (λ (j : ℕ). label_at (set labels (get_or heads i 0) (label_at labels u + get_or weights i 0)) j) m.0 in
                record {
                  some = λ j. omega (arith, here, new_label, some);
                  most = omega (arith, here, new_label, old_label x (not_v x z), ap (λ (j : ℕ). label_at labels j) b.0, m.1);
                }

module _ (starts heads weights blocked : List ℕ) (source : ℕ) (labels places places' : List ℕ) (u : ℕ) where
  -- u is taken: nothing is said of its arcs yet
  pub closed_taken : Closed starts heads weights blocked source labels places All → Without u places places' → Closed starts heads weights blocked source labels places' (Upto u (get_or starts u 0))
  closed_taken c w = record { closed = λ x y k n z h a b. by x y k n z h a b (ℕ_discrete x u) }
    where
      by :
          (x y k : ℕ) → label_at labels x ≢ 0 → get_or places' x 0 ≡ 0 → Open blocked source x → (a : Arc starts heads weights x y k) → Upto u (get_or starts u 0) x a.place → Dec (x ≡ u) →
          Reached labels y (label_at labels x + k)
      by x y k n z h a b (yes e) = absurd (omega (arith, b e, a.owned.from, ap (λ (j : ℕ). get_or starts j 0) e))
      by x y k n z h a b (no d) = c.closed x y k n (⊎_elim (λ j. j) (λ j. absurd (w.still x d j z)) (waits? places x)) h a tt

  -- all its arcs are done
  pub closed_row : Closed starts heads weights blocked source labels places (Upto u (get_or starts (u + 1) 0)) → Closed starts heads weights blocked source labels places All
  closed_row c =
      record { closed = λ x y k n z h a b. c.closed x y k n z h a (λ e. omega (arith, a.owned.below, ap (λ (j : ℕ). get_or starts (j + 1) 0) e)) }

  -- it may not be left
  pub closed_shut : Closed starts heads weights blocked source labels places (Upto u (get_or starts u 0)) → (Open blocked source u → ⊥) → Closed starts heads weights blocked source labels places All
  closed_shut c n = record { closed = λ x y k s z h a b. c.closed x y k s z h a (λ e. absurd (n (subst (Open blocked source) e h))) }

-- Nothing waits: the labels are the least weights.
module _ (starts heads weights blocked : List ℕ) (source : ℕ) (labels places : List ℕ) (g : State starts heads weights blocked source labels)
    (c : Closed starts heads weights blocked source labels places All) (idle : (v : ℕ) → get_or places v 0 ≡ 0) where
  along_reached :
      {a : ℕ} {l : List ℕ} {b d : ℕ} → Along (road starts heads weights) a l b d → label_at labels a ≢ 0 → Open blocked source a → Inside (Free blocked) l →
      Reached labels b (label_at labels a + d)
  along_reached stop s o i = record { some = s; most = omega arith }
  along_reached (step {a = a} {x = x} {w = w} t stop) s o i =
      let r = c.closed a x w s (idle a) o t tt in
      record { some = r.some; most = omega (arith, r.most) }
  along_reached (step {a = a} {x = x} {w = w} t (step q k)) s o i =
      let r = c.closed a x w s (idle a) o t tt in
      let m = along_reached (step q k) r.some (inr i.0) i.1 in
      record { some = m.some; most = omega (arith, m.most, r.most) }

  path_reached : (v d : ℕ) → Reaches (road starts heads weights) (Free blocked) source v d → Reached labels v (1 + d)
  path_reached v d p =
      let r = along_reached p.path.along (λ z. omega (arith, g.start)) (inl refl) p.inner in
      record { some = r.some; most = omega (arith, r.most, g.start) }

  told_at : (v : ℕ) → Told (Reaches (road starts heads weights) (Free blocked) source v) (label_at labels v)
  told_at v =
      record {
        none = λ e. record { none = λ d p. (path_reached v d p).some e };
        some = λ d e. record { is = is_at d e (path_within g.node (g.sound v d e)); least = λ w p. omega (arith, (path_reached v w p).most) };
      }
    where
      is_at :
          (d : ℕ) → label_at labels v ≡ suc d → (w : ℕ) × Reaches (road starts heads weights) (Free blocked) source v w × (w ≤ d) → Reaches (road starts heads weights) (Free blocked) source v d
      is_at d e p =
          let same : p.0 ≡ d = omega (arith, p.2, (path_reached v p.0 p.1).most) in
          subst (Reaches (road starts heads weights) (Free blocked) source v) same p.1

  pub row_found : Row (road starts heads weights) blocked source labels
  row_found = record { long = g.long; told = λ v h. told_at v }

-- The start: the source alone has a label, and waits.
abbrev pub blank : ℕ → List ℕ
blank n = replicate n 0

module _ (starts heads weights blocked : List ℕ) (source : ℕ) (sound : Sound overlay_limits starts heads weights) (node : source < nodes_of starts) (bytes : length blocked ≡ nodes_of starts) where
  first_label : get_or (set (blank (nodes_of starts)) source 1) source 0 ≡ 1
  first_label = get_or-set_same (blank (nodes_of starts)) source 1 0 (omega (arith, length-replicate {A = ℕ} (nodes_of starts) 0))

  first_other : (v : ℕ) → v ≢ source → get_or (set (blank (nodes_of starts)) source 1) v 0 ≡ 0
  first_other v n = get_or-set_other (blank (nodes_of starts)) source v 1 0 n ∙ zeros_at (nodes_of starts) v

  only_source : (v : ℕ) → get_or (set (blank (nodes_of starts)) source 1) v 0 ≢ 0 → v ≡ source
  only_source v n = by (ℕ_discrete v source)
    where
      by : Dec (v ≡ source) → v ≡ source
      by (yes e) = e
      by (no d) = absurd (n (first_other v d))

  pub first_state : State starts heads weights blocked source (set (blank (nodes_of starts)) source 1)
  first_state =
      record {
        sound_graph = sound;
        node = node;
        bytes = bytes;
        long = length-set (blank (nodes_of starts)) source 1 ∙ length-replicate {A = ℕ} (nodes_of starts) 0;
        start = first_label;
        sound = λ v d e. walk v d e (only_source v (λ z. omega arith));
        small = λ v. small_by v (ℕ_discrete v source);
      }
    where
      walk : (v d : ℕ) → get_or (set (blank (nodes_of starts)) source 1) v 0 ≡ suc d → v ≡ source → Walks (road starts heads weights) (Free blocked) source v d
      walk v d e q =
          let none : 0 ≡ d = omega (arith, ap (λ (k : ℕ). get_or (set (blank (nodes_of starts)) source 1) k 0) q, first_label) in
          subst₂ (λ (x y : ℕ). Walks (road starts heads weights) (Free blocked) source x y) (sym q) none (record { after = []; along = stop; inner = tt })

      fewer : times 0 (set (blank (nodes_of starts)) source 1) + 1 ≡ nodes_of starts
      fewer =
          times_fewer (blank (nodes_of starts)) source 1 0 (omega (arith, length-replicate {A = ℕ} (nodes_of starts) 0)) (zeros_at (nodes_of starts) source) (λ z. omega arith) ∙
          times_each (nodes_of starts) 0

      small_by : (v : ℕ) → Dec (v ≡ source) → get_or (set (blank (nodes_of starts)) source 1) v 0 + times 0 (set (blank (nodes_of starts)) source 1) * 4095000000 ≤ 1 + nodes_of starts * 4095000000
      small_by v (yes e) = omega (arith, ap (λ (k : ℕ). get_or (set (blank (nodes_of starts)) source 1) k 0) e, first_label, fewer)
      small_by v (no n) = omega (arith, first_other v n, fewer)

  pub first_going :
      (heap places : List ℕ) (count : ℕ) → Heap heap places count → With source (blank (nodes_of starts)) places →
      Going starts heads weights blocked source (set (blank (nodes_of starts)) source 1) heap places count All
  first_going heap places count h w =
      record {
        state = first_state;
        labelled = record { labelled = λ v k z. only v k z (w.only v k) };
        closed = record { closed = λ x y k n z o a b. absurd (w.now (ap (λ (j : ℕ). get_or places j 0) (sym (only_source x n)) ∙ z)) };
        heap_is = h;
        as_many = w.long ∙ length-replicate {A = ℕ} (nodes_of starts) 0;
      }
    where
      only : (v : ℕ) → Waits places v → get_or (set (blank (nodes_of starts)) source 1) v 0 ≡ 0 → (v ≡ source) ⊎ Waits (blank (nodes_of starts)) v → ⊥
      only v k z (inl e) = omega (arith, ap (λ (j : ℕ). get_or (set (blank (nodes_of starts)) source 1) j 0) e, first_label)
      only v k z (inr j) = j (zeros_at (nodes_of starts) v)

-- One node's arcs on their way.
pub record Relaxing (starts heads weights blocked : List ℕ) (source u : ℕ) (labels₀ : List ℕ) (queue₀ : Queue) (base end i : ℕ) (labels : List ℕ) (queue : Queue) : Type 0 where
  pub going : Going starts heads weights blocked source labels queue.heap.now queue.places.now queue.waiting (Upto u i)
  pub leaves : Leaves blocked source labels queue.places.now u
  pub base_is : label_at labels u ≡ base
  pub end_is : end ≡ get_or starts (u + 1) 0
  pub from : get_or starts u 0 ≤ i
  pub to : i ≤ end
  pub falls : mass labels + queue.waiting ≤ mass labels₀ + queue₀.waiting
  pub labels_long : length labels ≡ length labels₀
  pub slices : SameSlices queue₀ queue

module _ (starts heads weights blocked : List ℕ) (source u : ℕ) (labels₀ : List ℕ) (queue₀ : Queue) (base end : ℕ) where
  pub relax_none :
      Going starts heads weights blocked source labels₀ queue₀.heap.now queue₀.places.now queue₀.waiting (Upto u (get_or starts u 0)) → Leaves blocked source labels₀ queue₀.places.now u → base ≡ label_at labels₀ u →
      end ≡ get_or starts (u + 1) 0 → u < nodes_of starts → (i : ℕ) → i ≡ get_or starts u 0 → Relaxing starts heads weights blocked source u labels₀ queue₀ base end i labels₀ queue₀
  relax_none g l b e h i q =
      record {
        going = subst (λ (x : ℕ). Going starts heads weights blocked source labels₀ queue₀.heap.now queue₀.places.now queue₀.waiting (Upto u x)) (sym q) g;
        leaves = l;
        base_is = sym b;
        end_is = e;
        from = omega arith;
        to = omega (arith, g.state.sound_graph.rising.rises u (omega arith));
        falls = omega arith;
        labels_long = refl;
        slices = same_slices queue₀;
      }

  module _ (i : ℕ) (labels : List ℕ) (queue : Queue) (r : Relaxing starts heads weights blocked source u labels₀ queue₀ base end i labels queue) (h : i < end) where
    row_own : Owns starts u i
    row_own = record { from = r.from; below = omega (arith, r.end_is) }

    pub row_listed : i < length heads
    row_listed = owned_listed starts heads r.going.state.sound_graph.rising u i row_own

    -- and as a place in memory it is small
    pub row_near : i < 65536
    row_near = omega (arith, row_listed, r.going.state.sound_graph.sized.few)

    pub row_weighed : i < length weights
    row_weighed = omega (arith, row_listed, r.going.state.sound_graph.sized.alike)

    pub row_node : get_or heads i 0 < length queue.places.now
    row_node = omega (arith, r.going.state.sound_graph.inside i row_listed, r.going.as_many)

    pub sum_small : base + get_or weights i 0 < 20000000000000
    sum_small =
        omega
        (arith, r.base_is, label_small starts heads weights blocked source labels r.going.state u, r.going.state.sound_graph.light i row_listed)

    pub lengths_match : length labels ≡ length queue.places.now
    lengths_match = omega (arith, r.going.state.long, r.going.as_many)

    pub relax_more :
        (labels' : List ℕ) (queue' : Queue) (w : ℕ) → w ≡ get_or weights i 0 → HeapOf queue' →
        Offered (get_or heads i 0) (base + w) labels queue.places.now queue.waiting labels' queue'.places.now queue'.waiting →
        length labels' ≡ length labels → SameSlices queue queue' →
        Relaxing starts heads weights blocked source u labels₀ queue₀ base end (i + 1) labels' queue'
    relax_more labels' queue' w e hp f ll ls =
        record {
          going =
              record {
                state = state_after starts heads weights blocked source labels queue.places.now r.going.state u i row_own row_listed r.leaves.some r.leaves.idle r.leaves.may r.going.closed labels' queue'.places.now queue.waiting queue'.waiting o;
                labelled = labelled_after starts heads weights blocked source labels queue.places.now r.going.state u i row_own row_listed r.leaves.some r.leaves.idle r.leaves.may r.going.closed labels' queue'.places.now queue.waiting queue'.waiting o r.going.labelled;
                closed = closed_after starts heads weights blocked source labels queue.places.now r.going.state u i row_own row_listed r.leaves.some r.leaves.idle r.leaves.may r.going.closed labels' queue'.places.now queue.waiting queue'.waiting o;
                heap_is = hp;
                as_many = ls.places_long ∙ r.going.as_many;
              };
          leaves = record { some = λ z. r.leaves.some (sym keeps ∙ z); idle = idle_after starts heads weights blocked source labels queue.places.now r.going.state u i row_own row_listed r.leaves.some r.leaves.idle r.leaves.may r.going.closed labels' queue'.places.now queue.waiting queue'.waiting o; may = r.leaves.may };
          base_is = keeps ∙ r.base_is;
          end_is = r.end_is;
          from = omega (arith, r.from);
          to = omega arith;
          falls = omega (arith, r.falls, mass_after starts heads weights blocked source labels queue.places.now r.going.state u i row_own row_listed r.leaves.some r.leaves.idle r.leaves.may r.going.closed labels' queue'.places.now queue.waiting queue'.waiting o);
          labels_long = ll ∙ r.labels_long;
          slices = slices_then queue₀ queue queue' r.slices ls;
        }
      where
        o : Offered (get_or heads i 0) (label_at labels u + get_or weights i 0) labels queue.places.now queue.waiting labels' queue'.places.now queue'.waiting
        o =
            subst₂ (λ (y z : ℕ). Offered (get_or heads i 0) (y + z) labels queue.places.now queue.waiting labels' queue'.places.now queue'.waiting)
            (sym r.base_is) e f

        keeps : label_at labels' u ≡ label_at labels u
        keeps = label_after starts heads weights blocked source labels queue.places.now r.going.state u i row_own row_listed r.leaves.some r.leaves.idle r.leaves.may r.going.closed labels' queue'.places.now queue.waiting queue'.waiting o

  pub relax_end :
      (i : ℕ) (labels : List ℕ) (queue : Queue) → Relaxing starts heads weights blocked source u labels₀ queue₀ base end i labels queue → end ≤ i →
      Going starts heads weights blocked source labels queue.heap.now queue.places.now queue.waiting All
  relax_end i labels queue r h =
      let g = r.going in
      let at : i ≡ get_or starts (u + 1) 0 = omega (arith, r.to, r.end_is) in
      record {
        state = g.state;
        labelled = g.labelled;
        closed = closed_row starts heads weights blocked source labels queue.places.now queue.places.now u (subst (λ (x : ℕ). Closed starts heads weights blocked source labels queue.places.now (Upto u x)) at g.closed);
        heap_is = g.heap_is;
        as_many = g.as_many;
      }

-- A node is taken.
module _ (starts heads weights blocked : List ℕ) (source : ℕ) (labels heap places : List ℕ) (count : ℕ) (g : Going starts heads weights blocked source labels heap places count All)
    (u : ℕ) (heap' places' : List ℕ) (count' : ℕ) (h : Heap heap' places' count') (w : Without u places places') where
  pub going_taken : Going starts heads weights blocked source labels heap' places' count' (Upto u (get_or starts u 0))
  going_taken =
      record {
        state = g.state;
        labelled = record { labelled = λ v k. g.labelled.labelled v (w.only v k) };
        closed = closed_taken starts heads weights blocked source labels places places' u g.closed w;
        heap_is = h;
        as_many = w.long ∙ g.as_many;
      }

  pub leaves_taken : Open blocked source u → Leaves blocked source labels places' u
  leaves_taken o = record { some = g.labelled.labelled u w.was; idle = w.gone; may = o }

  pub node_taken : u < nodes_of starts
  node_taken = omega (arith, waits_node heap places count g.heap_is u w.was, g.as_many)

  pub going_shut : (Open blocked source u → ⊥) → Going starts heads weights blocked source labels heap' places' count' All
  going_shut n =
      record {
        state = g.state;
        labelled = going_taken.labelled;
        closed = closed_shut starts heads weights blocked source labels places' places' u going_taken.closed n;
        heap_is = h;
        as_many = going_taken.as_many;
      }

-- The search between takes, with what stays.
pub record Running (starts heads weights blocked : List ℕ) (source : ℕ) (labels₀ : List ℕ) (queue₀ : Queue) (labels : List ℕ) (queue : Queue) : Type 0 where
  pub going : Going starts heads weights blocked source labels queue.heap.now queue.places.now queue.waiting All
  pub labels_long : length labels ≡ length labels₀
  pub slices : SameSlices queue₀ queue

module _ (starts heads weights blocked : List ℕ) (source : ℕ) where
  pub running_none :
      (labels : List ℕ) (queue : Queue) → Going starts heads weights blocked source labels queue.heap.now queue.places.now queue.waiting All →
      Running starts heads weights blocked source labels queue labels queue
  running_none labels queue g = record { going = g; labels_long = refl; slices = same_slices queue }

  pub running_on :
      (labels₀ : List ℕ) (queue₀ : Queue) (labels : List ℕ) (queue : Queue) → Running starts heads weights blocked source labels₀ queue₀ labels queue →
      (labels' : List ℕ) (queue' : Queue) → Going starts heads weights blocked source labels' queue'.heap.now queue'.places.now queue'.waiting All →
      length labels' ≡ length labels → SameSlices queue queue' → Running starts heads weights blocked source labels₀ queue₀ labels' queue'
  running_on labels₀ queue₀ labels queue r labels' queue' g ll ls =
      record { going = g; labels_long = ll ∙ r.labels_long; slices = slices_then queue₀ queue queue' r.slices ls }

  pub going_at :
      (labels heap places : List ℕ) (count count' : ℕ) → count ≡ count' → Going starts heads weights blocked source labels heap places count All →
      Going starts heads weights blocked source labels heap places count' All
  going_at labels heap places count count' e g = subst (λ (k : ℕ). Going starts heads weights blocked source labels heap places k All) e g

-- An empty queue is zeros.
pub empty_queue : (heap places : List ℕ) (h n : ℕ) → heap ≡ blank h → places ≡ blank n → n ≤ most_nodes → n ≤ h → Heap heap places 0
empty_queue heap places h n e f few room =
    subst₂ (λ (x y : List ℕ). Heap x y 0) (sym e) (sym f)
    (record {
      count = omega (arith, times_each n 0, length-replicate {A = ℕ} n 0);
      few = omega (arith, length-replicate {A = ℕ} n 0);
      room = omega (arith, length-replicate {A = ℕ} n 0, length-replicate {A = ℕ} h 0);
      there = λ i v z. absurd (omega (arith, zeros_at h i));
      back = λ v i z. absurd (omega (arith, zeros_at n v));
      live = λ i l. absurd (omega arith);
      dead = λ i l. zeros_at h i;
    })

module _ (starts heads weights blocked : List ℕ) (source : ℕ) (labels heap places : List ℕ) (g : Going starts heads weights blocked source labels heap places 0 All) where
  idle_all : (v : ℕ) → get_or places v 0 ≡ 0
  idle_all = times_all places (omega (arith, g.heap_is.count))

  pub row_of : Row (road starts heads weights) blocked source labels
  row_of = row_found starts heads weights blocked source labels places g.state g.closed idle_all

  pub heap_empty : (h : ℕ) → length heap ≡ h → heap ≡ blank h
  heap_empty h e = ext_get_or 0 heap (blank h) (e ∙ sym (length-replicate {A = ℕ} h 0)) (λ i l. g.heap_is.dead i (omega arith) ∙ sym (zeros_at h i))

  pub places_empty : (n : ℕ) → length places ≡ n → places ≡ blank n
  places_empty n e = ext_get_or 0 places (blank n) (e ∙ sym (length-replicate {A = ℕ} n 0)) (λ i l. idle_all i ∙ sym (zeros_at n i))

-- From what the search asks to its first state.
module _ (starts heads weights blocked : List ℕ) (source : ℕ) (labels heap places : List ℕ) (q : Asks starts heads weights blocked source labels heap places) where
  pub queue_empty : Heap heap places 0
  queue_empty = empty_queue heap places (length heap) (nodes_of starts) q.heap_zero q.places_zero (omega (arith, q.sound.sized.most)) q.queue

  pub places_long : length places ≡ nodes_of starts
  places_long = ap length q.places_zero ∙ length-replicate {A = ℕ} (nodes_of starts) 0

  pub source_idle : get_or places source 0 ≡ 0
  source_idle = ap (λ (l : List ℕ). get_or l source 0) q.places_zero ∙ zeros_at (nodes_of starts) source

  pub going_first :
      (cleared heap' places' : List ℕ) (count : ℕ) → cleared ≡ replicate (length labels) 0 → Heap heap' places' count → With source places places' →
      Going starts heads weights blocked source (set cleared source 1) heap' places' count All
  going_first cleared heap' places' count e h w =
      subst (λ (l : List ℕ). Going starts heads weights blocked source (set l source 1) heap' places' count All) (sym (e ∙ ap blank q.room))
      (first_going starts heads weights blocked source q.sound q.node q.bytes heap' places' count h (subst (λ (l : List ℕ). With source l places') q.places_zero w))
