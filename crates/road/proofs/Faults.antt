-- What it takes that a fault does not hold, and what follows where it does not: a well-formed graph is one with no fault.
use mathlib.Core.Path.{◌≡◌, refl, sym, ap, subst}
use mathlib.Core.Logic.{inl, inr, ⊎_elim, ◌≢◌}
use mathlib.Core.List.{List, [], ◌∷◌}
use Prim.Native.Nat.{ℕ, zero, suc, ◌+◌, ◌≤◌, ◌<◌}
use native.Mathlib.Decide.{dec_lt, ℕ_discrete}
use native.Mathlib.Omega.{arith}
use lib.ListN.{length, get_or}
use Rattle.paths.specs.Graphs.{Proper, Lighter}
use Rattle.road.specs.declared.Limits.{Limits}
use Rattle.road.specs.declared.Refusal.{Refusal}
use Rattle.road.specs.Limits.{most_nodes, most_k, road_limits, overlay_limits}
use Rattle.road.specs.workings.Verdicts.{Single, Singles}
use Rattle.road.specs.Order.{Numbered}
use Rattle.road.specs.Refusals.{None, First, number_of}
use Rattle.road.specs.Roads.{nodes_of, Owns, road}
use Rattle.road.specs.workings.Sound.{Sized, Rising, Listed, Sorted, Sound}
use Rattle.road.specs.Faults.{BadSizes, few_starts, many_starts, unlike, many_heads, many_weights, BadStarts, first, falls, last, HeadOutside, HeadIsTail, HeadFalls, TooHeavy, arc_faults, ArcFault, graph_faults, BadSetSize, empty, many, BadK, NoNode, InSet, NotInSet, BadSet, Unlike}
use Rattle.road.proofs.Refusals.{of_single, of_number, first_one, first_not_none, none_if_no_first, untold, unheld}
use Rattle.road.proofs.Rows.{owner_node, owned_listed}

-- a number that is not over a bound is under it
under_by : {a b : ℕ} → Dec (b < a) → (b < a → ⊥) → a ≤ b
under_by (yes h) n = absurd (n h)
under_by (no h) n = omega (arith, h)

pub not_over : (a b : ℕ) → (b < a → ⊥) → a ≤ b
not_over a b n = under_by (dec_lt b a) n

same_by : {a b : ℕ} → Dec (a ≡ b) → (a ≢ b → ⊥) → a ≡ b
same_by (yes h) n = h
same_by (no h) n = absurd (n h)

pub not_unlike : (a b : ℕ) → (a ≢ b → ⊥) → a ≡ b
not_unlike a b n = same_by (ℕ_discrete a b) n

-- all lengths are as asked
abbrev pub Alike : List (ℕ × ℕ) → Type 0
Alike [] = Unit {0}
Alike (p ∷ l) = (p.0 ≡ p.1) × Alike l

-- the length at a place is the one asked
abbrev pub LongAt : List (ℕ × ℕ) → ℕ → Type 0
LongAt [] i = Unit {0}
LongAt (p ∷ l) zero = p.0 ≡ p.1
LongAt (p ∷ l) (suc i) = LongAt l i

-- by the places of the pairs: one that is unlike, or none
pub unlike_at : (pairs : List (ℕ × ℕ)) (i : ℕ) → i < length pairs → (get_or pairs i (0, 0)).0 ≢ (get_or pairs i (0, 0)).1 → Unlike pairs
unlike_at [] i h d = omega arith
unlike_at (p ∷ l) zero h d = inl d
unlike_at (p ∷ l) (suc i) h d = inr (unlike_at l i (omega arith) d)

pub none_unlike : (pairs : List (ℕ × ℕ)) → ((i : ℕ) → i < length pairs → (get_or pairs i (0, 0)).0 ≡ (get_or pairs i (0, 0)).1) → Unlike pairs → ⊥
none_unlike (p ∷ l) f (inl d) = d (f 0 (omega arith))
none_unlike (p ∷ l) f (inr u) = none_unlike l (λ i h. f (suc i) (omega arith)) u
none_unlike [] f u = elim u [ ]

pub long_at : (pairs : List (ℕ × ℕ)) → (Unlike pairs → ⊥) → (i : ℕ) → LongAt pairs i
long_at [] n i = tt
long_at (p ∷ l) n zero = not_unlike p.0 p.1 (λ d. n (inl d))
long_at (p ∷ l) n (suc i) = long_at l (λ u. n (inr u)) i

pub set_size_clear : (bytes : List ℕ) → length bytes ≢ 0 → length bytes ≤ most_nodes → BadSetSize bytes → ⊥
set_size_clear bytes a b (empty h) = a h
set_size_clear bytes a b (many h) = omega arith

pub k_clear : (k : ℕ) → k ≢ 0 → k ≤ most_k → BadK k → ⊥
k_clear k a b (BadK.none h) = a h
k_clear k a b (BadK.many h) = omega arith

pub nodes_clear : (n s t : ℕ) → s < n → t < n → NoNode n s t → ⊥
nodes_clear n s t a b (NoNode.from h) = omega arith
nodes_clear n s t a b (NoNode.to h) = omega arith

pub in_set_clear : (bytes : List ℕ) (s t : ℕ) → InSet bytes s → InSet bytes t → NotInSet bytes s t → ⊥
in_set_clear bytes s t a b (NotInSet.from h) = h a
in_set_clear bytes s t a b (NotInSet.to h) = h b

pub set_clear : (n : ℕ) (bytes : List ℕ) → length bytes ≡ n → ((v : ℕ) → v < length bytes → get_or bytes v 0 ≤ 1) → BadSet n bytes → ⊥
set_clear n bytes a b (BadSet.unlike h) = h a
set_clear n bytes a b (BadSet.other v h x y) = omega (arith, x, y, b v h)

pub starts_clear : (starts heads : List ℕ) → Rising starts heads → BadStarts starts heads → ⊥
starts_clear starts heads g (first h) = h g.begins
starts_clear starts heads g (falls u b h) = omega (arith, g.rises u b)
starts_clear starts heads g (last h) = h g.ends

pub rising_of : (starts heads : List ℕ) → (BadStarts starts heads → ⊥) → Rising starts heads
rising_of starts heads n =
    record {
      begins = not_unlike (get_or starts 0 0) 0 (λ h. n (first h));
      rises = λ u b. not_over (get_or starts u 0) (get_or starts (u + 1) 0) (λ h. n (falls u b h));
      ends = not_unlike (get_or starts (nodes_of starts) 0) (length heads) (λ h. n (last h));
    }

module _ (L : Limits) (starts heads weights : List ℕ) where
  pub sizes_clear : Sized L starts heads weights → BadSizes L starts heads weights → ⊥
  sizes_clear g (few_starts h) = omega (arith, g.least)
  sizes_clear g (many_starts h) = omega (arith, g.most)
  sizes_clear g (unlike h) = h g.alike
  sizes_clear g (many_heads h) = omega (arith, g.few)
  sizes_clear g (many_weights h) = omega (arith, g.few, g.alike)

  pub sized_of : (BadSizes L starts heads weights → ⊥) → Sized L starts heads weights
  sized_of n =
      record {
        least = not_over 2 (length starts) (λ h. n (few_starts h));
        most = not_over (length starts) (most_nodes + 1) (λ h. n (many_starts h));
        alike = not_unlike (length heads) (length weights) (λ h. n (unlike h));
        few = not_over (length heads) L.arcs.0 (λ h. n (many_heads h));
      }

  pub listed_of : Sized L starts heads weights → Rising starts heads → Listed starts heads weights
  listed_of s r = record { least = s.least; alike = s.alike; rising = r }

  -- an arc without fault
  pub arc_clear :
      (p : ℕ) → (HeadOutside starts heads p → ⊥) → (HeadIsTail starts heads p → ⊥) → (HeadFalls starts heads p → ⊥) → (TooHeavy L weights p → ⊥) →
      None (arc_faults L starts heads weights p)
  arc_clear p a b c d = (untold a, (untold b, (untold c, (untold d, tt))))

  -- no first bad arc: no bad arc
  pub arcs_clear : ((r : Refusal) → ArcFault L starts heads weights r → ⊥) → (p : ℕ) → p < length heads → None (arc_faults L starts heads weights p)
  arcs_clear n p h =
      none_if_no_first (arc_faults L starts heads weights p)
      (λ r f. n r (record { place = p; listed = h; here = f; before = λ q l. up_to p q (omega arith) l }))
    where
      up_to : (k q : ℕ) → k ≤ length heads → q < k → None (arc_faults L starts heads weights q)
      up_to zero q b l = absurd (omega arith)
      up_to (suc k) q b l = by (ℕ_discrete q k) (up_to k)
        where
          by : Dec (q ≡ k) → ((i : ℕ) → k ≤ length heads → i < k → None (arc_faults L starts heads weights i)) → None (arc_faults L starts heads weights q)
          by (yes e) before =
              subst (λ (x : ℕ). None (arc_faults L starts heads weights x)) (sym e)
              (none_if_no_first (arc_faults L starts heads weights k)
              (λ r f. n r (record { place = k; listed = omega arith; here = f; before = λ i m. before i (omega arith) m })))
          by (no d) before = before q (omega arith) (omega (arith, d))

  -- a graph without fault is well formed
  pub sound_of : None (graph_faults L starts heads weights) → Sound L starts heads weights
  sound_of n =
      let sz = sized_of (unheld n.0) in
      let ri = rising_of starts heads (unheld n.1.0) in
      let clear = arcs_clear n.1.1.0 in
      record {
        sized = sz;
        rising = ri;
        inside = λ p h. not_over (suc (get_or heads p 0)) (nodes_of starts) (λ l. unheld (clear p h).0 (record { outside = omega arith }));
        unlooped = λ u p o e. unheld (clear p (owned_listed starts heads ri u p o)).1.0 (record { tail = u; owned = o; same = e });
        ascends =
            λ u p o q.
            not_over (suc (get_or heads p 0)) (get_or heads (p + 1) 0)
            (λ l. unheld (clear (p + 1) (owned_listed starts heads ri u (p + 1) q)).1.1.0
            (record { tail = u; former = p; next = refl; before = o; owned = q; falls = omega arith }));
        light = λ p h. not_over (get_or weights p 0) L.weight (λ l. unheld (clear p h).1.1.1.0 (record { over = l }));
      }

  -- and a well-formed graph is without fault
  arc_sound : Sound L starts heads weights → (p : ℕ) → p < length heads → None (arc_faults L starts heads weights p)
  arc_sound g p h =
      arc_clear p (λ o. omega (arith, o.outside, g.inside p h)) (λ o. g.unlooped o.tail p o.owned o.same)
      (λ o. falling o)
      (λ o. omega (arith, o.over, g.light p h))
    where
      falling : HeadFalls starts heads p → ⊥
      falling o =
          let owned : Owns starts o.tail (o.former + 1) = subst (λ (x : ℕ). Owns starts o.tail x) o.next o.owned in
          omega (arith, g.ascends o.tail o.former o.before owned, ap (λ (x : ℕ). get_or heads x 0) o.next, o.falls)

  pub none_of_sound : Sound L starts heads weights → None (graph_faults L starts heads weights)
  none_of_sound g = (
    untold (sizes_clear g.sized),
    (
      untold (starts_clear starts heads g.rising),
      (
        (λ r f. first_not_none (arc_faults L starts heads weights f.place) r f.here (arc_sound g f.place f.listed)),
        tt,
      ),
    ),
  )

  -- the first bad arc is one
  arc_single : (p : ℕ) → Singles (arc_faults L starts heads weights p)
  arc_single p = (of_single, (of_single, (of_single, (of_single, tt))))

  first_place : (r s : Refusal) (f : ArcFault L starts heads weights r) (g : ArcFault L starts heads weights s) → f.place < g.place → ⊥
  first_place r s f g h = first_not_none (arc_faults L starts heads weights f.place) r f.here (g.before f.place h)

  pub arcs_single : Single (ArcFault L starts heads weights)
  arcs_single = record { one = λ r s f g. by r s f g (ℕ_discrete f.place g.place) }
    where
      by : (r s : Refusal) (f : ArcFault L starts heads weights r) (g : ArcFault L starts heads weights s) → Dec (f.place ≡ g.place) → r ≡ s
      by r s f g (yes e) =
          first_one (arc_faults L starts heads weights g.place) r s (arc_single g.place)
          (subst (λ (x : ℕ). First (arc_faults L starts heads weights x) r) e f.here)
          g.here
      by r s f g (no d) = absurd (d (omega (arith, not_over f.place g.place (first_place s r g f), not_over g.place f.place (first_place r s f g))))

  pub graph_singles : Singles (graph_faults L starts heads weights)
  graph_singles = (of_single, (of_single, (arcs_single, tt)))

  -- the numbers that they tell
  pub graph_numbered : Numbered (graph_faults L starts heads weights) (1 ∷ 2 ∷ 3 ∷ [])
  graph_numbered = (of_number, (of_number, ((λ r f. arc_number f.place r f.here), tt)))
    where
      arc_number : (p : ℕ) (r : Refusal) → First (arc_faults L starts heads weights p) r → number_of r ≡ 3
      arc_number p r =
          ⊎_elim (of_number r) (λ f. ⊎_elim (of_number r) (λ g. ⊎_elim (of_number r) (λ h. ⊎_elim (of_number r) (λ i. absurd i.1) h.1) g.1) f.1)

  -- what a well-formed graph means joins nodes, by steps within the limit
  pub road_proper : Sound L starts heads weights → Proper (road starts heads weights)
  road_proper g =
      record {
        tail = λ {u} {v} {w} a. owner_node starts u a.place a.owned;
        head = λ {u} {v} {w} a. omega (arith, g.inside a.place a.listed, a.head);
      }

  pub road_lighter : Sound L starts heads weights → Lighter (road starts heads weights) L.weight
  road_lighter g = record { light = λ {u} {v} {w} a. omega (arith, g.light a.place a.listed, a.weight) }

  pub sorted_of : Sound L starts heads weights → Sorted starts heads
  sorted_of g = record { least = g.sized.least; rising = g.rising; ascends = g.ascends }

-- what the road's limits allow the overlay's allow
pub sound_wider : (starts heads weights : List ℕ) → Sound road_limits starts heads weights → Sound overlay_limits starts heads weights
sound_wider starts heads weights g =
    record {
      sized = record { least = g.sized.least; most = g.sized.most; alike = g.sized.alike; few = omega (arith, g.sized.few) };
      rising = g.rising;
      inside = g.inside;
      unlooped = g.unlooped;
      ascends = g.ascends;
      light = λ p h. omega (arith, g.light p h);
    }
