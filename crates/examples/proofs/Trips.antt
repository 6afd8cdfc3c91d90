-- The paths of a graph that leave a node, listed by their weights. From each node every arc is tried that does not lead back, so a path
-- of different nodes is met once; there is no need for more arcs than the graph has heads.
use mathlib.Core.Path.{◌≡◌, refl, sym, subst, ◌∙◌}
use mathlib.Core.Logic.{◌⊎◌, inl, inr, ⊎_elim}
use mathlib.Core.List.{List, [], ◌∷◌}
use Prim.Native.Nat.{ℕ, zero, suc, ◌+◌, ◌≤◌, ◌<◌}
use native.Mathlib.Omega.{arith}
use lib.ListN.{length, get_or}
use Rattle.paths.specs.Graphs.{Along, stop, step, IsPath, Reaches}
use Rattle.paths.specs.Lists.{Mem, Different, Each, Inside}
use Rattle.paths.proofs.Lists.{each_mem, mem_each, mem_at, length_at_most}
use Rattle.paths.proofs.Ways.{weighing}
use Rattle.road.specs.Roads.{nodes_of, Owns, Arc, road}
use Rattle.examples.proofs.Deciding.{Decider, given, both, fails, same, at_most, less, member, inside, Below}
use Rattle.examples.proofs.Listing.{Listing, Plus, carried, joined, plus, single, when, over}

abbrev pub owns : (starts : List ℕ) (u place : ℕ) → Decider (Owns starts u place)
owns starts u place =
    given (both (at_most (get_or starts u 0) place) (less place (get_or starts (u + 1) 0))) (λ p. record { from = p.0; below = p.1 }) (λ o. (o.from, o.below))

-- no node of the list stands in the other
abbrev pub Free : List ℕ → List ℕ → Type 0
Free avoid l = Each (λ (v : ℕ). Mem v avoid → ⊥) l

free_tail : (x : ℕ) (avoid l : List ℕ) → Free (x ∷ avoid) l → Free avoid l
free_tail x avoid l f = mem_each (λ (v : ℕ). Mem v avoid → ⊥) l (λ v h m. each_mem (λ (u : ℕ). Mem u (x ∷ avoid) → ⊥) v l f h (inr m))

free_head : (x : ℕ) (avoid l : List ℕ) → Free (x ∷ avoid) l → Mem x l → ⊥
free_head x avoid l f h = each_mem (λ (u : ℕ). Mem u (x ∷ avoid) → ⊥) x l f h (inl refl)

free_more : (x : ℕ) (avoid l : List ℕ) → (Mem x l → ⊥) → Free avoid l → Free (x ∷ avoid) l
free_more x avoid l n f =
    mem_each (λ (u : ℕ). Mem u (x ∷ avoid) → ⊥) l
    (λ v h m. ⊎_elim (λ e. n (subst (λ (y : ℕ). Mem y l) e h)) (λ k. each_mem (λ (u : ℕ). Mem u avoid → ⊥) v l f h k) m)

free_none : (l : List ℕ) → Free [] l
free_none l = mem_each (λ (u : ℕ). Mem u [] → ⊥) l (λ v h m. m)

module _ (starts heads weights : List ℕ) where
  -- a way from a of at most f arcs, over different nodes that are not to be avoided; of the nodes behind a and of the last, Q holds
  pub record Trip (Q : List ℕ → ℕ → Type 0) (f : ℕ) (avoid : List ℕ) (a w : ℕ) : Type 0 where
    pub after : List ℕ
    pub last : ℕ
    pub along : Along (road starts heads weights) a after last w
    pub different : Different after
    pub free : Free avoid after
    pub short : length after ≤ f
    pub is : Q after last

  -- it stays where it is
  abbrev pub Stays : (List ℕ → ℕ → Type 0) → ℕ → ℕ → Type 0
  Stays Q a w = Q [] a × (w ≡ 0)

  -- or takes the arc at place p first
  abbrev pub May : List ℕ → ℕ → ℕ → Type 0
  May avoid a p = Owns starts a p × (Mem (get_or heads p 0) avoid → ⊥)

  abbrev pub Onward : (List ℕ → ℕ → Type 0) → ℕ → List ℕ → ℕ → ℕ → ℕ → Type 0
  Onward Q f avoid a p w =
      May avoid a p × Plus (λ (x : ℕ). x ≡ get_or weights p 0)
      (Trip (λ (l : List ℕ) (e : ℕ). Q (get_or heads p 0 ∷ l) e) f (get_or heads p 0 ∷ avoid) (get_or heads p 0)) w

  abbrev pub Begins : (List ℕ → ℕ → Type 0) → ℕ → List ℕ → ℕ → ℕ → Type 0
  Begins Q f avoid a w = Stays Q a w ⊎ Below (length heads) (λ (p : ℕ). Onward Q f avoid a p w)

  module _ (Q : List ℕ → ℕ → Type 0) (avoid : List ℕ) (a : ℕ) where
    pub trip_stays : (f w : ℕ) → Stays Q a w → Trip Q f avoid a w
    trip_stays f w h =
        subst (λ (x : ℕ). Trip Q f avoid a x) (sym h.1)
        (record { after = []; last = a; along = stop; different = tt; free = tt; short = omega arith; is = h.0 })

    pub stays_trip : (w : ℕ) → Trip Q 0 avoid a w → Stays Q a w
    stays_trip w t = by t.along t.short t.is
      where
        by : {l : List ℕ} {b w : ℕ} → Along (road starts heads weights) a l b w → length l ≤ 0 → Q l b → Stays Q a w
        by stop h q = (q, refl)
        by (step s r) h q = absurd (omega arith)

    onward_trip : (f w : ℕ) → Below (length heads) (λ (p : ℕ). Onward Q f avoid a p w) → Trip Q (suc f) avoid a w
    onward_trip f w b = by b.number b.below b.is.0 b.is.1
      where
        by :
            (p : ℕ) → p < length heads → May avoid a p →
            Plus (λ (x : ℕ). x ≡ get_or weights p 0)
            (Trip (λ (l : List ℕ) (e : ℕ). Q (get_or heads p 0 ∷ l) e) f (get_or heads p 0 ∷ avoid) (get_or heads p 0)) w → Trip Q (suc f) avoid a w
        by p h m s =
            let t = s.in_right in
            let arc : Arc starts heads weights a (get_or heads p 0) (get_or weights p 0) = record { place = p; listed = h; owned = m.0; head = refl; weight = refl } in
            record {
              after = get_or heads p 0 ∷ t.after;
              last = t.last;
              along = weighing (omega (arith, s.total, s.in_left)) (step arc t.along);
              different = (free_head (get_or heads p 0) avoid t.after t.free, t.different);
              free = (m.1, free_tail (get_or heads p 0) avoid t.after t.free);
              short = omega (arith, t.short);
              is = t.is;
            }

    pub begins_trip : (f w : ℕ) → Begins Q f avoid a w → Trip Q (suc f) avoid a w
    begins_trip f w (inl h) = trip_stays (suc f) w h
    begins_trip f w (inr b) = onward_trip f w b

  module _ (Q : List ℕ → ℕ → Type 0) (f : ℕ) (avoid : List ℕ) where
    onward : {a x v d : ℕ} → Arc starts heads weights a x v → Trip (λ (m : List ℕ) (e : ℕ). Q (x ∷ m) e) f (x ∷ avoid) x d → (Mem x avoid → ⊥) →
        Below (length heads) (λ (p : ℕ). Onward Q f avoid a p (v + d))
    onward {v = v} {d = d} s t n =
        record {
          number = s.place;
          below = s.listed;
          is = (
            (s.owned, subst (λ (y : ℕ). Mem y avoid → ⊥) (sym s.head) n),
            record {
              left = v;
              right = d;
              in_left = sym s.weight;
              in_right = subst (λ (y : ℕ). Trip (λ (m : List ℕ) (e : ℕ). Q (y ∷ m) e) f (y ∷ avoid) y d) (sym s.head) t;
              total = refl;
            },
          );
        }

    begins : {a b w : ℕ} {l : List ℕ} → Along (road starts heads weights) a l b w → Different l → Free avoid l → length l ≤ suc f → Q l b → Begins Q f avoid a w
    begins stop d e h q = inl (q, refl)
    begins {b = b} (step {x = x} {d = k} {l = l} s r) d e h q =
        inr
        (onward s
        (record { after = l; last = b; along = r; different = d.1; free = free_more x avoid l d.0 e.1; short = omega arith; is = q })
        e.0)

    pub trip_begins : (a w : ℕ) → Trip Q (suc f) avoid a w → Begins Q f avoid a w
    trip_begins a w t = begins t.along t.different t.free t.short t.is

  abbrev pub may : (avoid : List ℕ) (a p : ℕ) → Decider (May avoid a p)
  may avoid a p = both (owns starts a p) (fails (member (get_or heads p 0) avoid))

  abbrev pub stays : (Q : List ℕ → ℕ → Type 0) → ((l : List ℕ) (e : ℕ) → Decider (Q l e)) → (a : ℕ) → Listing (Stays Q a)
  stays Q q a = when (q [] a) (λ h. single 0)

  abbrev pub trips : (Q : List ℕ → ℕ → Type 0) → ((l : List ℕ) (e : ℕ) → Decider (Q l e)) → (f : ℕ) (avoid : List ℕ) (a : ℕ) → Listing (Trip Q f avoid a)
  trips Q q zero avoid a = carried (stays Q q a) (trip_stays Q avoid a 0) (stays_trip Q avoid a)
  trips Q q (suc f) avoid a =
      carried
      (joined (stays Q q a)
      (over (Onward Q f avoid a)
      (λ p. when (may avoid a p)
      (λ h. plus (single (get_or weights p 0))
      (trips (λ (l : List ℕ) (e : ℕ). Q (get_or heads p 0 ∷ l) e) (λ l e. q (get_or heads p 0 ∷ l) e) f (get_or heads p 0 ∷ avoid) (get_or heads p 0)))) (length heads)))
      (begins_trip Q avoid a f) (trip_begins Q f avoid a)

  -- w is the weight of a path from a; of its nodes behind a and of its last, Q holds
  pub record PathWith (Q : List ℕ → ℕ → Type 0) (a w : ℕ) : Type 0 where
    pub after : List ℕ
    pub last : ℕ
    pub path : IsPath (road starts heads weights) a after last w
    pub is : Q after last

  heads_on : {a b w : ℕ} {l : List ℕ} → Along (road starts heads weights) a l b w → (v : ℕ) → Mem v l → Mem v heads
  heads_on stop v h = absurd h
  heads_on (step s r) v (inl e) = subst (λ (y : ℕ). Mem y heads) (s.head ∙ sym e) (mem_at heads s.place s.listed)
  heads_on (step s r) v (inr h) = heads_on r v h

  module _ (Q : List ℕ → ℕ → Type 0) (a w : ℕ) where
    pub path_of_trip : (a < nodes_of starts) × Trip Q (length heads) (a ∷ []) a w → PathWith Q a w
    path_of_trip p =
        let t = p.1 in
        record {
          after = t.after;
          last = t.last;
          path = record { node = p.0; along = t.along; different = (free_head a [] t.after t.free, t.different) };
          is = t.is;
        }

    pub trip_of_path : PathWith Q a w → (a < nodes_of starts) × Trip Q (length heads) (a ∷ []) a w
    trip_of_path p = (
      p.path.node,
      record {
        after = p.after;
        last = p.last;
        along = p.path.along;
        different = p.path.different.1;
        free = free_more a [] p.after p.path.different.0 (free_none p.after);
        short = length_at_most p.after heads p.path.different.1 (heads_on p.path.along);
        is = p.is;
      },
    )

  abbrev pub paths : (Q : List ℕ → ℕ → Type 0) → ((l : List ℕ) (e : ℕ) → Decider (Q l e)) → (a : ℕ) → Listing (PathWith Q a)
  paths Q q a = carried (when (less a (nodes_of starts)) (λ h. trips Q q (length heads) (a ∷ []) a)) (path_of_trip Q a) (trip_of_path Q a)

  module _ (P : ℕ → Type 0) (a b w : ℕ) where
    pub reaches_of : PathWith (λ (l : List ℕ) (e : ℕ). (e ≡ b) × Inside P l) a w → Reaches (road starts heads weights) P a b w
    reaches_of p =
        record { after = p.after; path = subst (λ (e : ℕ). IsPath (road starts heads weights) a p.after e w) p.is.0 p.path; inner = p.is.1 }

    pub of_reaches : Reaches (road starts heads weights) P a b w → PathWith (λ (l : List ℕ) (e : ℕ). (e ≡ b) × Inside P l) a w
    of_reaches r = record { after = r.after; last = b; path = r.path; is = (refl, r.inner) }

  -- the weights of the paths from a to b with P inside
  abbrev pub reaches : (P : ℕ → Type 0) → ((v : ℕ) → Decider (P v)) → (a b : ℕ) → Listing (Reaches (road starts heads weights) P a b)
  reaches P d a b =
      carried (paths (λ (l : List ℕ) (e : ℕ). (e ≡ b) × Inside P l) (λ l e. both (same e b) (inside P d l)) a) (reaches_of P a b) (of_reaches P a b)
