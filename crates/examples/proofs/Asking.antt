-- What the any-pair question says.
use mathlib.Core.Path.{◌≡◌, refl, ap, subst}
use mathlib.Core.Logic.{◌⊎◌, inl, inr}
use mathlib.Core.List.{List, ◌∷◌}
use Prim.Native.Nat.{ℕ, ◌+◌, ◌<◌}
use native.Mathlib.Omega.{arith}
use lib.ListN.{length}
use Rattle.paths.specs.Graphs.{IsPath, Reaches, Any}
use Rattle.paths.specs.Lists.{Mem}
use Rattle.road.specs.Faults.{InSet}
use Rattle.road.specs.Refusals.{Said}
use Rattle.road.specs.Roads.{road}
use Rattle.overlay.specs.Overlays.{Outside}
use Rattle.overlay.proofs.Locals.{in_bytes}
use Rattle.distance.specs.Calls.{Answers}
use Rattle.distance.specs.workings.Ready.{said_label}
use Rattle.distance.specs.Questions.{Lone, WayIn, WayOut, AnyPair}
use Rattle.distance.proofs.Demands.{answers_one}
use Rattle.distance.proofs.Outcomes.{answers_of}
use Rattle.examples.proofs.Deciding.{Decider, given, both, then, always, same, in_set, throughout, same_list, Below}
use Rattle.examples.proofs.Listing.{Listing, Plus, carried, joined, plus, single, when, over, label, listing_told}
use Rattle.examples.proofs.Overlaying.{outside, locals}
use Rattle.examples.proofs.Trips.{PathWith, paths, reaches}

abbrev pub same_said : (x y : Said) → Decider (x ≡ y)
same_said x y =
    given (both (same x.number y.number) (same_list x.values y.values)) (λ p i. record { number = p.0 i; values = p.1 i })
    (λ e. (ap (λ (s : Said). s.number) e, ap (λ (s : Said). s.values) e))

-- what is said of a set that is listed
abbrev pub answers : {P : ℕ → Type 0} → Listing P → (said : Said) → Decider (Answers P said)
answers {P} l said =
    given (same_said (said_label (label l.list)) said) (λ e. subst (Answers P) e (answers_of (label l.list) (listing_told l)))
    (λ a. answers_one (answers_of (label l.list) (listing_told l)) a)

module _ (starts heads weights chosen : List ℕ) where
  -- c is the only node of the set on the path from s
  abbrev pub Only : ℕ → ℕ → ℕ → List ℕ → ℕ → Type 0
  Only c s t l e = (e ≡ t) × ((v : ℕ) → Mem v (s ∷ l) → InSet chosen v → v ≡ c)

  module _ (c s t w : ℕ) where
    pub lone_of : PathWith starts heads weights (Only c s t) s w → Lone (road starts heads weights) chosen c s t w
    lone_of p =
        record { after = p.after; path = subst (λ (e : ℕ). IsPath (road starts heads weights) s p.after e w) p.is.0 p.path; only = p.is.1 }

    pub of_lone : Lone (road starts heads weights) chosen c s t w → PathWith starts heads weights (Only c s t) s w
    of_lone r = record { after = r.after; last = t; path = r.path; is = (refl, r.only) }

  abbrev pub lone : (c s t : ℕ) → Listing (Lone (road starts heads weights) chosen c s t)
  lone c s t =
      carried
      (paths starts heads weights (Only c s t)
      (λ l e. both (same e t) (throughout (λ (v : ℕ). InSet chosen v → v ≡ c) (λ v. then (in_set chosen v) (same v c)) (s ∷ l))) s)
      (lone_of c s t) (of_lone c s t)

  -- a gate of s at a: s itself at 0, or another node of the set at the weights of P
  abbrev pub Gate : ℕ → ℕ → (ℕ → Type 0) → ℕ → Type 0
  Gate s a P x = ((InSet chosen s × (a ≡ s)) × (x ≡ 0)) ⊎ ((Outside chosen s × InSet chosen a) × P x)

  abbrev pub gate : (s a : ℕ) (P : ℕ → Type 0) → Listing P → Listing (Gate s a P)
  gate s a P l = joined (when (both (in_set chosen s) (same a s)) (λ h. single 0)) (when (both (outside chosen s) (in_set chosen a)) (λ h. l))

  module _ (s a x : ℕ) where
    pub in_of : Gate s a (Lone (road starts heads weights) chosen a s a) x → WayIn (road starts heads weights) chosen s a x
    in_of (inl g) = WayIn.itself g.0.0 g.0.1 g.1
    in_of (inr g) = WayIn.reached g.0.0 g.0.1 g.1

    pub of_in : WayIn (road starts heads weights) chosen s a x → Gate s a (Lone (road starts heads weights) chosen a s a) x
    of_in (WayIn.itself i e z) = inl ((i, e), z)
    of_in (WayIn.reached n i l) = inr ((n, i), l)

    pub out_of : Gate s a (Lone (road starts heads weights) chosen a a s) x → WayOut (road starts heads weights) chosen a s x
    out_of (inl g) = WayOut.itself g.0.0 g.0.1 g.1
    out_of (inr g) = WayOut.reached g.0.0 g.0.1 g.1

    pub of_out : WayOut (road starts heads weights) chosen a s x → Gate s a (Lone (road starts heads weights) chosen a a s) x
    of_out (WayOut.itself i e z) = inl ((i, e), z)
    of_out (WayOut.reached n i l) = inr ((n, i), l)

  abbrev pub ways_in : (s a : ℕ) → Listing (WayIn (road starts heads weights) chosen s a)
  ways_in s a = carried (gate s a (Lone (road starts heads weights) chosen a s a) (lone a s a)) (in_of s a) (of_in s a)

  abbrev pub ways_out : (t b : ℕ) → Listing (WayOut (road starts heads weights) chosen b t)
  ways_out t b = carried (gate t b (Lone (road starts heads weights) chosen b b t) (lone b b t)) (out_of t b) (of_out t b)

  -- a way in leads to a node of the set, and a way out from one
  entry_node : (s a x : ℕ) → WayIn (road starts heads weights) chosen s a x → a < length chosen
  entry_node s a x (WayIn.itself i e z) = omega (arith, in_bytes chosen s i)
  entry_node s a x (WayIn.reached n i l) = in_bytes chosen a i

  exit_node : (t b z : ℕ) → WayOut (road starts heads weights) chosen b t z → b < length chosen
  exit_node t b z (WayOut.itself i e q) = omega (arith, in_bytes chosen t i)
  exit_node t b z (WayOut.reached n i l) = in_bytes chosen b i

  module _ (starts' heads' weights' : List ℕ) (s t : ℕ) where
    abbrev pub Three : ℕ → ℕ → ℕ → Type 0
    Three a b w =
        Plus (Plus (WayIn (road starts heads weights) chosen s a) (Reaches (road starts' heads' weights') Any a b)) (WayOut (road starts heads weights) chosen b t) w

    abbrev pub Over : ℕ → Type 0
    Over w = Below (length chosen) (λ (a : ℕ). Below (length chosen) (λ (b : ℕ). Three a b w))

    pub pair_of : (w : ℕ) → Reaches (road starts heads weights) (Outside chosen) s t w ⊎ Over w → AnyPair (road starts heads weights) (road starts' heads' weights') chosen s t w
    pair_of w (inl r) = AnyPair.direct r
    pair_of w (inr o) = by o.number o.is.number o.is.is
      where
        by : (a b : ℕ) → Three a b w → AnyPair (road starts heads weights) (road starts' heads' weights') chosen s t w
        by a b p =
            let q = p.in_left in
            AnyPair.over a b q.left q.right p.right q.in_left q.in_right p.in_right (omega (arith, p.total, q.total))

    pub of_pair : (w : ℕ) → AnyPair (road starts heads weights) (road starts' heads' weights') chosen s t w → Reaches (road starts heads weights) (Outside chosen) s t w ⊎ Over w
    of_pair w (AnyPair.direct r) = inl r
    of_pair w (AnyPair.over a b x y z i r o e) =
        inr
        (record {
          number = a;
          below = entry_node s a x i;
          is =
              record {
                number = b;
                below = exit_node t b z o;
                is = record { left = x + y; right = z; in_left = record { left = x; right = y; in_left = i; in_right = r; total = refl }; in_right = o; total = e };
              };
        })

    abbrev pub any_pair : Listing (AnyPair (road starts heads weights) (road starts' heads' weights') chosen s t)
    any_pair =
        carried
        (joined (locals starts heads weights chosen s t)
        (over (λ (a w : ℕ). Below (length chosen) (λ (b : ℕ). Three a b w))
        (λ a. over (Three a) (λ b. plus (plus (ways_in s a) (reaches starts' heads' weights' Any (λ v. always tt) a b)) (ways_out t b)) (length chosen)) (length chosen)))
        pair_of of_pair
