-- From a call's outcome, with work of the lengths that it asks, to what is found.
use mathlib.Core.Path.{◌≡◌, refl, ap, subst, ◌∙◌}
use mathlib.Core.Logic.{inl, inr}
use mathlib.Core.List.{List, [], ◌∷◌, ◌++◌}
use Prim.Native.Nat.{ℕ, zero, suc, ◌≤◌}
use native.Mathlib.Omega.{arith}
use lib.ListN.{length, take, replicate, length-replicate}
use lib.Seq.{length-take-le}
use Rattle.road.specs.declared.Refusal.{Refusal}
use Rattle.road.specs.Faults.{Unlike, lengths_fault}
use Rattle.road.specs.Chains.{cover_faults, road_and_set_faults}
use Rattle.road.specs.Refusals.{Fault, First, None, Said}
use Rattle.road.specs.Roads.{nodes_of}
use Rattle.cover.specs.Calls as C
use Rattle.overlay.specs.Calls as O
use Rattle.distance.specs.Calls as D
use Rattle.maps.specs.workings.Calls.{CoverFound, OverlayFound, PairFound}
use Rattle.maps.specs.Lists.{numbers}

pub first_of : (Fs : List Fault) (G : Fault) (r : Refusal) → ((s : Refusal) → G s → ⊥) → First (Fs ++ (G ∷ [])) r → First Fs r
first_of [] G r h (inl g) = h r g
first_of [] G r h (inr p) = p.1
first_of (F ∷ Fs) G r h (inl f) = inl f
first_of (F ∷ Fs) G r h (inr p) = inr (p.0, first_of Fs G r h p.1)

pub none_of : (Fs : List Fault) (G : Fault) → None (Fs ++ (G ∷ [])) → None Fs
none_of [] G n = tt
none_of (F ∷ Fs) G n = (n.0, none_of Fs G n.1)

-- each length is the one asked
abbrev pub Alike : List (ℕ × ℕ) → Type 0
Alike [] = Unit {0}
Alike (p ∷ l) = (p.0 ≡ p.1) × Alike l

no_fault : (ps : List (ℕ × ℕ)) → Alike ps → (s : Refusal) → lengths_fault ps s → ⊥
no_fault ps a s f = by ps a f.holds
  where
    by : (qs : List (ℕ × ℕ)) → Alike qs → Unlike qs → ⊥
    by [] b u = u
    by (q ∷ qs) b (inl n) = n b.0
    by (q ∷ qs) b (inr u) = by qs b.1 u

cover_of :
    (starts heads weights : List ℕ) (k : ℕ) (a a' : C.Areas) (said : Said) → Alike (C.asked_lengths (nodes_of starts) (length heads) a) →
    C.Outcome starts heads weights k (numbers 0 (nodes_of starts)) a said a' → CoverFound starts heads weights k a.cover said a'.cover
cover_of starts heads weights k a a' said h (C.refused {r = r} f) =
    CoverFound.refused (first_of (cover_faults starts heads weights k (numbers 0 (nodes_of starts))) (lengths_fault (C.asked_lengths (nodes_of starts) (length heads) a)) r (no_fault (C.asked_lengths (nodes_of starts) (length heads) a) h) f)
cover_of starts heads weights k a a' said h (C.covered n p) =
    CoverFound.covered (none_of (cover_faults starts heads weights k (numbers 0 (nodes_of starts))) (lengths_fault (C.asked_lengths (nodes_of starts) (length heads) a)) n) p

pub cover_found :
    (starts heads weights : List ℕ) (k : ℕ) (order : List ℕ) (a a' : C.Areas) (said : Said) → order ≡ numbers 0 (nodes_of starts) →
    Alike (C.asked_lengths (nodes_of starts) (length heads) a) → C.Outcome starts heads weights k order a said a' →
    CoverFound starts heads weights k a.cover said a'.cover
cover_found starts heads weights k order a a' said e h o =
    cover_of starts heads weights k a a' said h (subst (λ (l : List ℕ). C.Outcome starts heads weights k l a said a') e o)

pub overlay_found :
    (starts heads weights chosen : List ℕ) (a a' : O.Areas) (said : Said) → Alike (O.asked_lengths (nodes_of starts) a) →
    O.Outcome starts heads weights chosen a said a' →
    OverlayFound starts heads weights chosen a.starts a.heads a.weights said a'.starts a'.heads a'.weights
overlay_found starts heads weights chosen a a' said h (O.refused {r = r} f) =
    OverlayFound.refused
    (first_of (road_and_set_faults starts heads weights chosen) (lengths_fault (O.asked_lengths (nodes_of starts) a)) r (no_fault (O.asked_lengths (nodes_of starts) a) h) f)
overlay_found starts heads weights chosen a a' said h (O.full n t) =
    OverlayFound.full (none_of (road_and_set_faults starts heads weights chosen) (lengths_fault (O.asked_lengths (nodes_of starts) a)) n) t
overlay_found starts heads weights chosen a a' said h (O.built n t o) =
    OverlayFound.built (none_of (road_and_set_faults starts heads weights chosen) (lengths_fault (O.asked_lengths (nodes_of starts) a)) n) t o

module _ (starts heads weights chosen starts' heads' weights' : List ℕ) (s t : ℕ) (a : D.PairAreas) where
  abbrev asked : List (ℕ × ℕ)
  asked = D.pair_lengths (nodes_of starts) (length heads) a

  pub pair_found :
      (a' : D.PairAreas) (said : Said) → Alike asked → D.PairOutcome starts heads weights chosen starts' heads' weights' s t a said a' →
      PairFound starts heads weights chosen starts' heads' weights' s t said
  pair_found a' said h (D.PairOutcome.refused {r = r} f) =
      PairFound.refused (first_of (D.pair_input starts heads weights chosen starts' heads' weights' s t) (lengths_fault asked) r (no_fault asked h) f)
  pair_found a' said h (D.PairOutcome.answered n o) =
      PairFound.answered (none_of (D.pair_input starts heads weights chosen starts' heads' weights' s t) (lengths_fault asked) n) o

-- the front of an array of zeros
pub front_long : (n k x : ℕ) → n ≤ k → n ≡ x → length (take n (replicate {A = ℕ} k 0)) ≡ x
front_long n k x h e = length-take-le n (replicate {A = ℕ} k 0) (omega (arith, length-replicate {A = ℕ} k 0)) ∙ e

take_numbers : (n k v : ℕ) → n ≤ k → take n (numbers v k) ≡ numbers v n
take_numbers zero k v h = refl
take_numbers (suc n) zero v h = absurd (omega arith)
take_numbers (suc n) (suc k) v h = ap (λ (l : List ℕ). v ∷ l) (take_numbers n k (suc v) (omega arith))

-- the first numbers of some more
pub front_numbers : (order : List ℕ) (n k x : ℕ) → n ≤ k → n ≡ x → order ≡ numbers 0 k → take n order ≡ numbers 0 x
front_numbers order n k x h e q = ap (take n) q ∙ take_numbers n k 0 h ∙ ap (numbers 0) e
