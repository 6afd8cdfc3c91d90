-- The pruning rule as a function: the cover that it yields, and no other.
use mathlib.Core.Path.{◌≡◌, refl, subst}
use mathlib.Core.Bool.{Bool, true, false}
use mathlib.Core.Logic.{◌≢◌}
use mathlib.Core.List.{List, [], ◌∷◌}
use Prim.Native.Nat.{ℕ}
use lib.ListN.{length, get_or, set, replicate}
use Rattle.paths.specs.Lists.{Mem}
use Rattle.road.specs.workings.Verdicts.{Tells}
use Rattle.road.specs.Roads.{nodes_of, road}
use Rattle.rule.specs.Rule.{Dropped, Needed, Prunes, done, keep, drop, Pruned, PathOf}
use Rattle.rule.proofs.Rules.{prunes_one}
use Rattle.examples.proofs.Deciding.{Decider, given, both, then, same, unlike, some, member, throughout, same_list, Below}
use Rattle.examples.proofs.Listing.{has_some}
use Rattle.examples.proofs.Trips.{PathWith, paths}

-- v is on the path, and otherwise only dropped nodes; the path has k nodes
abbrev pub Keeps : ℕ → List ℕ → ℕ → List ℕ → Type 0
Keeps k cover v path = (length path ≡ k) × (Mem v path × ((x : ℕ) → Mem x path → x ≢ v → Dropped cover x))

abbrev pub keeps : (k : ℕ) (cover : List ℕ) (v : ℕ) (path : List ℕ) → Decider (Keeps k cover v path)
keeps k cover v path =
    both (same (length path) k)
    (both (member v path) (throughout (λ (x : ℕ). x ≢ v → Dropped cover x) (λ x. then (unlike x v) (same (get_or cover x 0) 0)) path))

module _ (starts heads weights : List ℕ) (k : ℕ) (cover : List ℕ) (v : ℕ) where
  abbrev pub KeepsFrom : ℕ → ℕ → Type 0
  KeepsFrom a w = PathWith starts heads weights (λ (l : List ℕ) (e : ℕ). Keeps k cover v (a ∷ l)) a w

  pub needed_of : Below (nodes_of starts) (λ (a : ℕ). (w : ℕ) × KeepsFrom a w) → Needed (PathOf (road starts heads weights) k) cover v
  needed_of b =
      let a = b.number in
      let p = b.is.1 in
      record {
        path = a ∷ p.after;
        counts = record { first = a; after = p.after; last = p.last; weight = b.is.0; whole = refl; path = p.path; nodes = p.is.0 };
        on = p.is.1.0;
        others = p.is.1.1;
      }

  pub of_needed : Needed (PathOf (road starts heads weights) k) cover v → Below (nodes_of starts) (λ (a : ℕ). (w : ℕ) × KeepsFrom a w)
  of_needed n =
      let c = n.counts in
      let kept : Keeps k cover v n.path = (c.nodes, (n.on, n.others)) in
      record {
        number = c.first;
        below = c.path.node;
        is = (c.weight, record { after = c.after; last = c.last; path = c.path; is = subst (Keeps k cover v) c.whole kept });
      }

  abbrev pub needed : Decider (Needed (PathOf (road starts heads weights) k) cover v)
  needed =
      given (some (λ (a : ℕ). (w : ℕ) × KeepsFrom a w) (nodes_of starts)
      (λ a. has_some (paths starts heads weights (λ (l : List ℕ) (e : ℕ). Keeps k cover v (a ∷ l)) (λ l e. keeps k cover v (a ∷ l)) a))) needed_of of_needed

module _ (Counts : List ℕ → Type 0) (needs : (cover : List ℕ) (v : ℕ) → Decider (Needed Counts cover v)) where
  abbrev pub taken : Bool → List ℕ → ℕ → List ℕ
  taken true cover v = cover
  taken false cover v = set cover v 0

  -- the cover once the nodes of the order are taken
  abbrev pub left : List ℕ → List ℕ → List ℕ
  left [] cover = cover
  left (v ∷ order) cover = left order (taken (needs cover v).answer cover v)

  pub prunes : (order cover : List ℕ) → Prunes Counts order cover (left order cover)
  prunes [] cover = done
  prunes (v ∷ order) cover = by (needs cover v).answer (needs cover v).right (prunes order)
    where
      by : (b : Bool) → Tells b (Needed Counts cover v) → ((c : List ℕ) → Prunes Counts order c (left order c)) → Prunes Counts (v ∷ order) cover (left order (taken b cover v))
      by true t rest = keep (t.yes refl) (rest cover)
      by false t rest = drop (t.no refl) (rest (set cover v 0))

  pub prunes_to : (order cover bytes : List ℕ) → left order cover ≡ bytes → Prunes Counts order cover bytes
  prunes_to order cover bytes e = subst (λ (l : List ℕ). Prunes Counts order cover l) e (prunes order cover)

  abbrev pub pruned : (n : ℕ) (order bytes : List ℕ) → Decider (Pruned Counts n order bytes)
  pruned n order bytes =
      given (same_list (left order (replicate n 1)) bytes) (prunes_to order (replicate n 1) bytes) (λ p. prunes_one (prunes order (replicate n 1)) p)
