-- Positions in a row: the nodes at them are a path where they are different, and a point of it is a position that is kept.
use mathlib.Core.Path.{◌≡◌, refl, sym, ap, subst, ◌∙◌}
use mathlib.Core.List.{List, ◌∷◌}
use Prim.Native.Nat.{ℕ, zero, suc, ◌+◌, ◌≤◌, ◌<◌}
use native.Mathlib.Numerals.{add-one}
use native.Mathlib.Omega.{arith}
use lib.ListN.{length, get_or, take, drop, length-drop}
use lib.Seq.{drop-cons, get_or-drop, get_or-take, length-take-le}
use Rattle.paths.specs.Graphs.{Along, stop, step}
use Rattle.paths.specs.Lists.{Mem, Different}
use Rattle.paths.proofs.Lists.{place_of}
use Rattle.road.specs.Roads.{Arc, road}
use Rattle.rule.specs.Promise.{Covers}
use Rattle.rule.specs.Rule.{PathOf}
use Rattle.drive.specs.Promise.{stretch, Includes, KeepsSet}
use Rattle.drive.specs.Thinning.{IsDrive}

-- one position more at the front
stretch_cons : (drive : List ℕ) (i k : ℕ) → i < length drive → stretch drive i (suc k) ≡ get_or drive i 0 ∷ stretch drive (suc i) k
stretch_cons drive i k h = ap (take (suc k)) (drop-cons drive i 0 h)

stretch_long : (drive : List ℕ) (i k : ℕ) → i + k ≤ length drive → length (stretch drive i k) ≡ k
stretch_long drive i k h = length-take-le k (drop i drive) (omega (arith, length-drop i drive))

-- a node of the stretch stands at one of its positions
stretch_place : (drive : List ℕ) (i k v : ℕ) → i + k ≤ length drive → Mem v (stretch drive i k) → (p : ℕ) × (i ≤ p) × (p < i + k) × (get_or drive p 0 ≡ v)
stretch_place drive i k v h m =
    let q = place_of v (stretch drive i k) m in
    let below : q.0 < k = omega (arith, q.1, stretch_long drive i k h) in
    (i + q.0, omega arith, omega arith, sym (get_or-take k (drop i drive) q.0 0 below ∙ get_or-drop i drive q.0 0) ∙ q.2)

module _ (starts heads weights drive : List ℕ) (d : IsDrive starts heads drive) where
  -- from a position over the k after it
  record From (i k : ℕ) : Type 0 where
    last : ℕ
    weight : ℕ
    along : Along (road starts heads weights) (get_or drive i 0) (stretch drive (suc i) k) last weight

  next : (i : ℕ) → suc i < length drive → (w : ℕ) × Arc starts heads weights (get_or drive i 0) (get_or drive (suc i) 0) w
  next i h =
      let j = d.joins i (omega arith) in (
        get_or weights j.place 0,
        record { place = j.place; listed = j.listed; owned = j.owned; head = j.head ∙ ap (λ (x : ℕ). get_or drive x 0) (add-one i); weight = refl },
      )

  from : (i k : ℕ) → i + k < length drive → From i k
  from i zero h = record { last = get_or drive i 0; weight = 0; along = stop }
  from i (suc k) h = more (next i (omega arith)) (from (suc i) k (omega arith))
    where
      more : (w : ℕ) × Arc starts heads weights (get_or drive i 0) (get_or drive (suc i) 0) w → From (suc i) k → From i (suc k)
      more a f =
          record {
            last = f.last;
            weight = a.0 + f.weight;
            along =
                subst (λ (l : List ℕ). Along (road starts heads weights) (get_or drive i 0) l f.last (a.0 + f.weight)) (sym (stretch_cons drive (suc i) k (omega arith)))
                (step a.1 f.along);
          }

  -- k positions in a row with k different nodes are a path of k nodes, whatever the weights
  pub stretch_path : (i k : ℕ) → 1 ≤ k → i + k ≤ length drive → Different (stretch drive i k) → PathOf (road starts heads weights) k (stretch drive i k)
  stretch_path i zero l h u = absurd (omega arith)
  stretch_path i (suc k) l h u =
      let f = from i k (omega arith) in
      let whole = stretch_cons drive i k (omega arith) in
      record {
        first = get_or drive i 0;
        after = stretch drive (suc i) k;
        last = f.last;
        weight = f.weight;
        whole = whole;
        path = record { node = d.nodes i (omega arith); along = f.along; different = subst Different whole u };
        nodes = stretch_long drive i (suc k) h;
      }

-- A stretch that counts includes a kept position. Of what is kept, this asks only that a position whose node is in the set is.
pub row_kept :
    {Counts : List ℕ → Type 0} (bytes drive kept : List ℕ) → Covers Counts bytes → KeepsSet bytes drive kept → (i k : ℕ) → i + k ≤ length drive → Counts (stretch drive i k) →
    Includes kept i k
row_kept bytes drive kept c s i k h counts =
    let m = c.meets (stretch drive i k) counts in
    let p = stretch_place drive i k m.0 h m.1 in
    record { position = p.0; from = p.1; below = p.2; is_kept = s.keeps p.0 (omega (arith, p.2)) (ap (λ (x : ℕ). get_or bytes x 0) p.3 ∙ m.2) }
