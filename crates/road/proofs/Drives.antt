-- Whether two nodes are joined, by halving; and check 10, position by position.
use mathlib.Core.Path.{◌≡◌, sym, ap, subst}
use mathlib.Core.Logic.{◌≢◌}
use mathlib.Core.List.{List}
use Prim.Native.Nat.{ℕ, suc, ◌+◌, ◌-◌, ◌≤◌, ◌<◌}
use native.Mathlib.Decide.{ℕ_discrete, le_ind}
use native.Mathlib.Numerals.{add-one}
use native.Mathlib.Omega.{arith}
use borrow.Author.Count.{below_more}
use lib.ListN.{length, get_or}
use Rattle.road.specs.Limits.{most_drive}
use Rattle.road.specs.Roads.{nodes_of, Owns}
use Rattle.road.specs.workings.Sound.{Sorted}
use Rattle.road.specs.Drives.{Joined, BadDrive, none, many, outside, apart}
use Rattle.road.specs.workings.Scans.{Entered}
use Rattle.road.proofs.Rows.{owned_listed}
use Rattle.road.proofs.Faults.{not_over}

module _ (starts heads : List ℕ) (g : Sorted starts heads) where
  -- the heads of one tail ascend over any distance
  pub row_ascends : (u p q : ℕ) → Owns starts u p → p < q → Owns starts u q → get_or heads p 0 < get_or heads q 0
  row_ascends u p q o h e = le_ind (λ (x : ℕ). Owns starts u x → get_or heads p 0 < get_or heads x 0) here more q h e
    where
      here : Owns starts u (suc p) → get_or heads p 0 < get_or heads (suc p) 0
      here f =
          let next : Owns starts u (p + 1) = subst (λ (y : ℕ). Owns starts u y) (sym (add-one p)) f in
          omega (arith, g.ascends u p o next, ap (λ (y : ℕ). get_or heads y 0) (add-one p))

      more : (x : ℕ) → suc p ≤ x → (Owns starts u x → get_or heads p 0 < get_or heads x 0) → Owns starts u (suc x) → get_or heads p 0 < get_or heads (suc x) 0
      more x le before f =
          let own : Owns starts u x = record { from = omega (arith, o.from); below = omega (arith, f.below) } in
          let next : Owns starts u (x + 1) = subst (λ (y : ℕ). Owns starts u y) (sym (add-one x)) f in
          omega (arith, before own, g.ascends u x own next, ap (λ (y : ℕ). get_or heads y 0) (add-one x))

-- where v is among u's heads, it is at a place from low up to, but not including, high
pub record Between (starts heads : List ℕ) (u v low high : ℕ) : Type 0 where
  pub from : get_or starts u 0 ≤ low
  pub to : high ≤ get_or starts (u + 1) 0
  pub all : (p : ℕ) → Owns starts u p → get_or heads p 0 ≡ v → (low ≤ p) × (p < high)

module _ (starts heads : List ℕ) (g : Sorted starts heads) (u v : ℕ) where
  pub between_all : Between starts heads u v (get_or starts u 0) (get_or starts (u + 1) 0)
  between_all = record { from = omega arith; to = omega arith; all = λ p o e. (o.from, o.below) }

  module _ (low high middle : ℕ) (b : Between starts heads u v low high) (above : low ≤ middle) (below : middle < high) where
    pub middle_owned : Owns starts u middle
    middle_owned = record { from = omega (arith, b.from); below = omega (arith, b.to) }

    pub between_right : get_or heads middle 0 < v → Between starts heads u v (middle + 1) high
    between_right h = record { from = omega (arith, b.from); to = b.to; all = λ p o e. (right p o e, (b.all p o e).1) }
      where
        right : (p : ℕ) → Owns starts u p → get_or heads p 0 ≡ v → middle + 1 ≤ p
        right p o e = not_over (middle + 1) p (λ l. by l (ℕ_discrete p middle))
          where
            by : p < middle + 1 → Dec (p ≡ middle) → ⊥
            by l (yes s) = omega (arith, ap (λ (y : ℕ). get_or heads y 0) s)
            by l (no n) = omega (arith, row_ascends starts heads g u p middle o (omega (arith, n)) middle_owned)

    pub between_left : v < get_or heads middle 0 → Between starts heads u v low middle
    between_left h = record { from = b.from; to = omega (arith, b.to); all = λ p o e. ((b.all p o e).0, left p o e) }
      where
        left : (p : ℕ) → Owns starts u p → get_or heads p 0 ≡ v → p < middle
        left p o e = not_over (suc p) middle (λ l. by l (ℕ_discrete middle p))
          where
            by : middle < suc p → Dec (middle ≡ p) → ⊥
            by l (yes s) = omega (arith, ap (λ (y : ℕ). get_or heads y 0) s)
            by l (no n) = omega (arith, row_ascends starts heads g u middle p middle_owned (omega (arith, n)) o)

    pub middle_joined : get_or heads middle 0 ≡ v → Joined starts heads u v
    middle_joined e = record { place = middle; listed = owned_listed starts heads g.rising u middle middle_owned; owned = middle_owned; head = e }

    pub middle_listed : middle < length heads
    middle_listed = owned_listed starts heads g.rising u middle middle_owned

  pub between_none : (low high : ℕ) → Between starts heads u v low high → high ≤ low → Joined starts heads u v → ⊥
  between_none low high b h j = omega (arith, b.all j.place j.owned j.head)

module _ (starts heads drive : List ℕ) where
  pub entered_none : Entered starts heads drive 0
  entered_none = record { inside = λ j h. omega arith; joins = λ j h. absurd (omega arith) }

  -- the first position has no arc before it
  pub entered_first : (i : ℕ) → i ≡ 0 → get_or drive i 0 < nodes_of starts → Entered starts heads drive (i + 1)
  entered_first i e h =
      record {
        inside = λ j l. omega (arith, h, ap (λ (k : ℕ). get_or drive k 0) (only j l));
        joins = λ j l. absurd (omega arith);
      }
    where
      only : (j : ℕ) → j < i + 1 → j ≡ i
      only j l = omega arith

  pub entered_more :
      (i : ℕ) → i ≢ 0 → Entered starts heads drive i → get_or drive i 0 < nodes_of starts → Joined starts heads (get_or drive (i - 1) 0) (get_or drive i 0) →
      Entered starts heads drive (i + 1)
  entered_more i n e h j = record { inside = below_more (λ (k : ℕ). get_or drive k 0 < nodes_of starts) i e.inside h; joins = λ k l. by k l (ℕ_discrete (k + 1) i) }
    where
      by : (k : ℕ) → k + 1 < i + 1 → Dec (k + 1 ≡ i) → Joined starts heads (get_or drive k 0) (get_or drive (k + 1) 0)
      by k l (yes s) =
          let t : i - 1 ≡ k = omega arith in
          subst (λ (x : ℕ). Joined starts heads (get_or drive k 0) (get_or drive x 0)) (sym s)
          (subst (λ (x : ℕ). Joined starts heads (get_or drive x 0) (get_or drive i 0)) t j)
      by k l (no d) = e.joins k (omega (arith, d))

  -- two neighbours that are not joined, found at the second of them
  pub apart_at : (i : ℕ) → i ≢ 0 → i < length drive → (Joined starts heads (get_or drive (i - 1) 0) (get_or drive i 0) → ⊥) → BadDrive starts heads drive
  apart_at i n h f =
      let t : i - 1 + 1 ≡ i = omega (arith, n) in
      apart (i - 1) (omega (arith, n)) (λ j. f (subst (λ (x : ℕ). Joined starts heads (get_or drive (i - 1) 0) (get_or drive x 0)) t j))

  pub drive_clear : length drive ≢ 0 → length drive ≤ most_drive → (i : ℕ) → length drive ≤ i → Entered starts heads drive i → BadDrive starts heads drive → ⊥
  drive_clear a b i l e (none h) = a h
  drive_clear a b i l e (many h) = omega arith
  drive_clear a b i l e (outside j h o) = omega (arith, e.inside j (omega arith))
  drive_clear a b i l e (apart j h o) = o (e.joins j (omega arith))
