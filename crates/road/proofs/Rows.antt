-- Rows: each place has one tail, and well-formedness is that checks 1 to 3 find nothing.
use mathlib.Core.Path.{◌≡◌, ap}
use mathlib.Core.List.{List}
use Prim.Native.Nat.{ℕ, zero, suc, ◌+◌, ◌≤◌, ◌<◌}
use native.Mathlib.Decide.{dec_lt, dec_le, le_ind}
use native.Mathlib.Numerals.{add-one}
use native.Mathlib.Omega.{arith}
use lib.ListN.{length, get_or, get_or-eq_default}
use Rattle.road.specs.Roads.{nodes_of, Owns}
use Rattle.road.specs.workings.Sound.{Rising}

-- a place that a tail owns is the place of a node
pub owner_node : (starts : List ℕ) (u p : ℕ) → Owns starts u p → u < nodes_of starts
owner_node starts u p o = by (dec_lt (u + 1) (length starts))
  where
    by : Dec (u + 1 < length starts) → u < nodes_of starts
    by (yes h) = omega arith
    by (no n) = omega (arith, o.below, get_or-eq_default starts 0 {n = u + 1} (omega (arith, n)))

module _ (starts heads : List ℕ) (g : Rising starts heads) where
  -- starts do not fall over any distance
  pub starts_rise : (u v : ℕ) → u ≤ v → v < length starts → get_or starts u 0 ≤ get_or starts v 0
  starts_rise u v h below = le_ind (λ (x : ℕ). x < length starts → get_or starts u 0 ≤ get_or starts x 0) (λ _. omega arith) more v h below
    where
      more : (x : ℕ) → u ≤ x → (x < length starts → get_or starts u 0 ≤ get_or starts x 0) → suc x < length starts → get_or starts u 0 ≤ get_or starts (suc x) 0
      more x le before b = omega (arith, before (omega arith), g.rises x (omega arith), ap (λ (y : ℕ). get_or starts y 0) (add-one x))

  -- a place that a tail owns is one of the heads'
  pub owned_listed : (u p : ℕ) → Owns starts u p → p < length heads
  owned_listed u p o =
      let node = owner_node starts u p o in
      omega (arith, o.below, g.ends, starts_rise (u + 1) (nodes_of starts) (omega arith) (omega arith))

  -- the rows of two tails have no place in common
  owner_le : (u v p : ℕ) → Owns starts u p → Owns starts v p → u ≤ v
  owner_le u v p o q = by (dec_le u v)
    where
      by : Dec (u ≤ v) → u ≤ v
      by (yes h) = h
      by (no n) =
          let node = owner_node starts u p o in
          let apart : v + 1 ≤ u = omega (arith, n) in
          absurd (omega (arith, o.from, q.below, starts_rise (v + 1) u apart (omega arith)))

  pub owner_one : (u v p : ℕ) → Owns starts u p → Owns starts v p → u ≡ v
  owner_one u v p o q = omega (arith, owner_le u v p o q, owner_le v u p q o)

  -- every place of the heads has a tail
  pub owner_of : (p : ℕ) → p < length heads → (u : ℕ) × Owns starts u p
  owner_of p h = up_to (nodes_of starts) (omega (arith, g.ends))
    where
      up_to : (v : ℕ) → p < get_or starts v 0 → (u : ℕ) × Owns starts u p
      up_to zero b = absurd (omega (arith, g.begins))
      up_to (suc v) b = by (dec_lt p (get_or starts v 0)) (up_to v)
        where
          by : Dec (p < get_or starts v 0) → (p < get_or starts v 0 → (u : ℕ) × Owns starts u p) → (u : ℕ) × Owns starts u p
          by (yes l) rest = rest l
          by (no n) rest = (v, record { from = omega (arith, n); below = omega (arith, ap (λ (x : ℕ). get_or starts x 0) (add-one v)) })
