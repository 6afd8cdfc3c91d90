-- A loop over the arcs of one node, of which P is told one by one.
use mathlib.Core.Path.{◌≡◌, subst}
use mathlib.Core.List.{List}
use Prim.Native.Nat.{ℕ, ◌+◌, ◌≤◌, ◌<◌}
use native.Mathlib.Omega.{arith}
use borrow.Author.Count.{below_more}
use lib.ListN.{length, get_or}
use Rattle.pieces.specs.workings.Pieces.{Row, Below}
use Rattle.road.specs.Roads.{nodes_of}
use Rattle.road.proofs.Rows.{starts_rise}
use Rattle.trails.specs.workings.Search.{Searchable}
use Rattle.trails.proofs.Searching.{row_bounds}

-- P holds of the heads at the places of v's row below i
pub record RowTo (starts heads : List ℕ) (v : ℕ) (P : ℕ → Type 0) (end i : ℕ) : Type 0 where
  pub from : get_or starts v 0 ≤ i
  pub to : i ≤ end
  pub listed : end ≤ length heads
  pub told : (j : ℕ) → j < i → get_or starts v 0 ≤ j → P (get_or heads j 0)

module _ (starts heads : List ℕ) (n v end : ℕ) (g : Searchable starts heads n) (h : v < n) (last : end ≡ get_or starts (v + 1) 0) where
  pub row_none : (P : ℕ → Type 0) (i : ℕ) → i ≡ get_or starts v 0 → RowTo starts heads v P end i
  row_none P i e = record { from = omega arith; to = omega (arith, g.rising.rises v (row_bounds starts heads n v g h)); listed = omega (arith, g.rising.ends, starts_rise starts heads g.rising (v + 1) (nodes_of starts) (omega (arith, g.long)) (omega (arith, g.long))); told = λ j l b. absurd (omega arith) }

  module _ {P : ℕ → Type 0} (i : ℕ) (t : RowTo starts heads v P end i) where
    pub row_end : end ≤ i → Row starts heads v P
    row_end l =
        record { each = λ x a. subst P a.head (t.told a.place (omega (arith, a.owned.below)) a.owned.from) }

pub row_more :
    (starts heads : List ℕ) (v end i : ℕ) (P Q : ℕ → Type 0) → RowTo starts heads v P end i → i < end → ((x : ℕ) → P x → Q x) → Q (get_or heads i 0) →
    RowTo starts heads v Q end (i + 1)
row_more starts heads v end i P Q t b f q =
    record {
      from = omega (arith, t.from);
      to = omega arith;
      listed = t.listed;
      told = λ j l. below_more (λ (x : ℕ). get_or starts v 0 ≤ x → Q (get_or heads x 0)) i (λ x c d. f (get_or heads x 0) (t.told x c d)) (λ d. q) j l;
    }

-- what is bounded is bounded by more
pub below_more_of : (cover sizes : List ℕ) (but r q : ℕ) → r ≤ q → (x : ℕ) → Below cover sizes but r x → Below cover sizes but q x
below_more_of cover sizes but r q h x b = record { below = λ d n. omega (arith, b.below d n) }
