-- A slice filled with one value from the front, whatever its width.
use mathlib.Core.Path.{◌≡◌, refl, ap, ◌∙◌}
use mathlib.Core.List.{List, ◌++◌, append-nil}
use Prim.Native.Nat.{ℕ, zero, suc, ◌+◌, ◌≤◌, ◌<◌}
use native.Mathlib.Omega.{arith}
use borrow.Author.Fill.{fill_none, fill_more}
use lib.ListN.{length, get_or, replicate, drop, set, length-set, drop_of_length-le}

-- the first i of l are v, and the others are as in l₀
pub record Filling (v : ℕ) (l₀ l : List ℕ) (i : ℕ) : Type 0 where
  pub front : l ≡ replicate i v ++ drop i l₀
  pub within : i ≤ length l₀
  pub long : length l ≡ length l₀

pub filling_none : (v : ℕ) (l : List ℕ) → Filling v l l 0
filling_none v l = record { front = fill_none l v; within = omega arith; long = refl }

pub filling_more : (v : ℕ) (l₀ l : List ℕ) (i : ℕ) → Filling v l₀ l i → i < length l → Filling v l₀ (set l i v) (i + 1)
filling_more v l₀ l i z h =
    let inside : i < length l₀ = omega (arith, z.long) in
    record {
      front = ap (λ (k : List ℕ). set k i v) z.front ∙ fill_more i v l₀ inside;
      within = omega arith;
      long = length-set l i v ∙ z.long;
    }

pub filling_all : (v : ℕ) (l₀ l : List ℕ) (i : ℕ) → Filling v l₀ l i → length l ≤ i → l ≡ replicate (length l₀) v
filling_all v l₀ l i z h =
    let same : i ≡ length l₀ = omega (arith, z.long, z.within) in
    z.front ∙ ap (λ (k : List ℕ). replicate i v ++ k) (drop_of_length-le l₀ {i = i} (omega arith)) ∙ append-nil (replicate i v) ∙
    ap (λ (n : ℕ). replicate n v) same

-- zeros are 0 everywhere, past their end too
pub zeros_at : (n i : ℕ) → ◌≡◌ {A = ℕ} (get_or (replicate n 0) i 0) 0
zeros_at zero i = refl
zeros_at (suc n) zero = refl
zeros_at (suc n) (suc i) = zeros_at n i
