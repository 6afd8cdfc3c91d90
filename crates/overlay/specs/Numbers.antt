-- How many numbers have a property.
use Rattle.std.specs.Prelude.{ℕ, suc}

-- so many of the numbers below the first number have P
pub data Number (P : ℕ → Type 0) : ℕ → ℕ → Type 0 where
  none : Number P 0 0
  one : {n m : ℕ} → P n → Number P n m → Number P (suc n) (suc m)
  skip : {n m : ℕ} → (P n → ⊥) → Number P n m → Number P (suc n) m
