-- The least number of a set, or that the set has none.
use Rattle.std.specs.Prelude.{◌≡◌, ℕ, suc, ◌≤◌}

-- d is the least number of P
pub record Least (P : ℕ → Type 0) (d : ℕ) : Type 0 where
  pub is : P d
  pub least : (e : ℕ) → P e → d ≤ e

-- P has no number
pub record Empty (P : ℕ → Type 0) : Type 0 where
  pub none : (d : ℕ) → P d → ⊥

-- a label tells the least number of P, or that there is none: 0 is none, and d + 1 is the least number d
pub record Told (P : ℕ → Type 0) (label : ℕ) : Type 0 where
  pub none : label ≡ 0 → Empty P
  pub some : (d : ℕ) → label ≡ suc d → Least P d

-- for each number of P there is one in Q that is at most as large
pub record Under (P Q : ℕ → Type 0) : Type 0 where
  pub under : (d : ℕ) → P d → (e : ℕ) × Q e × (e ≤ d)
