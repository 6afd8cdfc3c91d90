-- Digits and their numbers.
use mathlib.Core.Path.{◌≡◌}
use mathlib.Core.Logic.{◌⊎◌, inl, inr}
use Prim.Native.Nat.{ℕ, ◌+◌, ◌≤◌, ◌<◌}
use native.Mathlib.Decide.{dec_lt}
use native.Mathlib.Omega.{arith}
use Rattle.hexlines.proofs.Values.{digit_low, digit_high}
use Rattle.hexlines.specs.Text.{digit}

-- what a digit can be
pub record LowDigit (d char : ℕ) : Type 0 where
  pub below : d < 10
  pub is : char ≡ d + 48

pub record HighDigit (d char : ℕ) : Type 0 where
  pub above : 10 ≤ d
  pub is : char ≡ d + 55

kinds : (d : ℕ) → LowDigit d (digit d) ⊎ HighDigit d (digit d)
kinds d = by (dec_lt d 10)
  where
    by : Dec (d < 10) → LowDigit d (digit d) ⊎ HighDigit d (digit d)
    by (yes h) = inl (record { below = h; is = digit_low d h })
    by (no h) = inr (record { above = omega arith; is = digit_high d (omega arith) })

pub digit_one : (d e : ℕ) → d < 16 → e < 16 → digit d ≡ digit e → d ≡ e
digit_one d e hd he q = by (kinds d) (kinds e)
  where
    by : LowDigit d (digit d) ⊎ HighDigit d (digit d) → LowDigit e (digit e) ⊎ HighDigit e (digit e) → d ≡ e
    by (inl a) (inl b) = omega (arith, a.below, a.is, b.below, b.is, q)
    by (inl a) (inr b) = omega (arith, a.below, a.is, b.above, b.is, q)
    by (inr a) (inl b) = omega (arith, a.above, a.is, b.below, b.is, q)
    by (inr a) (inr b) = omega (arith, a.above, a.is, b.above, b.is, q)
