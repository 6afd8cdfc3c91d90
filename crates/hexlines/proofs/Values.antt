-- Digits of a byte.
use mathlib.Core.Path.{◌≡◌, ap}
use mathlib.Core.Bool.{Bool}
use Prim.Native.Nat.{ℕ, ◌+◌, ◌≤◌, ◌<◌}
use borrow.Author.Tests.{lt-ltb, le-ltb}
use Rattle.hexlines.specs.Text.{digit, pick}

pub digit_low : (d : ℕ) → d < 10 → digit d ≡ d + 48
digit_low d h = ap (λ (b : Bool). pick b (d + 48) (d + 55)) (lt-ltb d 10 h)

pub digit_high : (d : ℕ) → 10 ≤ d → digit d ≡ d + 55
digit_high d h = ap (λ (b : Bool). pick b (d + 48) (d + 55)) (le-ltb d 10 h)
