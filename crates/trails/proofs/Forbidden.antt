-- A wrong path that the contract of `push` rules out.
use mathlib.Core.Path.{◌≡◌}
use Prim.Native.Nat.{ℕ, ◌≤◌}
use native.Mathlib.Omega.{arith}
use Rattle.std.specs.Prelude.{Option, None}
use Rattle.trails.specs.declared.Trail.{Trail}
use Rattle.trails.specs.Trails.{Pushes}

-- a path of 31 nodes is full
pub full_at_31 : (t : Trail) (v : ℕ) (r : Option Trail) → Pushes t v r → t.count.0 ≡ 31 → r ≡ None → ⊥
full_at_31 t v r p e n = let f : 32 ≤ t.count.0 = (rw n at p) in omega arith
