-- Fronts of slices.
use mathlib.Core.Path.{◌≡◌, refl, ap, ◌∙◌}
use mathlib.Core.List.{List, ◌++◌}
use Prim.Native.Nat.{ℕ, zero, suc, ◌≤◌}
use lib.ListN.{length, take}
use lib.Seq.{length-take-le, take_at}
use Rattle.maps.specs.Lists.{belows}

-- the front of a slice, as it came back
pub front_back : (k : ℕ) (l q rest : List ℕ) → k ≤ length l → length q ≡ length (take k l) → take k (q ++ rest) ≡ q
front_back k l q rest h e = take_at q rest k (e ∙ length-take-le k l h)

-- as many starts as are asked for
pub belows_long : (tails : List ℕ) (v c : ℕ) → length (belows tails v c) ≡ c
belows_long tails v zero = refl
belows_long tails v (suc c) = ap suc (belows_long tails (suc v) c)
