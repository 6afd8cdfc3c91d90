-- How many nodes are dropped.
use Rattle.std.specs.Prelude.{◌≡◌, Bool, true, List, ℕ, ◌+◌, ◌<◌}
use Rattle.road.specs.Counting.{times}

-- where `few` is true, the dropped nodes and one more are fewer than k
pub record Few (few : Bool) (cover : List ℕ) (k : ℕ) : Type 0 where
  pub fewer : few ≡ true → times 0 cover + 1 < k
