-- What the lines of a map need.
use Rattle.std.specs.Prelude.{◌≡◌, List, ℕ, suc, ◌+◌, ◌*◌, ◌≤◌, ◌<◌, length, get_or}

-- rows that do not fall and end within the heads, as many weights, and room for a line of 19 characters an arc
pub record RowsFit (starts heads weights : List ℕ) (n at room : ℕ) : Type 0 where
  pub rise : (u : ℕ) → u < n → get_or starts u 0 ≤ get_or starts (suc u) 0
  pub begins : get_or starts 0 0 ≡ 0
  pub ends : get_or starts n 0 ≤ length heads
  pub alike : length heads ≡ length weights
  pub long : length starts ≡ n + 1
  pub space : at + 19 * get_or starts n 0 ≤ room
