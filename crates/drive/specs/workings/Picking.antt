-- The pass over a drive.
use Rattle.std.specs.Prelude.{◌≡◌, List, ◌++◌, ℕ, ◌≤◌, ◌<◌, length, get_or, drop}
use Rattle.road.specs.Limits.{most_drive}
use Rattle.drive.specs.Thinning.{ListOf, Kept}

-- what the checks leave for the pass over the drive
pub record Fits (bytes drive positions : List ℕ) : Type 0 where
  pub nodes : (i : ℕ) → i < length drive → get_or drive i 0 < length bytes
  pub few : length drive ≤ most_drive
  pub room : length positions ≡ length drive

-- a position before i that is kept
pub record KeptBefore (bytes drive : List ℕ) (i p : ℕ) : Type 0 where
  pub before : p < i
  pub is_kept : Kept bytes drive p

-- the pass once it has looked at the positions before i: it has written the kept ones, `count` of them, and nothing else
pub record Picking (bytes drive positions : List ℕ) (i : ℕ) (positions' : List ℕ) (count : ℕ) : Type 0 where
  pub kept : List ℕ
  pub picks : ListOf (KeptBefore bytes drive i) kept
  pub count_right : length kept ≡ count
  pub whole : positions' ≡ kept ++ drop count positions
  pub few : count ≤ i
  pub within : i ≤ length drive
  pub long : length positions' ≡ length positions
