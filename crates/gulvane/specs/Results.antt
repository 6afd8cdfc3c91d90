-- The number and the values that a struct gives: the same as the answer's that it stands for.
use Rattle.std.specs.Prelude.{◌≡◌, ◌≢◌, [], ◌∷◌, ℕ, zero, suc, ◌≤◌, Result, Ok, Err, Option}
use Rattle.distance.specs.Calls.{said_of}
use Rattle.road.specs.declared.Refusal.{Refusal}
use Rattle.road.specs.Refusals.{Said, answer, refusal}
use Rattle.gulvane.specs.declared.GulvaneCount.{GulvaneCount}
use Rattle.gulvane.specs.declared.GulvaneDistance.{GulvaneDistance}

-- no refusal, and the count; or a refusal's number alone
abbrev pub count_said : ℕ → ℕ → Said
count_said zero count = answer (count ∷ [])
count_said (suc r) count = record { number = suc r; values = [] }

abbrev pub said_count : GulvaneCount → Said
said_count x = count_said x.refusal x.count

-- no refusal, and whether there is a way, with its weight; or a refusal's number alone
abbrev pub distance_said : ℕ → ℕ → ℕ → Said
distance_said zero zero weight = answer (0 ∷ [])
distance_said zero (suc way) weight = answer (1 ∷ weight ∷ [])
distance_said (suc r) way weight = record { number = suc r; values = [] }

abbrev pub said_distance : GulvaneDistance → Said
said_distance x = distance_said x.refusal x.way x.weight

-- the fields that nothing is said by are 0: the count beside a refusal
pub record BareCount (x : GulvaneCount) : Type 0 where
  pub refused : x.refusal ≢ 0 → x.count ≡ 0

-- the way beside a refusal, and the weight where there is no way
pub record BareDistance (x : GulvaneDistance) : Type 0 where
  pub refused : x.refusal ≢ 0 → x.way ≡ 0
  pub bit : x.way ≤ 1
  pub no_way : x.way ≡ 0 → x.weight ≡ 0

-- what an answer says that is a count
abbrev pub counted_said : Result ℕ Refusal → Said
counted_said (Ok count) = answer (count ∷ [])
counted_said (Err r) = refusal r

-- the struct says what the answer says, and is bare
pub record CountOf (a : Result ℕ Refusal) (x : GulvaneCount) : Type 0 where
  pub says : said_count x ≡ counted_said a
  pub bare : BareCount x

pub record DistanceOf (a : Result (Option ℕ) Refusal) (x : GulvaneDistance) : Type 0 where
  pub says : said_distance x ≡ said_of a
  pub bare : BareDistance x
