-- Two outcomes of a call for C are equal: the struct, and every slice. What the calls promise holds of these forms too, since a struct's
-- refusal is the number that it says.
use mathlib.Core.Path.{◌≡◌, refl}
use mathlib.Core.List.{List}
use Prim.Native.Nat.{ℕ, zero, suc}
use Rattle.road.specs.Refusals.{Said}
use Rattle.cover.specs.Calls as Cover
use Rattle.cover.proofs.Demands as Covers
use Rattle.overlay.specs.Calls as Overlay
use Rattle.overlay.proofs.Demands as Overlays
use Rattle.drive.specs.Calls as Drive
use Rattle.drive.proofs.Demands as Drives
use Rattle.distance.specs.Calls as Distance
use Rattle.distance.proofs.Demands as Distances
use Rattle.gulvane.specs.declared.GulvaneCount.{GulvaneCount}
use Rattle.gulvane.specs.declared.GulvaneDistance.{GulvaneDistance}
use Rattle.gulvane.specs.Results.{count_said, said_count, distance_said, said_distance, BareCount, BareDistance}
use Rattle.gulvane.proofs.Told.{count_one, distance_one}

count_says : (r c : ℕ) → (count_said r c).number ≡ r
count_says zero c = refl
count_says (suc r) c = refl

distance_says : (r p w : ℕ) → (distance_said r p w).number ≡ r
distance_says zero zero w = refl
distance_says zero (suc p) w = refl
distance_says (suc r) p w = refl

pub count_number : (x : GulvaneCount) → (said_count x).number ≡ x.refusal
count_number x = count_says x.refusal x.count

pub distance_number : (x : GulvaneDistance) → (said_distance x).number ≡ x.refusal
distance_number x = distance_says x.refusal x.way x.weight

-- of any outcomes, two of which are equal
module _ {A : Type 0} (Outcome : Said → A → Type 0) (one : (s t : Said) (a b : A) → Outcome s a → Outcome t b → (s ≡ t) × (a ≡ b)) where
  count_form : (x y : GulvaneCount) (a b : A) → Outcome (said_count x) a → BareCount x → Outcome (said_count y) b → BareCount y → (x ≡ y) × (a ≡ b)
  count_form x y a b o p q r = let s = one (said_count x) (said_count y) a b o q in (count_one x y s.0 p r, s.1)

  distance_form :
      (x y : GulvaneDistance) (a b : A) → Outcome (said_distance x) a → BareDistance x → Outcome (said_distance y) b → BareDistance y → (x ≡ y) × (a ≡ b)
  distance_form x y a b o p q r = let s = one (said_distance x) (said_distance y) a b o q in (distance_one x y s.0 p r, s.1)

pub cover_one :
    (starts heads weights : List ℕ) (k : ℕ) (order : List ℕ) (before : Cover.Areas) (x y : GulvaneCount) (a b : Cover.Areas) →
    Cover.Outcome starts heads weights k order before (said_count x) a → BareCount x → Cover.Outcome starts heads weights k order before (said_count y) b → BareCount y →
    (x ≡ y) × (a ≡ b)
cover_one starts heads weights k order before = count_form (Cover.Outcome starts heads weights k order before) (λ s t a b o p. Covers.outcome_one o p)

pub overlay_one :
    (starts heads weights chosen : List ℕ) (before : Overlay.Areas) (x y : GulvaneCount) (a b : Overlay.Areas) →
    Overlay.Outcome starts heads weights chosen before (said_count x) a → BareCount x → Overlay.Outcome starts heads weights chosen before (said_count y) b → BareCount y →
    (x ≡ y) × (a ≡ b)
overlay_one starts heads weights chosen before = count_form (Overlay.Outcome starts heads weights chosen before) (λ s t a b o p. Overlays.outcome_one o p)

pub thin_one :
    (starts heads weights bytes drive positions : List ℕ) (x y : GulvaneCount) (a b : List ℕ) →
    Drive.Outcome starts heads weights bytes drive positions (said_count x) a → BareCount x → Drive.Outcome starts heads weights bytes drive positions (said_count y) b →
    BareCount y → (x ≡ y) × (a ≡ b)
thin_one starts heads weights bytes drive positions =
    count_form (Drive.Outcome starts heads weights bytes drive positions) (λ s t a b o p. Drives.outcome_one o p)

pub handheld_one :
    (chosen starts heads weights : List ℕ) (s t : ℕ) (before : Distance.HandAreas) (x y : GulvaneDistance) (a b : Distance.HandAreas) →
    Distance.HandOutcome chosen starts heads weights s t before (said_distance x) a → BareDistance x →
    Distance.HandOutcome chosen starts heads weights s t before (said_distance y) b → BareDistance y → (x ≡ y) × (a ≡ b)
handheld_one chosen starts heads weights s t before =
    distance_form (Distance.HandOutcome chosen starts heads weights s t before) (λ s t a b o p. Distances.hand_one o p)

pub any_pair_one :
    (starts heads weights chosen starts' heads' weights' : List ℕ) (s t : ℕ) (before : Distance.PairAreas) (x y : GulvaneDistance) (a b : Distance.PairAreas) →
    Distance.PairOutcome starts heads weights chosen starts' heads' weights' s t before (said_distance x) a → BareDistance x →
    Distance.PairOutcome starts heads weights chosen starts' heads' weights' s t before (said_distance y) b → BareDistance y → (x ≡ y) × (a ≡ b)
any_pair_one starts heads weights chosen starts' heads' weights' s t before =
    distance_form (Distance.PairOutcome starts heads weights chosen starts' heads' weights' s t before) (λ s t a b o p. Distances.pair_one o p)
