-- The call: what its checks leave, and from them to the outcome.
use mathlib.Core.Path.{◌≡◌, sym, ap, subst, subst₂, ◌∙◌}
use mathlib.Core.Logic.{◌⊎◌, inl, inr, ◌≢◌}
use mathlib.Core.List.{List, [], ◌∷◌, ◌++◌}
use Prim.Native.Nat.{ℕ, zero, suc, ◌+◌, ◌≤◌, ◌<◌}
use native.Mathlib.Decide.{ℕ_discrete, dec_lt, dec_le}
use native.Mathlib.Omega.{arith}
use lib.ListN.{length, get_or, drop}
use Rattle.road.specs.declared.Refusal.{Refusal}
use Rattle.std.specs.Prelude.{Result, Ok, Err}
use Rattle.std.specs.Result.{IsErrAnd}
use Rattle.road.specs.Chains.{drive_faults}
use Rattle.road.specs.Drives.{Joined, BadDrive, none, many, outside, apart}
use Rattle.road.specs.Faults.{length_fault}
use Rattle.road.specs.Limits.{most_drive, road_limits}
use Rattle.road.specs.Refusals.{None, Said, refusal, answer}
use Rattle.road.specs.workings.Left.{DriveLeft}
use Rattle.road.proofs.Left.{drive_left}
use Rattle.road.specs.workings.Verdicts.{Verdict, Judged, Judges}
use Rattle.road.specs.Roads.{nodes_of, Owns}
use Rattle.road.specs.workings.Sound.{Sound}
use Rattle.road.proofs.Faults.{not_over, not_unlike}
use Rattle.road.proofs.Refusals.{judged_alone, stops, goes_on, unheld}
use Rattle.drive.specs.declared.PositionCount.{PositionCount}
use Rattle.drive.specs.Calls.{Outcome, refused, thinned, faults_of, said_of}
use Rattle.drive.specs.Thinning.{IsDrive}
use Rattle.drive.specs.workings.Picking.{Fits, Picking}
use Rattle.drive.proofs.Picks.{picking_end}

-- whether two nodes are joined is decided: there are only so many places
module _ (starts heads : List ℕ) (u v : ℕ) where
  -- the arc at place p joins them
  record Here (p : ℕ) : Type 0 where
    owned : Owns starts u p
    head : get_or heads p 0 ≡ v

  here? : (p : ℕ) → Here p ⊎ (Here p → ⊥)
  here? p = by (dec_le (get_or starts u 0) p) (dec_lt p (get_or starts (u + 1) 0)) (ℕ_discrete (get_or heads p 0) v)
    where
      by : Dec (get_or starts u 0 ≤ p) → Dec (p < get_or starts (u + 1) 0) → Dec (get_or heads p 0 ≡ v) → Here p ⊎ (Here p → ⊥)
      by (yes a) (yes b) (yes c) = inl (record { owned = record { from = a; below = b }; head = c })
      by (no a) b c = inr (λ h. a h.owned.from)
      by (yes a) (no b) c = inr (λ h. b h.owned.below)
      by (yes a) (yes b) (no c) = inr (λ h. c h.head)

  among : (n : ℕ) → ((p : ℕ) × (p < n) × Here p) ⊎ ((p : ℕ) → p < n → Here p → ⊥)
  among zero = inr (λ p h a. omega arith)
  among (suc n) = by (here? n) (among n)
    where
      by : Here n ⊎ (Here n → ⊥) → ((p : ℕ) × (p < n) × Here p) ⊎ ((p : ℕ) → p < n → Here p → ⊥) → ((p : ℕ) × (p < suc n) × Here p) ⊎ ((p : ℕ) → p < suc n → Here p → ⊥)
      by (inl a) r = inl (n, omega arith, a)
      by (inr a) (inl b) = inl (b.0, omega (arith, b.1), b.2)
      by (inr a) (inr b) = inr (λ p h o. last p h o (ℕ_discrete p n))
        where
          last : (p : ℕ) → p < suc n → Here p → Dec (p ≡ n) → ⊥
          last p h o (yes e) = a (subst Here e o)
          last p h o (no d) = b p (omega (arith, d)) o

  pub joined_if_not_apart : ((Joined starts heads u v → ⊥) → ⊥) → Joined starts heads u v
  joined_if_not_apart f = by (among (length heads))
    where
      by : ((p : ℕ) × (p < length heads) × Here p) ⊎ ((p : ℕ) → p < length heads → Here p → ⊥) → Joined starts heads u v
      by (inl a) = record { place = a.0; listed = a.1; owned = a.2.owned; head = a.2.head }
      by (inr a) = absurd (f (λ j. a j.place j.listed (record { owned = j.owned; head = j.head })))

-- a list that check 10 does not refuse is a drive
pub drive_of : (starts heads drive : List ℕ) → (BadDrive starts heads drive → ⊥) → IsDrive starts heads drive
drive_of starts heads drive n =
    record {
      nodes = λ i h. not_over (suc (get_or drive i 0)) (nodes_of starts) (λ l. n (outside i h (omega arith)));
      joins = λ i h. joined_if_not_apart starts heads (get_or drive i 0) (get_or drive (i + 1) 0) (λ a. n (apart i h a));
    }

-- and a drive of 1 to 4,096 nodes is not refused
pub drive_passes : (starts heads drive : List ℕ) → IsDrive starts heads drive → length drive ≢ 0 → length drive ≤ most_drive → BadDrive starts heads drive → ⊥
drive_passes starts heads drive d a b (none h) = a h
drive_passes starts heads drive d a b (many h) = omega arith
drive_passes starts heads drive d a b (outside i h o) = omega (arith, d.nodes i h)
drive_passes starts heads drive d a b (apart i h o) = o (d.joins i h)

-- what no fault of the input says
module _ (starts heads weights bytes drive : List ℕ) (n : None (drive_faults starts heads weights bytes drive)) where
  left : DriveLeft starts heads weights bytes drive
  left = drive_left starts heads weights bytes drive n

  pub input_sound : Sound road_limits starts heads weights
  input_sound = left.road_and_set.sound

  pub input_drive : IsDrive starts heads drive
  input_drive = drive_of starts heads drive left.drive_right

  pub input_fits : (positions : List ℕ) → length positions ≡ length drive → Fits bytes drive positions
  input_fits positions e =
      record {
        nodes = λ i h. omega (arith, input_drive.nodes i h, left.road_and_set.set_right.bytes);
        few = not_over (length drive) most_drive (λ h. left.drive_right (many h));
        room = e;
      }

-- what `?` hands on says the refusal
handed_said : (w : Result PositionCount Refusal) (r : Refusal) → IsErrAnd w (λ s. s ≡ r) → said_of w ≡ refusal r
handed_said (Ok x) r h = elim h [ ]
handed_said (Err s) r h = ap refusal h

-- From the checks to the outcome.
module _ (starts heads weights bytes drive positions : List ℕ) where
  pub refused_early :
      (v : Verdict) (r : Refusal) (w : Result PositionCount Refusal) → Judges (drive_faults starts heads weights bytes drive) v → v ≡ Err r → IsErrAnd w (λ s. s ≡ r) →
      Outcome starts heads weights bytes drive positions (said_of w) positions
  refused_early v r w j e h =
      subst (λ (s : Said). Outcome starts heads weights bytes drive positions s positions) (sym (handed_said w r h))
      (refused ((stops (drive_faults starts heads weights bytes drive) (length_fault (length positions) (length drive) ∷ []) e j).refused r e))

  module _ (u : Verdict) (j : Judges (drive_faults starts heads weights bytes drive) u) (p : u ≡ Ok tt) (v : Verdict) (l : Judged (length_fault (length positions) (length drive)) v) where
    all_judged : Judges (faults_of starts heads weights bytes drive positions) v
    all_judged = goes_on (drive_faults starts heads weights bytes drive) (length_fault (length positions) (length drive) ∷ []) p j (judged_alone l)

    pub refused_late : (r : Refusal) (w : Result PositionCount Refusal) → v ≡ Err r → IsErrAnd w (λ s. s ≡ r) → Outcome starts heads weights bytes drive positions (said_of w) positions
    refused_late r w e h =
        subst (λ (s : Said). Outcome starts heads weights bytes drive positions s positions) (sym (handed_said w r h)) (refused (all_judged.refused r e))

    module _ (q : v ≡ Ok tt) where
      pub fits : Fits bytes drive positions
      fits = input_fits starts heads weights bytes drive (j.passed p) positions (not_unlike (length positions) (length drive) (unheld (l.passed q)))

      pub thinned_so :
          (positions' : List ℕ) (count : ℕ) → Picking bytes drive positions (length drive) positions' count →
          Outcome starts heads weights bytes drive positions (answer (count ∷ [])) positions'
      thinned_so positions' count b =
          subst₂ (λ (c : ℕ) (x : List ℕ). Outcome starts heads weights bytes drive positions (answer (c ∷ [])) x) b.count_right
          (ap (λ (c : ℕ). b.kept ++ drop c positions) b.count_right ∙ sym b.whole)
          (thinned (all_judged.passed q) (picking_end bytes drive positions positions' count b))
