-- Wrong steps that the definition rules out.
--   own_line       a refusal carries the number of its own line, not that of the line before
--   tail_at_n      a tail at n is refused by 13 as it is read, and not by another number later
use mathlib.Core.Path.{◌≡◌, refl, subst}
use mathlib.Core.List.{List, [], ◌∷◌}
use Prim.Native.Nat.{ℕ, ◌≤◌}
use native.Mathlib.Omega.{arith}
use Rattle.hexlines.specs.Outputs.{Out, counts, point, way, no_way, kept, refused}
use Rattle.hexlines.specs.Outputs as Outputs
use Rattle.readings.specs.Frames.{Frame, arc, ReadAs}
use Rattle.readings.proofs.Unique.{read_one}
use Rattle.road.specs.declared.Refusal.TheVariants.{Line}
use Rattle.frames.specs.Steps.{Stage, Input, line, loading, most_lines, drive_room, refused_by, Builds, Loads, Answers, Thins, Due, Does, Step}

-- what the first line printed carries, where it is a refusal
abbrev Carries : ℕ → List Out → Type 0
Carries ℓ [] = Unit {0}
Carries ℓ (counts n m ∷ os) = Unit {0}
Carries ℓ (point v ∷ os) = Unit {0}
Carries ℓ (Outputs.arc t h w ∷ os) = Unit {0}
Carries ℓ (way a b d ∷ os) = Unit {0}
Carries ℓ (no_way a b ∷ os) = Unit {0}
Carries ℓ (kept ps ∷ os) = Unit {0}
Carries ℓ (refused r m ∷ os) = m ≡ ℓ

module _ {ℓ : ℕ} where
  built_line : {starts heads weights : List ℕ} {k : ℕ} {s : Stage} {outs : List Out} → Builds ℓ starts heads weights k s outs → Carries ℓ outs
  built_line (Builds.no_cover f) = refl
  built_line (Builds.no_overlay n p f) = refl
  built_line (Builds.no_room n p m t) = refl
  built_line (Builds.built n p m t o) = tt

  loaded_line : {n m k : ℕ} {tails heads weights : List ℕ} {s : Stage} {outs : List Out} → Loads ℓ n m k tails heads weights s outs → Carries ℓ outs
  loaded_line (Loads.more h) = tt
  loaded_line (Loads.complete h b) = built_line b

  done_line : {s s' : Stage} {f : Frame} {outs : List Out} → Does ℓ s f s' outs → Carries ℓ outs
  done_line (Does.begins l) = loaded_line l
  done_line (Does.loads l) = loaded_line l
  done_line (Does.answers (Answers.not_asked f)) = refl
  done_line (Does.answers (Answers.a_way n l)) = tt
  done_line (Does.answers (Answers.none n e)) = tt
  done_line (Does.thins (Thins.no_drive f)) = refl
  done_line (Does.thins (Thins.thinned n t)) = tt

  pub own_line : {s s' : Stage} {i : Input} {outs : List Out} → Step ℓ s i s' outs → ℓ ≤ most_lines → Carries ℓ outs
  own_line (Step.beyond r h) l = absurd (omega arith)
  own_line (Step.beyond_unended r h) l = absurd (omega arith)
  own_line (Step.cut_off r h) l = refl
  own_line (Step.wrong r h n) l = refl
  own_line (Step.taken h r d x) l = done_line x
  own_line Step.missing_head l = refl
  own_line Step.missing_arc l = refl
  own_line Step.good_end l = tt

not_due : {n m k : ℕ} {tails heads weights : List ℕ} {t h w : ℕ} → n ≤ t → Due (loading n m k tails heads weights) (arc t h w) → ⊥
not_due b (Due.next p q) = omega arith

pub tail_at_n :
    {ℓ n m k : ℕ} {tails heads weights : List ℕ} {t h w : ℕ} {s : Stage} {bytes : List ℕ} {outs : List Out} → Step ℓ (loading n m k tails heads weights) (line bytes) s outs →
    ReadAs drive_room bytes (arc t h w) → n ≤ t → ℓ ≤ most_lines → outs ≡ refused_by Line ℓ
tail_at_n (Step.beyond r x) a b c = absurd (omega arith)
tail_at_n (Step.wrong r l x) a b c = refl
tail_at_n {n = n} {m = m} {k = k} {tails = tails} {heads = heads} {weights = weights} {t = t} {h = h} {w = w} {bytes = bytes} (Step.taken {f = f} l r d x) a b c =
    absurd (not_due b (subst (Due (loading n m k tails heads weights)) (read_one drive_room bytes f (arc t h w) r a) d))
