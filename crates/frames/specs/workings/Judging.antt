-- The step on its way from what is read.
use Rattle.std.specs.Prelude.{◌≡◌, Bool, true, false, List, ℕ, ◌-◌, ◌≤◌, ◌<◌, length, get_or, take, Option, Some, None}
use Rattle.road.specs.declared.Refusal.{Refusal}
use Rattle.road.specs.declared.Refusal.TheVariants as R
use Rattle.hexlines.specs.Outputs.{Out, text_of}
use Rattle.hexlines.specs.Writers.{Writes}
use Rattle.hexlines.specs.declared.Writer.{Writer}
use Rattle.readings.specs.declared.Line.{Line}
use Rattle.readings.specs.declared.Line.TheVariants.{Head, Arc, Question, Drive}
use Rattle.readings.specs.Frames.{Frame, head, arc, question, drive}
use Rattle.frames.specs.declared.State.{State}
use Rattle.frames.specs.declared.Phase.TheVariants.{Stopped}
use Rattle.frames.specs.Held.{Good}
use Rattle.frames.specs.Steps.{Stage, Step, stopped, line, most_lines, Due, Does, refused_by}

-- the state once a line is refused
pub record Halted (r : Refusal) (ℓ : ℕ) (s : State) (w w' : Writer) : Type 0 where
  pub good : Good s
  pub halts : s.phase ≡ Stopped
  pub wrote : Writes w (text_of (refused_by r ℓ)) w'

-- whether a tail is at or above n, or below the last of those before it
pub record Falls (falls : Bool) (n t : ℕ) (tails : List ℕ) : Type 0 where
  pub yes : falls ≡ true → t < n → get_or tails (length tails - 1) 0 ≤ t → ⊥
  pub no : falls ≡ false → (t < n) × (get_or tails (length tails - 1) 0 ≤ t)

-- the frame that the code tells, a drive's nodes standing at the front of the slice for them
abbrev pub Says : Option Line → List ℕ → Frame → Type 0
Says (Some (Head n m k)) nodes f = f ≡ head n.0 m.0 k.0
Says (Some (Arc t h w)) nodes f = f ≡ arc t h w
Says (Some (Question a b)) nodes f = f ≡ question a b
Says (Some (Drive count)) nodes f = f ≡ drive (take count nodes)
Says None nodes f = ⊥

-- what it does in stage s at line ℓ: no frame that may come now, or one that may
pub data Judged (s : Stage) (read : Option Line) (nodes : List ℕ) (ℓ : ℕ) : Stage → List Out → Type 0 where
  undue : ((f : Frame) → Says read nodes f → Due s f → ⊥) → Judged s read nodes ℓ stopped (refused_by R.Line ℓ)
  due : {f : Frame} {s' : Stage} {outs : List Out} → Says read nodes f → Due s f → Does ℓ s f s' outs → Judged s read nodes ℓ s' outs

-- the step of a line that is not beyond the most
abbrev pub Takes : Stage → List ℕ → ℕ → Stage → List Out → Type 0
Takes s bytes ℓ s' outs = ℓ ≤ most_lines → Step ℓ s (line bytes) s' outs
