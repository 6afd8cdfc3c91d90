-- The stage that the code's state and the lent areas stand for, and what a call leaves.
use Rattle.std.specs.Prelude.{◌≡◌, Bool, true, false, List, ℕ, ◌+◌, take}
use Rattle.hexlines.specs.Outputs.{Out}
use Rattle.hexlines.specs.declared.Writer.{Writer}
use Rattle.frames.specs.declared.Areas.{Areas}
use Rattle.frames.specs.declared.Load.{Load}
use Rattle.frames.specs.declared.Sizes.{Sizes}
use Rattle.frames.specs.declared.State.{State}
use Rattle.frames.specs.declared.Phase.{Phase}
use Rattle.frames.specs.declared.Phase.TheVariants.{Begun, Loading, Asking, Stopped}
use Rattle.frames.specs.Held.{Good, Printed}
use Rattle.frames.specs.Steps.{Map, Stage, line, unended, end, begun, loading, asking, stopped, Step}

-- the map that stands at the front of its areas
abbrev pub map_of : ℕ → ℕ → ℕ → List ℕ → List ℕ → List ℕ → List ℕ → List ℕ → List ℕ → List ℕ → Map
map_of n m over s h w c s' h' w' =
    record {
      starts = take (n + 1) s;
      heads = take m h;
      weights = take m w;
      chosen = take n c;
      over_starts = take (n + 1) s';
      over_heads = take over h';
      over_weights = take over w';
    }

abbrev pub map_in : Sizes → Areas → Map
map_in map A =
    map_of map.n.0 map.m.0 map.over.0 A.starts A.heads A.weights A.set A.over_starts A.over_heads A.over_weights

-- the arcs that are read stand at the front of theirs
abbrev pub loading_in : Load → Areas → Stage
loading_in load A =
    loading load.n.0 load.m.0 load.k.0 (take load.count.0 A.tails) (take load.count.0 A.heads) (take load.count.0 A.weights)

abbrev pub stage_by : Phase → Areas → Stage
stage_by Begun A = begun
stage_by (Loading load) A = loading_in load A
stage_by (Asking map) A = asking (map_in map A)
stage_by Stopped A = stopped

abbrev pub stage : State → Areas → Stage
stage s A = stage_by s.phase A

-- whether the program takes more lines
abbrev pub goes : Phase → Bool
goes Begun = true
goes (Loading load) = true
goes (Asking map) = true
goes Stopped = false

-- a state that takes more lines, within its limits
pub record Goes (s : State) : Type 0 where
  pub going : goes s.phase ≡ true
  pub good : Good s

-- what a call leaves that took line ℓ: a stage and lines of which P holds, a state within its limits, and, while it goes on, the line
-- counted
pub record Left
    (P : Stage → List Out → Type 0) (ℓ : ℕ) (s : State) (A : Areas) (w w' : Writer) : Type 0 where
  pub printed : Printed P (stage s A) w w'
  pub good : Good s
  pub lines : goes s.phase ≡ true → s.lines ≡ ℓ

-- a line is taken
abbrev pub TookLine : State → Areas → List ℕ → State → Areas → Writer → Writer → Type 0
TookLine s A bytes = Left (Step (s.lines + 1) (stage s A) (line bytes)) (s.lines + 1)

-- bytes that no line feed ends are taken, whatever they are and whatever the areas hold
pub record TookUnended (s s' : State) (w w' : Writer) : Type 0 where
  pub step : (A : Areas) (bytes : List ℕ) → Left (Step (s.lines + 1) (stage s A) (unended bytes)) (s.lines + 1) s' A w w'

-- the end of the input is taken
pub record TookEnd (s s' : State) (w w' : Writer) : Type 0 where
  pub step : (A : Areas) → Left (Step (s.lines + 1) (stage s A) end) (s.lines + 1) s' A w w'

-- the state before the first line
pub record Starts (s : State) : Type 0 where
  pub good : Good s
  pub lines : s.lines ≡ 0
  pub is : (A : Areas) → stage s A ≡ begun
