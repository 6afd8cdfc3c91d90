-- What the code is asked for, and what it leaves.
use Rattle.std.specs.Prelude.{◌≡◌, List, ℕ, ◌+◌, ◌≤◌, ◌<◌, length}
use Rattle.hexlines.specs.Outputs.{Out, text_of}
use Rattle.hexlines.specs.Writers.{Writes}
use Rattle.hexlines.specs.declared.Writer.{Writer}
use Rattle.frames.specs.declared.State.{State}
use Rattle.frames.specs.declared.Load.{Load}
use Rattle.frames.specs.declared.Sizes.{Sizes}
use Rattle.frames.specs.declared.Phase.{Phase}
use Rattle.frames.specs.declared.Phase.TheVariants.{Begun, Loading, Asking, Stopped}
use Rattle.frames.specs.Steps.{Stage}

-- a stage and lines of which P holds, the lines being printed
pub record Printed (P : Stage → List Out → Type 0) (after : Stage) (w w' : Writer) : Type 0 where
  pub outs : List Out
  pub does : P after outs
  pub wrote : Writes w (text_of outs) w'

-- the most characters that the moment of building prints: its counts, 512 nodes and 4,096 arcs
abbrev pub map_room : ℕ
map_room = 81419

-- room for them
abbrev pub MapRoom : Writer → Type 0
MapRoom w = w.at + map_room ≤ length w.buf.now

-- a graph that is being read is within the areas, and arcs are missing
pub record LoadFits (load : Load) : Type 0 where
  pub nodes : load.n.0 ≤ 512
  pub arcs : load.m.0 ≤ 2048
  pub more : load.count.0 < load.m.0

-- a map is within the areas
pub record MapFits (map : Sizes) : Type 0 where
  pub nodes : map.n.0 ≤ 512
  pub arcs : map.m.0 ≤ 2048
  pub over : map.over.0 ≤ 4096

abbrev pub Within : Phase → Type 0
Within Begun = Unit {0}
Within (Loading load) = LoadFits load
Within (Asking map) = MapFits map
Within Stopped = Unit {0}

-- what is known of the counts by the phase: before the head no line is read, and each line after it was an arc
abbrev pub Counted : Phase → ℕ → Type 0
Counted Begun lines = lines ≡ 0
Counted (Loading load) lines = lines ≡ load.count.0 + 1
Counted (Asking map) lines = Unit {0}
Counted Stopped lines = Unit {0}

-- what the state keeps within its limits
pub record Good (s : State) : Type 0 where
  pub lines : s.lines ≤ 65535
  pub within : Within s.phase
  pub counted : Counted s.phase s.lines
