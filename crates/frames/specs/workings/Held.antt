-- What the code is asked for, and what it leaves.
use Rattle.std.specs.Prelude.{◌≡◌, List, ℕ, ◌+◌, ◌≤◌, length, take, Result, Ok, Err}
use Rattle.road.specs.declared.ArcCount.{ArcCount}
use Rattle.road.specs.declared.Graph.{Graph}
use Rattle.road.specs.declared.Refusal.{Refusal}
use Rattle.road.specs.Chains.{cover_faults}
use Rattle.road.specs.Counting.{times}
use Rattle.road.specs.Refusals.{None}
use Rattle.road.specs.Roads.{nodes_of, road}
use Rattle.rule.specs.Rule.{PathOf, Pruned}
use Rattle.hexlines.specs.Outputs.{Out, text_of}
use Rattle.hexlines.specs.Writers.{Writes}
use Rattle.hexlines.specs.declared.Writer.{Writer}
use Rattle.maps.specs.Lists.{numbers, starts_of}
use Rattle.readings.specs.declared.Line.{Line}
use Rattle.readings.specs.declared.Line.TheVariants.{Head, Arc, Question, Drive}
use Rattle.frames.specs.declared.Areas.{Areas}
use Rattle.frames.specs.declared.Lent.{Lent}
use Rattle.frames.specs.declared.Load.{Load}
use Rattle.frames.specs.declared.Phase.{Phase}
use Rattle.frames.specs.declared.Phase.TheVariants.{Begun, Loading, Asking, Stopped}
use Rattle.frames.specs.Steps.{Map, Stage, asking, stopped, Builds, Loads, Answers, Thins, refused_by}
use Rattle.frames.specs.Held.{Counted, MapRoom, Within}

-- the lists of a graph, its cover and its overlay
abbrev pub map_lists : Graph → List ℕ → List ℕ → List ℕ → List ℕ → Map
map_lists graph chosen over_starts over_heads over_weights =
    record {
      starts = graph.starts.now;
      heads = graph.heads.now;
      weights = graph.weights.now;
      chosen = chosen;
      over_starts = over_starts;
      over_heads = over_heads;
      over_weights = over_weights;
    }

-- those of a map that is lent
abbrev pub lists_of : Lent → Map
lists_of map = map_lists map.graph map.set.now map.overlay.starts.now map.overlay.heads.now map.overlay.weights.now

-- what a step does at any line's number: a stage and lines of which P holds, the lines being printed
pub record Prints (P : ℕ → Stage → List Out → Type 0) (after : Stage) (w w' : Writer) : Type 0 where
  pub outs : List Out
  pub does : (ℓ : ℕ) → P ℓ after outs
  pub wrote : Writes w (text_of outs) w'

-- it is refused, P holding of the refusal's line, and nothing is printed yet
pub record Refuses (P : ℕ → Stage → List Out → Type 0) (r : Refusal) (w w' : Writer) : Type 0 where
  pub does : (ℓ : ℕ) → P ℓ stopped (refused_by r ℓ)
  pub same : w' ≡ w

-- one or the other, by the answer, which tells the stage after
abbrev pub Leaves : {A : Type 0} → (ℕ → Stage → List Out → Type 0) → (A → Stage) → Result A Refusal → Writer → Writer → Type 0
Leaves P after (Ok a) w w' = Prints P (after a) w w'
Leaves P after (Err r) w w' = Refuses P r w w'

-- a question is answered, or refused
abbrev pub Answered : Map → ℕ → ℕ → Result (Unit {0}) Refusal → Writer → Writer → Type 0
Answered M a b = Leaves (λ ℓ. Answers ℓ M a b) (λ u. asking M)

-- the same of a drive
abbrev pub Thinned : Map → List ℕ → Result (Unit {0}) Refusal → Writer → Writer → Type 0
Thinned M nodes = Leaves (λ ℓ. Thins ℓ M nodes) (λ u. asking M)

-- lengths that fit one another and the program's limits, and room for the map's lines
pub record BuildFits (starts heads : List ℕ) (w : Writer) : Type 0 where
  pub some : 1 ≤ length starts
  pub nodes : length starts ≤ 513
  pub arcs : length heads ≤ 2048
  pub space : MapRoom w

-- the same once the cover is there
pub record LayFits (starts heads chosen starts' heads' weights' : List ℕ) (w : Writer) : Type 0 where
  pub some : 1 ≤ length starts
  pub nodes : length starts ≤ 513
  pub arcs : length heads ≤ 2048
  pub bytes : length chosen ≡ nodes_of starts
  pub over_long : length starts' ≡ nodes_of starts + 1
  pub room : length heads' ≡ 4096
  pub rooms : length weights' ≡ 4096
  pub space : MapRoom w

-- the map whose overlay's arcs stand at the front of their slices
abbrev pub map_over : Map → ArcCount → Map
map_over M over =
    record {
      starts = M.starts;
      heads = M.heads;
      weights = M.weights;
      chosen = M.chosen;
      over_starts = M.over_starts;
      over_heads = take over.0 M.over_heads;
      over_weights = take over.0 M.over_weights;
    }

-- the moment of building once the cover is there, which is right for some k and has so many points
abbrev pub lays_in : ℕ → Map → ℕ → Stage → List Out → Type 0
lays_in points M ℓ s outs =
    (k : ℕ) → None (cover_faults M.starts M.heads M.weights k (numbers 0 (nodes_of M.starts))) →
    Pruned (PathOf (road M.starts M.heads M.weights) k) (nodes_of M.starts) (numbers 0 (nodes_of M.starts)) M.chosen → points ≡ times 1 M.chosen →
    Builds ℓ M.starts M.heads M.weights k s outs

-- the overlay of a cover is built and the map printed, or it is refused
abbrev pub Laid : ℕ → Map → Result ArcCount Refusal → Writer → Writer → Type 0
Laid points M = Leaves (lays_in points M) (λ over. asking (map_over M over))

-- the map whose cover and overlay stand at the front of their slices
abbrev pub map_front : Map → ArcCount → Map
map_front M over =
    record {
      starts = M.starts;
      heads = M.heads;
      weights = M.weights;
      chosen = take (nodes_of M.starts) M.chosen;
      over_starts = take (length M.starts) M.over_starts;
      over_heads = take over.0 M.over_heads;
      over_weights = take over.0 M.over_weights;
    }

-- the map is built and printed, or that is refused
abbrev pub Built : ℕ → Map → Result ArcCount Refusal → Writer → Writer → Type 0
Built k M = Leaves (λ ℓ. Builds ℓ M.starts M.heads M.weights k) (λ over. asking (map_front M over))

-- the moment of building, with the arcs at the front of the areas
abbrev pub builds_in : Load → Areas → ℕ → Stage → List Out → Type 0
builds_in load A ℓ =
    Builds ℓ (starts_of load.n.0 (take load.m.0 A.tails)) (take load.m.0 A.heads) (take load.m.0 A.weights) load.k.0

-- the moment after the head or an arc
abbrev pub loads_in : Load → Areas → ℕ → Stage → List Out → Type 0
loads_in load A ℓ =
    Loads ℓ load.n.0 load.m.0 load.k.0 (take load.count.0 A.tails) (take load.count.0 A.heads) (take load.count.0 A.weights)

-- the number of the line that comes next
abbrev pub Next : Phase → ℕ → Type 0
Next Begun ℓ = ℓ ≡ 1
Next (Loading load) ℓ = ℓ ≡ load.count.0 + 2
Next (Asking map) ℓ = Unit {0}
Next Stopped ℓ = Unit {0}

-- a phase within its limits, and that its counts are right after a line of whose number C holds
pub record Kept (C : ℕ → Type 0) (p : Phase) : Type 0 where
  pub within : Within p
  pub counted : (ℓ : ℕ) → C ℓ → Counted p ℓ

-- the numbers that are read are within the program's limits
abbrev pub Limited : Line → Type 0
Limited (Head n m k) = (n.0 ≤ 512) × (m.0 ≤ 2048)
Limited (Arc t h w) = Unit {0}
Limited (Question a b) = Unit {0}
Limited (Drive count) = count ≤ 64
