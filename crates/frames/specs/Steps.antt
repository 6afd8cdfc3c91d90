-- The program's state, and what each line does to it.
use Rattle.std.specs.Prelude.{List, [], ◌∷◌, ◌++◌, ℕ, ◌-◌, ◌≤◌, ◌<◌, length, get_or}
use Rattle.paths.specs.Least.{Least, Empty}
use Rattle.road.specs.declared.Refusal.{Refusal}
use Rattle.road.specs.declared.Refusal.TheVariants.{Line, Room}
use Rattle.road.specs.Chains.{cover_faults, road_and_set_faults, drive_faults}
use Rattle.road.specs.Counting.{times}
use Rattle.road.specs.Refusals.{First, None, number_of}
use Rattle.road.specs.Roads.{nodes_of, road}
use Rattle.rule.specs.Rule.{PathOf, Pruned}
use Rattle.overlay.specs.Calls.{TooMany}
use Rattle.overlay.specs.Overlays.{OverlayOf}
use Rattle.distance.specs.Calls.{pair_input}
use Rattle.distance.specs.Questions.{AnyPair}
use Rattle.drive.specs.Thinning.{ThinnedDrive}
use Rattle.hexlines.specs.Outputs.{Out, counts, way, no_way, kept, refused}
use Rattle.readings.specs.Frames.{Frame, head, arc, question, drive, ReadAs}
use Rattle.maps.specs.Lists.{numbers, starts_of, point_lines, arc_lines}

-- what comes: a line without its line feed; bytes, at least one, that no line feed ends; or the end of the input
pub data Input : Type 0 where
  line : (bytes : List ℕ) → Input
  unended : (bytes : List ℕ) → Input
  end : Input

-- what the questions are asked of: the graph, the cover and the overlay
pub record Map : Type 0 where
  pub starts : List ℕ
  pub heads : List ℕ
  pub weights : List ℕ
  pub chosen : List ℕ
  pub over_starts : List ℕ
  pub over_heads : List ℕ
  pub over_weights : List ℕ

-- how far the program is: no line is read; the head and some arcs are; the graph is complete; it has stopped
pub data Stage : Type 0 where
  begun : Stage
  loading : (n m k : ℕ) (tails heads weights : List ℕ) → Stage
  asking : Map → Stage
  stopped : Stage

-- the limits of the program: lines, overlay arcs, nodes of a drive
abbrev pub most_lines : ℕ
most_lines = 65535

abbrev pub over_room : ℕ
over_room = 4096

abbrev pub drive_room : ℕ
drive_room = 64

-- a refusal stops the program; it carries the line's number
abbrev pub refused_by : Refusal → ℕ → List Out
refused_by r ℓ = refused (number_of r) ℓ ∷ []

-- the moment of building, at line ℓ: the cover in ascending node order, then its overlay. Each is refused by the first fault that holds.
pub data Builds (ℓ : ℕ) (starts heads weights : List ℕ) (k : ℕ) : Stage → List Out → Type 0 where
  no_cover :
      {r : Refusal} → First (cover_faults starts heads weights k (numbers 0 (nodes_of starts))) r → Builds ℓ starts heads weights k stopped (refused_by r ℓ)
  no_overlay :
      {r : Refusal} {cover : List ℕ} → None (cover_faults starts heads weights k (numbers 0 (nodes_of starts))) →
      Pruned (PathOf (road starts heads weights) k) (nodes_of starts) (numbers 0 (nodes_of starts)) cover → First (road_and_set_faults starts heads weights cover) r →
      Builds ℓ starts heads weights k stopped (refused_by r ℓ)
  no_room :
      {cover : List ℕ} → None (cover_faults starts heads weights k (numbers 0 (nodes_of starts))) →
      Pruned (PathOf (road starts heads weights) k) (nodes_of starts) (numbers 0 (nodes_of starts)) cover → None (road_and_set_faults starts heads weights cover) →
      TooMany (road starts heads weights) cover over_room → Builds ℓ starts heads weights k stopped (refused_by Room ℓ)
  built :
      {cover starts' heads' weights' : List ℕ} → None (cover_faults starts heads weights k (numbers 0 (nodes_of starts))) →
      Pruned (PathOf (road starts heads weights) k) (nodes_of starts) (numbers 0 (nodes_of starts)) cover → None (road_and_set_faults starts heads weights cover) →
      (TooMany (road starts heads weights) cover over_room → ⊥) → OverlayOf (road starts heads weights) cover starts' heads' weights' →
      Builds ℓ starts heads weights k
      (asking
      (record {
        starts = starts;
        heads = heads;
        weights = weights;
        chosen = cover;
        over_starts = starts';
        over_heads = heads';
        over_weights = weights';
      }))
      (counts (times 1 cover) (length heads') ∷ point_lines 0 cover ++ arc_lines starts' heads' weights' (nodes_of starts))

-- arcs are read: more are to come, or the graph is complete
pub data Loads (ℓ n m k : ℕ) (tails heads weights : List ℕ) : Stage → List Out → Type 0 where
  more : length tails < m → Loads ℓ n m k tails heads weights (loading n m k tails heads weights) []
  complete : {s : Stage} {outs : List Out} → m ≤ length tails → Builds ℓ (starts_of n tails) heads weights k s outs → Loads ℓ n m k tails heads weights s outs

-- a question at line ℓ: the any-pair question
pub data Answers (ℓ : ℕ) (M : Map) (a b : ℕ) : Stage → List Out → Type 0 where
  not_asked :
      {r : Refusal} → First (pair_input M.starts M.heads M.weights M.chosen M.over_starts M.over_heads M.over_weights a b) r →
      Answers ℓ M a b stopped (refused_by r ℓ)
  a_way :
      {d : ℕ} → None (pair_input M.starts M.heads M.weights M.chosen M.over_starts M.over_heads M.over_weights a b) →
      Least
      (AnyPair (road M.starts M.heads M.weights) (road M.over_starts M.over_heads M.over_weights) M.chosen a b)
      d →
      Answers ℓ M a b (asking M) (way a b d ∷ [])
  none :
      None (pair_input M.starts M.heads M.weights M.chosen M.over_starts M.over_heads M.over_weights a b) →
      Empty
      (AnyPair (road M.starts M.heads M.weights) (road M.over_starts M.over_heads M.over_weights) M.chosen a b) →
      Answers ℓ M a b (asking M) (no_way a b ∷ [])

-- a drive at line ℓ
pub data Thins (ℓ : ℕ) (M : Map) (nodes : List ℕ) : Stage → List Out → Type 0 where
  no_drive : {r : Refusal} → First (drive_faults M.starts M.heads M.weights M.chosen nodes) r → Thins ℓ M nodes stopped (refused_by r ℓ)
  thinned :
      {positions : List ℕ} → None (drive_faults M.starts M.heads M.weights M.chosen nodes) → ThinnedDrive M.chosen nodes positions →
      Thins ℓ M nodes (asking M) (kept positions ∷ [])

-- the frame may come now: the head first; then arcs, each tail below n and not below the former (before the first there is none, and
-- `get_or` gives 0); then questions and drives
pub data Due : Stage → Frame → Type 0 where
  first : {n m k : ℕ} → Due begun (head n m k)
  next :
      {n m k : ℕ} {tails heads weights : List ℕ} {t h w : ℕ} → t < n → get_or tails (length tails - 1) 0 ≤ t →
      Due (loading n m k tails heads weights) (arc t h w)
  asked : {M : Map} {a b : ℕ} → Due (asking M) (question a b)
  driven : {M : Map} {nodes : List ℕ} → Due (asking M) (drive nodes)

-- what it then does
pub data Does (ℓ : ℕ) : Stage → Frame → Stage → List Out → Type 0 where
  begins : {n m k : ℕ} {s : Stage} {outs : List Out} → Loads ℓ n m k [] [] [] s outs → Does ℓ begun (head n m k) s outs
  loads :
      {n m k : ℕ} {tails heads weights : List ℕ} {t h w : ℕ} {s : Stage} {outs : List Out} →
      Loads ℓ n m k (tails ++ (t ∷ [])) (heads ++ (h ∷ [])) (weights ++ (w ∷ [])) s outs →
      Does ℓ (loading n m k tails heads weights) (arc t h w) s outs
  answers : {M : Map} {a b : ℕ} {s : Stage} {outs : List Out} → Answers ℓ M a b s outs → Does ℓ (asking M) (question a b) s outs
  thins : {M : Map} {nodes : List ℕ} {s : Stage} {outs : List Out} → Thins ℓ M nodes s outs → Does ℓ (asking M) (drive nodes) s outs

-- the program takes no line once it has stopped
abbrev pub Runs : Stage → Type 0
Runs begun = Unit {0}
Runs (loading n m k tails heads weights) = Unit {0}
Runs (asking M) = Unit {0}
Runs stopped = ⊥

-- one more line, number ℓ, or the end of the input where that line would be: the state after it, and what is printed. Number 13 is judged
-- before all others.
pub data Step (ℓ : ℕ) : Stage → Input → Stage → List Out → Type 0 where
  -- a line beyond 65,535, whatever it holds
  beyond : {s : Stage} {bytes : List ℕ} → Runs s → most_lines < ℓ → Step ℓ s (line bytes) stopped (refused_by Line most_lines)
  beyond_unended : {s : Stage} {bytes : List ℕ} → Runs s → most_lines < ℓ → Step ℓ s (unended bytes) stopped (refused_by Line most_lines)
  -- a line that no line feed ends
  cut_off : {s : Stage} {bytes : List ℕ} → Runs s → ℓ ≤ most_lines → Step ℓ s (unended bytes) stopped (refused_by Line ℓ)
  -- a line of no frame that may come now
  wrong : {s : Stage} {bytes : List ℕ} → Runs s → ℓ ≤ most_lines → ((f : Frame) → ReadAs drive_room bytes f → Due s f → ⊥) → Step ℓ s (line bytes) stopped (refused_by Line ℓ)
  -- a line that is taken
  taken :
      {s s' : Stage} {bytes : List ℕ} {f : Frame} {outs : List Out} → ℓ ≤ most_lines → ReadAs drive_room bytes f → Due s f → Does ℓ s f s' outs →
      Step ℓ s (line bytes) s' outs
  -- a missing line takes the next number
  missing_head : Step ℓ begun end stopped (refused_by Line ℓ)
  missing_arc : {n m k : ℕ} {tails heads weights : List ℕ} → Step ℓ (loading n m k tails heads weights) end stopped (refused_by Line ℓ)
  -- after the arcs the end of the input is a good end
  good_end : {M : Map} → Step ℓ (asking M) end stopped []
