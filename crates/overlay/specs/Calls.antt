-- The overlay call: what it is lent, what it says, and what it leaves.
use Rattle.std.specs.Prelude.{◌≡◌, ◌⊎◌, Result, Ok, Err, List, [], ◌∷◌, ◌++◌, ℕ, ◌+◌, ◌*◌, ◌<◌, length, replicate, drop}
use Rattle.paths.specs.Graphs.{Graph}
use Rattle.road.specs.declared.ArcCount.{ArcCount}
use Rattle.road.specs.declared.GraphMut.{GraphMut}
use Rattle.road.specs.declared.Refusal.{Refusal}
use Rattle.road.specs.declared.Refusal.TheVariants.{Room}
use Rattle.road.specs.Chains.{road_and_set_faults}
use Rattle.road.specs.Faults.{lengths_fault}
use Rattle.road.specs.Limits.{overlay_limits}
use Rattle.road.specs.Refusals.{Fault, Of, First, None, Said, refusal, answer}
use Rattle.road.specs.Roads.{nodes_of, road}
use Rattle.overlay.specs.declared.Work.{Work}
use Rattle.overlay.specs.Overlays.{OverlayOf, ArcsInAll}

-- the number and the values of each answer: the count of the overlay's arcs, or a refusal's number alone
abbrev pub said_of : Result ArcCount Refusal → Said
said_of (Ok m) = answer (m.0 ∷ [])
said_of (Err r) = refusal r

-- the slices that the call may write: the overlay's starts and its two rooms, and four of work
pub record Areas : Type 0 where
  pub starts : List ℕ
  pub heads : List ℕ
  pub weights : List ℕ
  pub labels : List ℕ
  pub heap : List ℕ
  pub places : List ℕ
  pub touched : List ℕ

-- the same, gathered from the call's slices at one moment of it
abbrev pub areas : List ℕ → List ℕ → List ℕ → List ℕ → List ℕ → List ℕ → List ℕ → Areas
areas starts heads weights labels heap places touched =
    record { starts = starts; heads = heads; weights = weights; labels = labels; heap = heap; places = places; touched = touched }

-- and from the structs that hold them
abbrev pub areas_of : GraphMut → Work → Areas
areas_of rooms work =
    areas rooms.starts.now rooms.heads.now rooms.weights.now work.labels.now work.heap.now work.places.now work.touched.now

-- the four slices of work are the same slices, whatever they hold
pub record SameWork (old new : Work) : Type 0 where
  pub labels : new.labels.ghost_name ≡ old.labels.ghost_name
  pub heap : new.heap.ghost_name ≡ old.heap.ghost_name
  pub places : new.places.ghost_name ≡ old.places.ghost_name
  pub touched : new.touched.ghost_name ≡ old.touched.ghost_name

-- their lengths, each with the length asked; the two rooms are of equal length
abbrev pub asked_lengths : ℕ → Areas → List (ℕ × ℕ)
asked_lengths n a =
    (length a.starts, n + 1) ∷ (length a.heads, length a.weights) ∷ (length a.labels, n) ∷ (length a.heap, 2 * n) ∷ (length a.places, n) ∷
    (length a.touched, n) ∷ []

-- the faults that are found without a search, in order: 1 2 3 6 11
abbrev pub faults_of : List ℕ → List ℕ → List ℕ → List ℕ → Areas → List Fault
faults_of starts heads weights chosen a = road_and_set_faults starts heads weights chosen ++ (lengths_fault (asked_lengths (nodes_of starts) a) ∷ [])

-- 12: more overlay arcs than the lent room or than 65,536, that is, than the lesser of them
pub record TooMany (G : Graph) (chosen : List ℕ) (room : ℕ) : Type 0 where
  pub count : ℕ
  pub counted : ArcsInAll G chosen count
  pub over : (room < count) ⊎ (overlay_limits.arcs.0 < count)

abbrev pub room_fault : Graph → List ℕ → ℕ → Fault
room_fault G chosen room = Of Room (TooMany G chosen room)

-- all its faults, in order: 1 2 3 6 11 12
abbrev pub all_faults : List ℕ → List ℕ → List ℕ → List ℕ → Areas → List Fault
all_faults starts heads weights chosen a =
    faults_of starts heads weights chosen a ++ (room_fault (road starts heads weights) chosen (length a.heads) ∷ [])

-- results as they were, and work filled with zeros
abbrev pub cleared : ℕ → Areas → Areas
cleared n a =
    record {
      starts = a.starts;
      heads = a.heads;
      weights = a.weights;
      labels = replicate n 0;
      heap = replicate (2 * n) 0;
      places = replicate n 0;
      touched = replicate n 0;
    }

-- the overlay in its rooms, entries past the last arc as they were, and work filled with zeros
abbrev pub answered : ℕ → Areas → List ℕ → List ℕ → List ℕ → Areas
answered n before starts heads weights =
    record {
      starts = starts;
      heads = heads ++ drop (length heads) before.heads;
      weights = weights ++ drop (length weights) before.weights;
      labels = replicate n 0;
      heap = replicate (2 * n) 0;
      places = replicate n 0;
      touched = replicate n 0;
    }

-- what the call says and leaves. A refusal that needs no search is of the first fault, and leaves everything as it was. Where none of
-- those holds and there are too many arcs, it is 12, and work is filled with zeros. Otherwise the overlay of the set is written, and its
-- arcs are counted.
pub data Outcome (starts heads weights chosen : List ℕ) (before : Areas) : Said → Areas → Type 0 where
  refused : {r : Refusal} → First (faults_of starts heads weights chosen before) r → Outcome starts heads weights chosen before (refusal r) before
  full :
      None (faults_of starts heads weights chosen before) → TooMany (road starts heads weights) chosen (length before.heads) →
      Outcome starts heads weights chosen before (refusal Room) (cleared (nodes_of starts) before)
  built :
      {starts' heads' weights' : List ℕ} → None (faults_of starts heads weights chosen before) → (TooMany (road starts heads weights) chosen (length before.heads) → ⊥) →
      OverlayOf (road starts heads weights) chosen starts' heads' weights' →
      Outcome starts heads weights chosen before (answer (length heads' ∷ [])) (answered (nodes_of starts) before starts' heads' weights')
