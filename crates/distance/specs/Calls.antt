-- The calls: what they are lent, what they say, and what they leave.
use Rattle.std.specs.Prelude.{List, [], ◌∷◌, ◌++◌, ℕ, ◌+◌, ◌*◌, Option, Some, Result, Ok, Err, length, replicate}
use Rattle.paths.specs.Least.{Least, Empty}
use Rattle.road.specs.declared.Refusal.{Refusal}
use Rattle.road.specs.Chains.{lone_set_faults, road_and_set_faults}
use Rattle.road.specs.Faults.{node_fault, outside_fault, lengths_fault}
use Rattle.road.specs.Refusals.{Fault, First, None, Said, refusal, answer}
use Rattle.road.specs.Roads.{nodes_of, road}
use Rattle.overlay.specs.Lent.{overlay_fault}
use Rattle.distance.specs.Questions.{Handheld, AnyPair}

-- the number and the values of each answer: 1 and the weight of a way, 0 alone for no way, or a refusal's number alone
abbrev pub said_of : Result (Option ℕ) Refusal → Said
said_of (Ok (Some d)) = answer (1 ∷ d ∷ [])
said_of (Ok Option.None) = answer (0 ∷ [])
said_of (Err r) = refusal r

-- what is said of the weights P: the least of them, or no way where there is none
pub data Answers (P : ℕ → Type 0) : Said → Type 0 where
  way : {d : ℕ} → Least P d → Answers P (answer (1 ∷ d ∷ []))
  no_way : Empty P → Answers P (answer (0 ∷ []))

-- the work that the handheld question is lent
pub record HandAreas : Type 0 where
  pub labels : List ℕ
  pub heap : List ℕ
  pub places : List ℕ
  pub touched : List ℕ
  pub blocked : List ℕ

-- the same, gathered from the call's slices at one moment of it
abbrev pub hand_areas : List ℕ → List ℕ → List ℕ → List ℕ → List ℕ → HandAreas
hand_areas labels heap places touched blocked =
    record { labels = labels; heap = heap; places = places; touched = touched; blocked = blocked }

abbrev pub hand_lengths : ℕ → HandAreas → List (ℕ × ℕ)
hand_lengths n a = (length a.labels, n) ∷ (length a.heap, 2 * n) ∷ (length a.places, n) ∷ (length a.touched, n) ∷ (length a.blocked, n) ∷ []

-- the faults of what it is asked, in order: 1 6 7 8 9; n is the set's length
abbrev pub hand_input : List ℕ → List ℕ → List ℕ → List ℕ → ℕ → ℕ → List Fault
hand_input chosen starts heads weights s t =
    lone_set_faults chosen ++ (overlay_fault chosen starts heads weights ∷ node_fault (length chosen) s t ∷ outside_fault chosen s t ∷ [])

-- and 11 after them
abbrev pub hand_faults : List ℕ → List ℕ → List ℕ → List ℕ → ℕ → ℕ → HandAreas → List Fault
hand_faults chosen starts heads weights s t a = hand_input chosen starts heads weights s t ++ (lengths_fault (hand_lengths (length chosen) a) ∷ [])

abbrev pub hand_cleared : ℕ → HandAreas
hand_cleared n =
    record { labels = replicate n 0; heap = replicate (2 * n) 0; places = replicate n 0; touched = replicate n 0; blocked = replicate n 0 }

-- what the handheld question says and leaves. A refusal is of the first fault, and leaves everything as it was; an answer is of the paths of
-- the overlay, and leaves work filled with zeros.
pub data HandOutcome (chosen starts heads weights : List ℕ) (s t : ℕ) (before : HandAreas) : Said → HandAreas → Type 0 where
  refused : {r : Refusal} → First (hand_faults chosen starts heads weights s t before) r → HandOutcome chosen starts heads weights s t before (refusal r) before
  answered :
      {said : Said} → None (hand_faults chosen starts heads weights s t before) → Answers (Handheld (road starts heads weights) s t) said →
      HandOutcome chosen starts heads weights s t before said (hand_cleared (length chosen))

-- the work that the any-pair question is lent: the graph turned round, the rows from s and into t, and the handheld's
pub record PairAreas : Type 0 where
  pub starts : List ℕ
  pub heads : List ℕ
  pub weights : List ℕ
  pub outward : List ℕ
  pub inward : List ℕ
  pub labels : List ℕ
  pub heap : List ℕ
  pub places : List ℕ
  pub touched : List ℕ
  pub blocked : List ℕ

-- the same, gathered from the call's slices at one moment of it
abbrev pub pair_areas : List ℕ → List ℕ → List ℕ → List ℕ → List ℕ → List ℕ → List ℕ → List ℕ → List ℕ → List ℕ → PairAreas
pair_areas starts heads weights outward inward labels heap places touched blocked =
    record {
      starts = starts;
      heads = heads;
      weights = weights;
      outward = outward;
      inward = inward;
      labels = labels;
      heap = heap;
      places = places;
      touched = touched;
      blocked = blocked;
    }

-- the lengths of the graph turned round and of the rows
abbrev pub row_lengths : ℕ → ℕ → List ℕ → List ℕ → List ℕ → List ℕ → List ℕ → List (ℕ × ℕ)
row_lengths n m starts heads weights outward inward =
    (length starts, n + 1) ∷ (length heads, m) ∷ (length weights, m) ∷ (length outward, n) ∷ (length inward, n) ∷ []

abbrev pub hand_of : PairAreas → HandAreas
hand_of a = record { labels = a.labels; heap = a.heap; places = a.places; touched = a.touched; blocked = a.blocked }

abbrev pub pair_lengths : ℕ → ℕ → PairAreas → List (ℕ × ℕ)
pair_lengths n m a = row_lengths n m a.starts a.heads a.weights a.outward a.inward ++ hand_lengths n (hand_of a)

-- the faults of what it is asked, in order: 1 2 3 6 7 8
abbrev pub pair_input : List ℕ → List ℕ → List ℕ → List ℕ → List ℕ → List ℕ → List ℕ → ℕ → ℕ → List Fault
pair_input starts heads weights chosen starts' heads' weights' s t =
    road_and_set_faults starts heads weights chosen ++ (overlay_fault chosen starts' heads' weights' ∷ node_fault (nodes_of starts) s t ∷ [])

-- and 11 after them
abbrev pub pair_faults : List ℕ → List ℕ → List ℕ → List ℕ → List ℕ → List ℕ → List ℕ → ℕ → ℕ → PairAreas → List Fault
pair_faults starts heads weights chosen starts' heads' weights' s t a =
    pair_input starts heads weights chosen starts' heads' weights' s t ++ (lengths_fault (pair_lengths (nodes_of starts) (length heads) a) ∷ [])

abbrev pub pair_cleared : ℕ → ℕ → PairAreas
pair_cleared n m =
    record {
      starts = replicate (n + 1) 0;
      heads = replicate m 0;
      weights = replicate m 0;
      outward = replicate n 0;
      inward = replicate n 0;
      labels = replicate n 0;
      heap = replicate (2 * n) 0;
      places = replicate n 0;
      touched = replicate n 0;
      blocked = replicate n 0;
    }

-- what the any-pair question says and leaves
pub data PairOutcome (starts heads weights chosen starts' heads' weights' : List ℕ) (s t : ℕ) (before : PairAreas) : Said → PairAreas → Type 0 where
  refused :
      {r : Refusal} → First (pair_faults starts heads weights chosen starts' heads' weights' s t before) r →
      PairOutcome starts heads weights chosen starts' heads' weights' s t before (refusal r) before
  answered :
      {said : Said} → None (pair_faults starts heads weights chosen starts' heads' weights' s t before) →
      Answers (AnyPair (road starts heads weights) (road starts' heads' weights') chosen s t) said →
      PairOutcome starts heads weights chosen starts' heads' weights' s t before said (pair_cleared (nodes_of starts) (length heads))
