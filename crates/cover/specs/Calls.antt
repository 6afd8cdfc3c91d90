-- The cover call: what it is lent, what it says, and what it leaves.
use Rattle.std.specs.Prelude.{List, [], ◌∷◌, ◌++◌, ℕ, ◌+◌, length, replicate, ◌≡◌, Result, Ok, Err}
use Rattle.road.specs.declared.Refusal.{Refusal}
use Rattle.road.specs.Chains.{cover_faults}
use Rattle.road.specs.Counting.{times}
use Rattle.road.specs.Faults.{lengths_fault}
use Rattle.road.specs.Refusals.{Fault, First, None, Said, refusal, answer}
use Rattle.road.specs.Roads.{nodes_of, road}
use Rattle.road.specs.declared.NodeCount.{NodeCount}
use Rattle.road.specs.Lent.{SameSlices}
use Rattle.cover.specs.declared.Work.{Work}
use Rattle.rule.specs.Rule.{PathOf, Pruned}

-- the number and the values of each answer: the count of the cover's nodes, or a refusal's number alone
abbrev pub said_of : Result NodeCount Refusal → Said
said_of (Ok c) = answer (c.0 ∷ [])
said_of (Err r) = refusal r

-- the slices that the call may write: the result, and six of work
pub record Areas : Type 0 where
  pub cover : List ℕ
  pub starts : List ℕ
  pub heads : List ℕ
  pub weights : List ℕ
  pub marks : List ℕ
  pub pieces : List ℕ
  pub sizes : List ℕ

-- the same, gathered from the call's slices at one moment of it
abbrev pub areas : List ℕ → List ℕ → List ℕ → List ℕ → List ℕ → List ℕ → List ℕ → Areas
areas cover starts heads weights marks pieces sizes =
    record { cover = cover; starts = starts; heads = heads; weights = weights; marks = marks; pieces = pieces; sizes = sizes }

-- and from the work as the call is lent it
abbrev pub areas_of : List ℕ → Work → Areas
areas_of cover w = areas cover w.back.now.starts.now w.back.now.heads.now w.back.now.weights.now w.marks.now w.pieces.now w.sizes.now

-- the work's slices are the same slices, whatever they hold
pub record SameWork (old new : Work) : Type 0 where
  pub back : new.back.ghost_name ≡ old.back.ghost_name
  pub slices : SameSlices old.back.now new.back.now
  pub marks : new.marks.ghost_name ≡ old.marks.ghost_name
  pub pieces : new.pieces.ghost_name ≡ old.pieces.ghost_name
  pub sizes : new.sizes.ghost_name ≡ old.sizes.ghost_name

-- their lengths, each with the length asked
abbrev pub asked_lengths : ℕ → ℕ → Areas → List (ℕ × ℕ)
asked_lengths n m a =
    (length a.cover, n) ∷ (length a.starts, n + 1) ∷ (length a.heads, m) ∷ (length a.weights, m) ∷ (length a.marks, n) ∷ (length a.pieces, n) ∷
    (length a.sizes, n) ∷ []

-- the faults in order: 1 2 3 4 5 11
abbrev pub faults_of : List ℕ → List ℕ → List ℕ → ℕ → List ℕ → Areas → List Fault
faults_of starts heads weights k order a =
    cover_faults starts heads weights k order ++ (lengths_fault (asked_lengths (nodes_of starts) (length heads) a) ∷ [])

-- the areas after an answer: the cover, and work filled with zeros
abbrev pub answered : ℕ → ℕ → List ℕ → Areas
answered n m cover =
    record {
      cover = cover;
      starts = replicate (n + 1) 0;
      heads = replicate m 0;
      weights = replicate m 0;
      marks = replicate n 0;
      pieces = replicate n 0;
      sizes = replicate n 0;
    }

-- what the call says and leaves. A refusal is of the first fault, and leaves everything as it was. An answer is given where there is
-- none: the cover is the one that the rule yields over the paths of k nodes, and the count is that of its ones.
pub data Outcome (starts heads weights : List ℕ) (k : ℕ) (order : List ℕ) (before : Areas) : Said → Areas → Type 0 where
  refused : {r : Refusal} → First (faults_of starts heads weights k order before) r → Outcome starts heads weights k order before (refusal r) before
  covered :
      {cover : List ℕ} → None (faults_of starts heads weights k order before) → Pruned (PathOf (road starts heads weights) k) (nodes_of starts) order cover →
      Outcome starts heads weights k order before (answer (times 1 cover ∷ [])) (answered (nodes_of starts) (length heads) cover)
