-- P1 to P12 hold, by computing their tests.
use mathlib.Core.List.{List, [], ◌∷◌}
use Prim.Native.Nat.{ℕ}
use Rattle.road.specs.Chains.{cover_faults, road_and_set_faults, drive_faults}
use Rattle.road.specs.Counting.{times}
use Rattle.road.specs.Refusals.{Said}
use Rattle.road.specs.Roads.{nodes_of}
use Rattle.rule.specs.Rule.{PathOf}
use Rattle.distance.specs.Calls.{pair_input}
use Rattle.examples.specs.Graphs.{Lent, road_of}
use Rattle.examples.specs.Claims.{CoverIs, OverlayIs, AnswerIs, Claim, cover, overlay, distance, refused_drive, Holds}
use Rattle.examples.specs.Examples.{Example, HoldAll, AllRight, examples}
use Rattle.examples.proofs.Asking.{answers, any_pair}
use Rattle.examples.proofs.Covering.{needed, pruned}
use Rattle.examples.proofs.Deciding.{Decider, holds, given, both, always, same}
use Rattle.examples.proofs.Faulting.{cover_checks, set_checks, pair_checks, drive_checks}
use Rattle.examples.proofs.Overlaying.{overlay_of}
use Rattle.examples.proofs.Refusing.{none_of, refused_by}

module _ (g : Lent) where
  abbrev pub cover_is : (k : ℕ) (order bytes : List ℕ) (count : ℕ) → Decider (CoverIs g k order bytes count)
  cover_is k order bytes count =
      given
      (both (none_of (cover_faults g.starts g.heads g.weights k order) (cover_checks g.starts g.heads g.weights k order))
      (both (pruned (PathOf (road_of g) k) (λ c v. needed g.starts g.heads g.weights k c v) (nodes_of g.starts) order bytes) (same (times 1 bytes) count)))
      (λ p. record { taken = p.0; pruned = p.1.0; counted = p.1.1 }) (λ c. (c.taken, (c.pruned, c.counted)))

  abbrev pub overlay_is : (set : List ℕ) (o : Lent) → Decider (OverlayIs g set o)
  overlay_is set o =
      given
      (both (none_of (road_and_set_faults g.starts g.heads g.weights set) (set_checks g.starts g.heads g.weights set))
      (overlay_of g.starts g.heads g.weights set o.starts o.heads o.weights))
      (λ p. record { taken = p.0; overlay = p.1 }) (λ c. (c.taken, c.overlay))

  abbrev pub answer_is : (set : List ℕ) (o : Lent) (s t : ℕ) (said : Said) → Decider (AnswerIs g set o s t said)
  answer_is set o s t said =
      given
      (both (overlay_of g.starts g.heads g.weights set o.starts o.heads o.weights)
      (both
      (none_of (pair_input g.starts g.heads g.weights set o.starts o.heads o.weights s t)
      (pair_checks g.starts g.heads g.weights set o.starts o.heads o.weights s t))
      (answers (any_pair g.starts g.heads g.weights set o.starts o.heads o.weights s t) said)))
      (λ p. record { overlay = p.0; taken = p.1.0; answers = p.1.1 }) (λ c. (c.overlay, (c.taken, c.answers)))

  abbrev pub claim : (c : Claim) → Decider (Holds g c)
  claim (cover k order bytes count) = cover_is k order bytes count
  claim (overlay set o) = overlay_is set o
  claim (distance set o s t said) = answer_is set o s t said
  claim (refused_drive set drive number) =
      refused_by (drive_faults g.starts g.heads g.weights set drive) (drive_checks g.starts g.heads g.weights set drive) number

  abbrev pub claims : (cs : List Claim) → Decider (HoldAll g cs)
  claims [] = always tt
  claims (c ∷ cs) = both (claim c) (claims cs)

-- whether a list of examples is right
abbrev pub right : (es : List Example) → Decider (AllRight es)
right [] = always tt
right (e ∷ es) = both (claims e.graph e.claims) (right es)

pub all_right : AllRight examples
all_right = holds (right examples) tt
