-- Whether three lists are the overlay of a set.
use mathlib.Core.Path.{◌≡◌}
use mathlib.Core.List.{List}
use Prim.Native.Nat.{ℕ, ◌+◌, ◌≤◌, ◌<◌}
use native.Mathlib.Omega.{arith}
use lib.ListN.{length, get_or}
use Rattle.paths.specs.Graphs.{Reaches}
use Rattle.road.specs.Roads.{nodes_of, road}
use Rattle.overlay.specs.Overlays.{Outside, OverlayArc, HasArc, RowAt, OverlayOf}
use Rattle.overlay.proofs.Locals.{in_bytes}
use Rattle.examples.proofs.Deciding.{Decider, given, both, then, fails, same, unlike, at_most, less, in_set, all, some, Below}
use Rattle.examples.proofs.Listing.{Listing, has_some, is_least}
use Rattle.examples.proofs.Trips.{reaches}

abbrev pub outside : (chosen : List ℕ) (v : ℕ) → Decider (Outside chosen v)
outside chosen v = fails (in_set chosen v)

module _ (starts heads weights chosen : List ℕ) where
  -- the weights of the paths from a to b with no node of the set strictly inside
  abbrev pub locals : (a b : ℕ) → Listing (Reaches (road starts heads weights) (Outside chosen) a b)
  locals a b = reaches starts heads weights (Outside chosen) (outside chosen) a b

  abbrev pub overlay_arc : (a b w : ℕ) → Decider (OverlayArc (road starts heads weights) chosen a b w)
  overlay_arc a b w =
      given (both (in_set chosen a) (both (in_set chosen b) (both (unlike a b) (is_least (locals a b) w))))
      (λ p. record { tail = p.0; head = p.1.0; apart = p.1.1.0; least = p.1.1.1 }) (λ x. (x.tail, (x.head, (x.apart, x.least))))

  abbrev pub has_arc : (a b : ℕ) → Decider (HasArc (road starts heads weights) chosen a b)
  has_arc a b =
      given (both (in_set chosen a) (both (in_set chosen b) (both (unlike a b) (has_some (locals a b)))))
      (λ p. record { tail = p.0; head = p.1.0; apart = p.1.1.0; weight = p.1.1.1.0; some = p.1.1.1.1 })
      (λ x. (x.tail, (x.head, (x.apart, (x.weight, x.some)))))

  module _ (heads' weights' : List ℕ) (a from to : ℕ) where
    abbrev pub Ascends : ℕ → Type 0
    Ascends p = from ≤ p → p + 1 < to → get_or heads' p 0 < get_or heads' (p + 1) 0

    abbrev pub Written : ℕ → Type 0
    Written p = from ≤ p → OverlayArc (road starts heads weights) chosen a (get_or heads' p 0) (get_or weights' p 0)

    abbrev pub At : ℕ → ℕ → Type 0
    At b p = (from ≤ p) × (get_or heads' p 0 ≡ b)

    abbrev pub Listed : ℕ → Type 0
    Listed b = HasArc (road starts heads weights) chosen a b → Below to (At b)

    -- a row's parts, each over the places or the nodes that it has to be looked for at
    abbrev pub RowParts : Type 0
    RowParts = (from ≤ to) × (((p : ℕ) → p < to → Ascends p) × (((p : ℕ) → p < to → Written p) × ((b : ℕ) → b < length chosen → Listed b)))

    pub row_of : RowParts → RowAt (road starts heads weights) chosen a heads' weights' from to
    row_of r =
        record {
          rises = r.0;
          ascends = λ p h k. r.1.0 p (omega arith) h k;
          arcs = λ p h k. r.1.1.0 p k h;
          all = λ b x. place (r.1.1.1 b (in_bytes chosen b x.head) x);
        }
      where
        place : {b : ℕ} → Below to (At b) → (p : ℕ) × (from ≤ p) × (p < to) × (get_or heads' p 0 ≡ b)
        place q = (q.number, q.is.0, q.below, q.is.1)

    pub of_row : RowAt (road starts heads weights) chosen a heads' weights' from to → RowParts
    of_row r = (r.rises, ((λ p l h k. r.ascends p h k), ((λ p l h. r.arcs p h l), λ b l x. place (r.all b x))))
      where
        place : {b : ℕ} → (p : ℕ) × (from ≤ p) × (p < to) × (get_or heads' p 0 ≡ b) → Below to (At b)
        place q = record { number = q.0; below = q.2; is = (q.1, q.3) }

    abbrev pub row_at : Decider (RowAt (road starts heads weights) chosen a heads' weights' from to)
    row_at =
        given
        (both (at_most from to)
        (both (all Ascends to (λ p. then (at_most from p) (then (less (p + 1) to) (less (get_or heads' p 0) (get_or heads' (p + 1) 0)))))
        (both (all Written to (λ p. then (at_most from p) (overlay_arc a (get_or heads' p 0) (get_or weights' p 0))))
        (all Listed (length chosen) (λ b. then (has_arc a b) (some (At b) to (λ p. both (at_most from p) (same (get_or heads' p 0) b))))))))
        row_of of_row

  abbrev pub overlay_of : (starts' heads' weights' : List ℕ) → Decider (OverlayOf (road starts heads weights) chosen starts' heads' weights')
  overlay_of starts' heads' weights' =
      given
      (both (same (length starts') (nodes_of starts + 1))
      (both (same (get_or starts' 0 0) 0)
      (both
      (all (λ (a : ℕ). RowAt (road starts heads weights) chosen a heads' weights' (get_or starts' a 0) (get_or starts' (a + 1) 0)) (nodes_of starts)
      (λ a. row_at heads' weights' a (get_or starts' a 0) (get_or starts' (a + 1) 0)))
      (both (same (get_or starts' (nodes_of starts) 0) (length heads')) (same (length heads') (length weights'))))))
      (λ p. record { long = p.0; begins = p.1.0; rows = p.1.1.0; ends = p.1.1.1.0; alike = p.1.1.1.1 })
      (λ o. (o.long, (o.begins, (o.rows, (o.ends, o.alike)))))
