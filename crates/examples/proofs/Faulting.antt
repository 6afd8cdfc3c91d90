-- Each fault of the refusal table is tested.
use mathlib.Core.Path.{◌≡◌, refl, sym, subst}
use mathlib.Core.Logic.{◌⊎◌, inl, inr, ◌≢◌}
use mathlib.Core.List.{List}
use Prim.Native.Nat.{ℕ, ◌+◌, ◌-◌, ◌≤◌, ◌<◌}
use native.Mathlib.Omega.{arith}
use lib.ListN.{length, get_or}
use Rattle.paths.specs.Lists.{Mem}
use Rattle.road.specs.declared.Limits.{Limits}
use Rattle.road.specs.declared.Refusal.{Refusal}
use Rattle.road.specs.declared.Refusal.TheVariants.{Sizes, Starts, Arcs, K, Order, Set, Overlay, Node, Drive}
use Rattle.road.specs.Chains.{cover_faults, road_and_set_faults, drive_faults}
use Rattle.road.specs.Drives.{Joined, BadDrive}
use Rattle.road.specs.Faults.{BadSizes, BadStarts, HeadOutside, HeadIsTail, HeadFalls, TooHeavy, arc_faults, ArcFault, graph_faults, BadK, Permutation, BadSet, NoNode, InSet}
use Rattle.road.specs.Limits.{most_nodes, most_k, most_drive, road_limits, overlay_limits}
use Rattle.road.specs.Refusals.{None, First}
use Rattle.road.specs.Roads.{nodes_of, Owns}
use Rattle.road.proofs.Rows.{owner_node}
use Rattle.overlay.specs.Lent.{BadOverlay}
use Rattle.distance.specs.Calls.{pair_input}
use Rattle.examples.proofs.Deciding.{Decider, given, both, either, fails, same, unlike, at_most, less, in_set, all, some, Below, member, each, different}
use Rattle.examples.proofs.Refusing.{Check, Checks, check, none_of, some_first}
use Rattle.examples.proofs.Trips.{owns}

-- 1, 2 and 3
module _ (L : Limits) (starts heads weights : List ℕ) where
  abbrev pub SizesParts : Type 0
  SizesParts =
      (length starts < 2) ⊎ ((most_nodes + 1 < length starts) ⊎ ((length heads ≢ length weights) ⊎ ((L.arcs.0 < length heads) ⊎ (L.arcs.0 < length weights))))

  pub sizes_of : SizesParts → BadSizes L starts heads weights
  sizes_of (inl h) = BadSizes.few_starts h
  sizes_of (inr (inl h)) = BadSizes.many_starts h
  sizes_of (inr (inr (inl h))) = BadSizes.unlike h
  sizes_of (inr (inr (inr (inl h)))) = BadSizes.many_heads h
  sizes_of (inr (inr (inr (inr h)))) = BadSizes.many_weights h

  pub of_sizes : BadSizes L starts heads weights → SizesParts
  of_sizes (BadSizes.few_starts h) = inl h
  of_sizes (BadSizes.many_starts h) = inr (inl h)
  of_sizes (BadSizes.unlike h) = inr (inr (inl h))
  of_sizes (BadSizes.many_heads h) = inr (inr (inr (inl h)))
  of_sizes (BadSizes.many_weights h) = inr (inr (inr (inr h)))

  abbrev pub bad_sizes : Decider (BadSizes L starts heads weights)
  bad_sizes =
      given
      (either (less (length starts) 2)
      (either (less (most_nodes + 1) (length starts))
      (either (unlike (length heads) (length weights)) (either (less L.arcs.0 (length heads)) (less L.arcs.0 (length weights)))))) sizes_of of_sizes

  abbrev pub Falls : ℕ → Type 0
  Falls u = (u + 1 < length starts) × (get_or starts (u + 1) 0 < get_or starts u 0)

  abbrev pub StartsParts : Type 0
  StartsParts = (get_or starts 0 0 ≢ 0) ⊎ (Below (length starts) Falls ⊎ (get_or starts (nodes_of starts) 0 ≢ length heads))

  pub starts_of : StartsParts → BadStarts starts heads
  starts_of (inl h) = BadStarts.first h
  starts_of (inr (inl b)) = BadStarts.falls b.number b.is.0 b.is.1
  starts_of (inr (inr h)) = BadStarts.last h

  pub of_starts : BadStarts starts heads → StartsParts
  of_starts (BadStarts.first h) = inl h
  of_starts (BadStarts.falls u h l) = inr (inl (record { number = u; below = omega arith; is = (h, l) }))
  of_starts (BadStarts.last h) = inr (inr h)

  abbrev pub bad_starts : Decider (BadStarts starts heads)
  bad_starts =
      given
      (either (unlike (get_or starts 0 0) 0)
      (either (some Falls (length starts) (λ u. both (less (u + 1) (length starts)) (less (get_or starts (u + 1) 0) (get_or starts u 0))))
      (unlike (get_or starts (nodes_of starts) 0) (length heads)))) starts_of of_starts

  module _ (p : ℕ) where
    abbrev pub head_outside : Decider (HeadOutside starts heads p)
    head_outside = given (at_most (nodes_of starts) (get_or heads p 0)) (λ h. record { outside = h }) (λ o. o.outside)

    pub of_tail : HeadIsTail starts heads p → Owns starts (get_or heads p 0) p
    of_tail o = subst (λ (u : ℕ). Owns starts u p) (sym o.same) o.owned

    abbrev pub head_is_tail : Decider (HeadIsTail starts heads p)
    head_is_tail = given (owns starts (get_or heads p 0) p) (λ o. record { tail = get_or heads p 0; owned = o; same = refl }) of_tail

    -- the place before p is the same tail's, and its head is not lower
    abbrev pub Fallen : ℕ → Type 0
    Fallen u = (p ≡ p - 1 + 1) × (Owns starts u (p - 1) × (Owns starts u p × (get_or heads p 0 ≤ get_or heads (p - 1) 0)))

    pub falls_of : Below (nodes_of starts) Fallen → HeadFalls starts heads p
    falls_of b = record { tail = b.number; former = p - 1; next = b.is.0; before = b.is.1.0; owned = b.is.1.1.0; falls = b.is.1.1.1 }

    pub of_falls : HeadFalls starts heads p → Below (nodes_of starts) Fallen
    of_falls f =
        let here : f.former ≡ p - 1 = omega (arith, f.next) in
        record {
          number = f.tail;
          below = owner_node starts f.tail p f.owned;
          is = (
            omega (arith, f.next),
            (
              subst (λ (q : ℕ). Owns starts f.tail q) here f.before,
              (f.owned, subst (λ (q : ℕ). get_or heads p 0 ≤ get_or heads q 0) here f.falls),
            ),
          );
        }

    abbrev pub head_falls : Decider (HeadFalls starts heads p)
    head_falls =
        given
        (some Fallen (nodes_of starts)
        (λ u. both (same p (p - 1 + 1)) (both (owns starts u (p - 1)) (both (owns starts u p) (at_most (get_or heads p 0) (get_or heads (p - 1) 0)))))) falls_of of_falls

    abbrev pub too_heavy : Decider (TooHeavy L weights p)
    too_heavy = given (less L.weight (get_or weights p 0)) (λ h. record { over = h }) (λ o. o.over)

    abbrev pub arc_checks : Checks (arc_faults L starts heads weights p)
    arc_checks = (check Arcs head_outside, (check Arcs head_is_tail, (check Arcs head_falls, (check Arcs too_heavy, tt))))

    pub arcs_alone : (s : Refusal) → First (arc_faults L starts heads weights p) s → s ≡ Arcs
    arcs_alone s (inl f) = f.is
    arcs_alone s (inr (_, inl f)) = f.is
    arcs_alone s (inr (_, inr (_, inl f))) = f.is
    arcs_alone s (inr (_, inr (_, inr (_, inl f)))) = f.is
    arcs_alone s (inr (_, inr (_, inr (_, inr (_, z))))) = absurd z

  abbrev pub FirstBad : ℕ → Type 0
  FirstBad p = ((r : Refusal) × First (arc_faults L starts heads weights p) r) × ((q : ℕ) → q < p → None (arc_faults L starts heads weights q))

  pub arcs_of : Below (length heads) FirstBad → ArcFault L starts heads weights Arcs
  arcs_of b =
      let f = b.is.0 in
      record {
        place = b.number;
        listed = b.below;
        here = subst (λ (r : Refusal). First (arc_faults L starts heads weights b.number) r) (arcs_alone b.number f.0 f.1) f.1;
        before = b.is.1;
      }

  pub of_arcs : ArcFault L starts heads weights Arcs → Below (length heads) FirstBad
  of_arcs f = record { number = f.place; below = f.listed; is = ((Arcs, f.here), f.before) }

  abbrev pub arc_check : Check (ArcFault L starts heads weights)
  arc_check =
      record {
        tells = Arcs;
        only = λ s f. arcs_alone f.place s f.here;
        test =
            given
            (some FirstBad (length heads)
            (λ p. both (some_first (arc_faults L starts heads weights p) (arc_checks p))
            (all (λ (q : ℕ). None (arc_faults L starts heads weights q)) p (λ q. none_of (arc_faults L starts heads weights q) (arc_checks q))))) arcs_of of_arcs;
      }

  abbrev pub graph_checks : Checks (graph_faults L starts heads weights)
  graph_checks = (check Sizes bad_sizes, (check Starts bad_starts, (arc_check, tt)))

-- 4
pub k_of : (k : ℕ) → (k ≡ 0) ⊎ (most_k < k) → BadK k
k_of k (inl h) = BadK.none h
k_of k (inr h) = BadK.many h

pub of_k : (k : ℕ) → BadK k → (k ≡ 0) ⊎ (most_k < k)
of_k k (BadK.none h) = inl h
of_k k (BadK.many h) = inr h

abbrev pub bad_k : (k : ℕ) → Decider (BadK k)
bad_k k = given (either (same k 0) (less most_k k)) (k_of k) (of_k k)

-- 5
abbrev pub permutation : (n : ℕ) (order : List ℕ) → Decider (Permutation n order)
permutation n order =
    given (both (all (λ (v : ℕ). Mem v order) n (λ v. member v order)) (both (different order) (each (λ (v : ℕ). v < n) (λ v. less v n) order)))
    (λ p. record { all = p.0; once = p.1.0; only = p.1.1 }) (λ p. (p.all, (p.once, p.only)))

-- 6
module _ (n : ℕ) (bytes : List ℕ) where
  abbrev pub OtherByte : ℕ → Type 0
  OtherByte v = (get_or bytes v 0 ≢ 0) × (get_or bytes v 0 ≢ 1)

  pub set_of : (length bytes ≢ n) ⊎ Below (length bytes) OtherByte → BadSet n bytes
  set_of (inl h) = BadSet.unlike h
  set_of (inr b) = BadSet.other b.number b.below b.is.0 b.is.1

  pub of_set : BadSet n bytes → (length bytes ≢ n) ⊎ Below (length bytes) OtherByte
  of_set (BadSet.unlike h) = inl h
  of_set (BadSet.other v h x y) = inr (record { number = v; below = h; is = (x, y) })

  abbrev pub bad_set : Decider (BadSet n bytes)
  bad_set =
      given (either (unlike (length bytes) n) (some OtherByte (length bytes) (λ v. both (unlike (get_or bytes v 0) 0) (unlike (get_or bytes v 0) 1)))) set_of of_set

-- 7
module _ (chosen starts heads weights : List ℕ) where
  abbrev pub TailOut : ℕ → ℕ → Type 0
  TailOut p u = Owns starts u p × (InSet chosen u → ⊥)

  abbrev pub HeadOut : ℕ → Type 0
  HeadOut p = InSet chosen (get_or heads p 0) → ⊥

  abbrev pub OverlayParts : Type 0
  OverlayParts =
      (length starts ≢ length chosen + 1) ⊎
      (((r : Refusal) × First (graph_faults overlay_limits starts heads weights) r) ⊎
      (Below (length heads) (λ (p : ℕ). Below (nodes_of starts) (TailOut p)) ⊎ Below (length heads) HeadOut))

  pub overlay_of : OverlayParts → BadOverlay chosen starts heads weights
  overlay_of (inl h) = BadOverlay.unlike h
  overlay_of (inr (inl f)) = BadOverlay.faulty f.0 f.1
  overlay_of (inr (inr (inl b))) = BadOverlay.tail b.is.number b.number b.below b.is.is.0 b.is.is.1
  overlay_of (inr (inr (inr b))) = BadOverlay.head b.number b.below b.is

  pub of_overlay : BadOverlay chosen starts heads weights → OverlayParts
  of_overlay (BadOverlay.unlike h) = inl h
  of_overlay (BadOverlay.faulty r f) = inr (inl (r, f))
  of_overlay (BadOverlay.tail u p h o n) = inr (inr (inl (record { number = p; below = h; is = record { number = u; below = owner_node starts u p o; is = (o, n) } })))
  of_overlay (BadOverlay.head p h n) = inr (inr (inr (record { number = p; below = h; is = n })))

  abbrev pub bad_overlay : Decider (BadOverlay chosen starts heads weights)
  bad_overlay =
      given
      (either (unlike (length starts) (length chosen + 1))
      (either (some_first (graph_faults overlay_limits starts heads weights) (graph_checks overlay_limits starts heads weights))
      (either
      (some (λ (p : ℕ). Below (nodes_of starts) (TailOut p)) (length heads)
      (λ p. some (TailOut p) (nodes_of starts) (λ u. both (owns starts u p) (fails (in_set chosen u)))))
      (some HeadOut (length heads) (λ p. fails (in_set chosen (get_or heads p 0)))))))
      overlay_of of_overlay

-- 8
module _ (n s t : ℕ) where
  pub node_of : (n ≤ s) ⊎ (n ≤ t) → NoNode n s t
  node_of (inl h) = NoNode.from h
  node_of (inr h) = NoNode.to h

  pub of_node : NoNode n s t → (n ≤ s) ⊎ (n ≤ t)
  of_node (NoNode.from h) = inl h
  of_node (NoNode.to h) = inr h

  abbrev pub no_node : Decider (NoNode n s t)
  no_node = given (either (at_most n s) (at_most n t)) node_of of_node

-- 10
module _ (starts heads : List ℕ) where
  abbrev pub Joins : ℕ → ℕ → ℕ → Type 0
  Joins u v p = Owns starts u p × (get_or heads p 0 ≡ v)

  abbrev pub joined : (u v : ℕ) → Decider (Joined starts heads u v)
  joined u v =
      given (some (Joins u v) (length heads) (λ p. both (owns starts u p) (same (get_or heads p 0) v)))
      (λ b. record { place = b.number; listed = b.below; owned = b.is.0; head = b.is.1 })
      (λ j. record { number = j.place; below = j.listed; is = (j.owned, j.head) })

module _ (starts heads drive : List ℕ) where
  abbrev pub NoPlace : ℕ → Type 0
  NoPlace i = nodes_of starts ≤ get_or drive i 0

  abbrev pub Apart : ℕ → Type 0
  Apart i = (i + 1 < length drive) × (Joined starts heads (get_or drive i 0) (get_or drive (i + 1) 0) → ⊥)

  abbrev pub DriveParts : Type 0
  DriveParts = (length drive ≡ 0) ⊎ ((most_drive < length drive) ⊎ (Below (length drive) NoPlace ⊎ Below (length drive) Apart))

  pub drive_of : DriveParts → BadDrive starts heads drive
  drive_of (inl h) = BadDrive.none h
  drive_of (inr (inl h)) = BadDrive.many h
  drive_of (inr (inr (inl b))) = BadDrive.outside b.number b.below b.is
  drive_of (inr (inr (inr b))) = BadDrive.apart b.number b.is.0 b.is.1

  pub of_drive : BadDrive starts heads drive → DriveParts
  of_drive (BadDrive.none h) = inl h
  of_drive (BadDrive.many h) = inr (inl h)
  of_drive (BadDrive.outside i h n) = inr (inr (inl (record { number = i; below = h; is = n })))
  of_drive (BadDrive.apart i h n) = inr (inr (inr (record { number = i; below = omega arith; is = (h, n) })))

  abbrev pub bad_drive : Decider (BadDrive starts heads drive)
  bad_drive =
      given
      (either (same (length drive) 0)
      (either (less most_drive (length drive))
      (either (some NoPlace (length drive) (λ i. at_most (nodes_of starts) (get_or drive i 0)))
      (some Apart (length drive) (λ i. both (less (i + 1) (length drive)) (fails (joined starts heads (get_or drive i 0) (get_or drive (i + 1) 0))))))))
      drive_of of_drive

-- what the calls look for
module _ (starts heads weights : List ℕ) where
  abbrev pub cover_checks : (k : ℕ) (order : List ℕ) → Checks (cover_faults starts heads weights k order)
  cover_checks k order =
      let g = graph_checks road_limits starts heads weights in
      (g.0, (g.1.0, (g.1.1.0, (check K (bad_k k), (check Order (fails (permutation (nodes_of starts) order)), tt)))))

  abbrev pub set_checks : (set : List ℕ) → Checks (road_and_set_faults starts heads weights set)
  set_checks set =
      let g = graph_checks road_limits starts heads weights in
      (g.0, (g.1.0, (g.1.1.0, (check Set (bad_set (nodes_of starts) set), tt))))

  abbrev pub drive_checks : (set drive : List ℕ) → Checks (drive_faults starts heads weights set drive)
  drive_checks set drive =
      let s = set_checks set in
      (s.0, (s.1.0, (s.1.1.0, (s.1.1.1.0, (check Drive (bad_drive starts heads drive), tt)))))

  abbrev pub pair_checks : (set starts' heads' weights' : List ℕ) (s t : ℕ) → Checks (pair_input starts heads weights set starts' heads' weights' s t)
  pair_checks set starts' heads' weights' s t =
      let c = set_checks set in
      (c.0, (c.1.0, (c.1.1.0, (c.1.1.1.0, (check Overlay (bad_overlay set starts' heads' weights'), (check Node (no_node (nodes_of starts) s t), tt))))))
