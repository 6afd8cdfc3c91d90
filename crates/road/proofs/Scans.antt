-- Check 3 on its way: one arc, one row, all rows.
use mathlib.Core.Path.{◌≡◌, ap, subst, ◌∙◌}
use mathlib.Core.Logic.{inl, inr, ◌≢◌}
use mathlib.Core.List.{List}
use Prim.Native.Nat.{ℕ, ◌+◌, ◌-◌, ◌≤◌, ◌<◌}
use native.Mathlib.Omega.{arith}
use borrow.Author.Count.{below_more}
use lib.ListN.{length, get_or}
use Rattle.road.specs.declared.Limits.{Limits}
use Rattle.road.specs.declared.Refusal.{Refusal}
use Rattle.road.specs.declared.Refusal.TheVariants.{Arcs}
use Rattle.road.specs.Refusals.{None, First}
use Rattle.road.specs.Roads.{nodes_of, Owns}
use Rattle.road.specs.workings.Sound.{Listed}
use Rattle.road.specs.Faults.{HeadOutside, HeadIsTail, HeadFalls, TooHeavy, arc_faults, ArcFault}
use Rattle.road.specs.workings.Scans.{Placed, ClearTo}
use Rattle.road.proofs.Refusals.{first_not_none, told, untold}
use Rattle.road.proofs.Rows.{owner_one, owned_listed}

module _ (starts heads weights : List ℕ) (tail p : ℕ) (g : Placed starts heads weights tail p) where
  own_tail : (u : ℕ) → Owns starts u p → u ≡ tail
  own_tail u o = owner_one starts heads g.rising u tail p o g.owned

  -- the first arc of a row has none before it
  pub first_of_row : p ≤ get_or starts tail 0 → HeadFalls starts heads p → ⊥
  first_of_row h f =
      let same = ap (λ (u : ℕ). get_or starts u 0) (own_tail f.tail f.owned) in
      omega (arith, f.before.from, f.next, same)

  pub falls_after : get_or starts tail 0 < p → get_or heads p 0 ≤ get_or heads (p - 1) 0 → HeadFalls starts heads p
  falls_after h le =
      record {
        tail = tail;
        former = p - 1;
        next = omega arith;
        before = record { from = omega arith; below = omega (arith, g.owned.below) };
        owned = g.owned;
        falls = le;
      }

  pub rises_after : get_or starts tail 0 < p → get_or heads (p - 1) 0 < get_or heads p 0 → HeadFalls starts heads p → ⊥
  rises_after h lt f =
      let same : p - 1 ≡ f.former = omega (arith, f.next) in
      omega (arith, f.falls, ap (λ (q : ℕ). get_or heads q 0) same)

  pub head_apart : get_or heads p 0 ≢ tail → HeadIsTail starts heads p → ⊥
  head_apart n o = n (o.same ∙ own_tail o.tail o.owned)

-- a place of a tail's row
pub placed : (starts heads weights : List ℕ) → Listed starts heads weights → (tail p : ℕ) → tail < nodes_of starts → get_or starts tail 0 ≤ p → p < get_or starts (tail + 1) 0 → Placed starts heads weights tail p
placed starts heads weights g tail p node from below =
    let owned : Owns starts tail p = record { from = from; below = below } in
    let listed = owned_listed starts heads g.rising tail p owned in
    record { rising = g.rising; owned = owned; node = node; next = omega arith; head = listed; weight = omega (arith, g.alike) }

module _ (L : Limits) (starts heads weights : List ℕ) where
  -- the fault that is the first of an arc's four
  module _ (p : ℕ) where
    pub first_outside : HeadOutside starts heads p → First (arc_faults L starts heads weights p) Arcs
    first_outside f = inl (told f)

    pub first_loop : (HeadOutside starts heads p → ⊥) → HeadIsTail starts heads p → First (arc_faults L starts heads weights p) Arcs
    first_loop a f = inr (untold a, inl (told f))

    pub first_falls :
        (HeadOutside starts heads p → ⊥) → (HeadIsTail starts heads p → ⊥) → HeadFalls starts heads p → First (arc_faults L starts heads weights p) Arcs
    first_falls a b f = inr (untold a, inr (untold b, inl (told f)))

    pub first_heavy :
        (HeadOutside starts heads p → ⊥) → (HeadIsTail starts heads p → ⊥) → (HeadFalls starts heads p → ⊥) → TooHeavy L weights p →
        First (arc_faults L starts heads weights p) Arcs
    first_heavy a b c f = inr (untold a, inr (untold b, inr (untold c, inl (told f))))

  -- a row's places, one after the other
  pub clear_more : (p : ℕ) → ClearTo L starts heads weights p → None (arc_faults L starts heads weights p) → ClearTo L starts heads weights (p + 1)
  clear_more p c n = record { clear = below_more (λ (q : ℕ). None (arc_faults L starts heads weights q)) p c.clear n }

  pub clear_none : ClearTo L starts heads weights 0
  clear_none = record { clear = λ q h. absurd (omega arith) }

  pub clear_at : (p q : ℕ) → p ≡ q → ClearTo L starts heads weights p → ClearTo L starts heads weights q
  clear_at p q e c = subst (λ (x : ℕ). ClearTo L starts heads weights x) e c

  -- the first bad arc, and that there is none
  pub found : (p : ℕ) (r : Refusal) → p < length heads → ClearTo L starts heads weights p → First (arc_faults L starts heads weights p) r → ArcFault L starts heads weights r
  found p r h c f = record { place = p; listed = h; here = f; before = c.clear }

  pub found_none : (p : ℕ) → length heads ≤ p → ClearTo L starts heads weights p → (r : Refusal) → ArcFault L starts heads weights r → ⊥
  found_none p h c r f = first_not_none (arc_faults L starts heads weights f.place) r f.here (c.clear f.place (omega (arith, f.listed)))
