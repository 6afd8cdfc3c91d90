-- Check 7: from the rows' ends to the fault.
use mathlib.Core.Path.{◌≡◌, refl, sym, subst}
use mathlib.Core.List.{List}
use Prim.Native.Nat.{ℕ, ◌+◌, ◌≤◌, ◌<◌}
use native.Mathlib.Decide.{ℕ_discrete}
use native.Mathlib.Omega.{arith}
use lib.ListN.{length, get_or}
use Rattle.road.specs.declared.Refusal.{Refusal}
use Rattle.road.specs.declared.Refusal.TheVariants.{Overlay}
use Rattle.std.specs.Prelude.{Ok, Err, is_ok}
use Rattle.road.specs.declared.Span.{Span}
use Rattle.road.specs.workings.Scans.{RowOf}
use Rattle.road.specs.Faults.{InSet, graph_faults}
use Rattle.road.specs.Limits.{overlay_limits}
use Rattle.road.specs.workings.Verdicts.{Verdict, Judges}
use Rattle.road.specs.Roads.{Owns}
use Rattle.road.specs.workings.Sound.{Sound}
use Rattle.road.proofs.Faults.{sound_of}
use Rattle.road.proofs.Refusals.{first_not_none, not_both, refuses}
use Rattle.road.proofs.Rows.{owner_node, owned_listed, owner_of}
use Rattle.overlay.specs.Lent.{BadOverlay}
use Rattle.overlay.specs.workings.Ends.{RowEnds, RowEndsTo, EndsBelow, JudgesRow}

-- a place within the row that the code goes over is one of the tail's
pub owned_at : {starts : List ℕ} {u : ℕ} (r : Span) (p : ℕ) → RowOf starts u r → r.first ≤ p → p < r.end → Owns starts u p
owned_at r p w h g = record { from = omega (arith, w.first); below = omega (arith, w.end) }

module _ (chosen starts heads : List ℕ) (u : ℕ) where
  pub ends_none : (p : ℕ) → p ≡ get_or starts u 0 → RowEndsTo chosen starts heads u p
  ends_none p e = record { tails = λ q h o. absurd (omega (arith, o.from)); heads_in = λ q h o. absurd (omega (arith, o.from)) }

  pub ends_more : (p : ℕ) → RowEndsTo chosen starts heads u p → InSet chosen u → InSet chosen (get_or heads p 0) → RowEndsTo chosen starts heads u (p + 1)
  ends_more p g i j = record { tails = λ q h o. i; heads_in = λ q h o. by q h o (ℕ_discrete q p) }
    where
      by : (q : ℕ) → q < p + 1 → Owns starts u q → Dec (q ≡ p) → InSet chosen (get_or heads q 0)
      by q h o (yes e) = subst (λ (k : ℕ). InSet chosen (get_or heads k 0)) (sym e) j
      by q h o (no n) = g.heads_in q (omega arith) o

  pub ends_all : (p end : ℕ) → RowEndsTo chosen starts heads u p → end ≡ get_or starts (u + 1) 0 → end ≤ p → RowEnds chosen starts heads u
  ends_all p end g e h = record { tails = λ q o. g.tails q (omega (arith, o.below)) o; heads_in = λ q o. g.heads_in q (omega (arith, o.below)) o }

module _ (chosen starts heads : List ℕ) where
  pub rows_none : EndsBelow chosen starts heads 0
  rows_none = record { rows = λ v h. absurd (omega arith) }

  pub rows_more : (u : ℕ) → EndsBelow chosen starts heads u → RowEnds chosen starts heads u → EndsBelow chosen starts heads (u + 1)
  rows_more u g r = record { rows = λ v h. by v h (ℕ_discrete v u) }
    where
      by : (v : ℕ) → v < u + 1 → Dec (v ≡ u) → RowEnds chosen starts heads v
      by v h (yes e) = subst (λ (k : ℕ). RowEnds chosen starts heads k) (sym e) r
      by v h (no n) = g.rows v (omega arith)

pub graph_sound : (starts heads weights : List ℕ) (v : Verdict) → Judges (graph_faults overlay_limits starts heads weights) v → v ≡ Ok tt → Sound overlay_limits starts heads weights
graph_sound starts heads weights v j e = sound_of overlay_limits starts heads weights (j.passed e)

-- a verdict whose refusal was changed passes where the first did, and refuses where it did
pub map_passed : {v w : Verdict} → is_ok w ≡ is_ok v → w ≡ Ok tt → v ≡ Ok tt
map_passed {v = Ok x} e p = refl
map_passed {v = Err r} e p = absurd (let z : ◌≡◌ {A = ℕ} 0 1 = cc in omega arith)

pub map_refused : {v w : Verdict} {s : Refusal} → is_ok w ≡ is_ok v → w ≡ Err s → (r : Refusal) × (v ≡ Err r)
map_refused {v = Ok x} e p = absurd (let z : ◌≡◌ {A = ℕ} 0 1 = cc in omega arith)
map_refused {v = Err r} e p = (r, refl)

module _ (chosen starts heads weights : List ℕ) where
  pub row_passes : (u : ℕ) → RowEnds chosen starts heads u → JudgesRow chosen starts heads weights u (Ok tt)
  row_passes u g = record { passed = λ e. g; refused = λ r e. absurd (not_both refl e) }

  pub row_refused : (u : ℕ) → BadOverlay chosen starts heads weights → JudgesRow chosen starts heads weights u (Err Overlay)
  row_refused u b = record { passed = λ e. absurd (not_both e refl); refused = λ r e. (refuses b).refused r e }

  module _ (s : Sound overlay_limits starts heads weights) (u p : ℕ) (o : Owns starts u p) where
    pub tail_outside : (InSet chosen u → ⊥) → BadOverlay chosen starts heads weights
    tail_outside n = BadOverlay.tail u p (owned_listed starts heads s.rising u p o) o n

    pub head_outside : (InSet chosen (get_or heads p 0) → ⊥) → BadOverlay chosen starts heads weights
    head_outside n = BadOverlay.head p (owned_listed starts heads s.rising u p o) n

  module _ (v : Verdict) (j : Judges (graph_faults overlay_limits starts heads weights) v) where
    pub graph_faulty : (r : Refusal) → v ≡ Err r → BadOverlay chosen starts heads weights
    graph_faulty r e = BadOverlay.faulty r (j.refused r e)

    pub all_in : v ≡ Ok tt → (u : ℕ) → length starts ≡ length chosen + 1 → length chosen ≤ u → EndsBelow chosen starts heads u → BadOverlay chosen starts heads weights → ⊥
    all_in e u l h g (BadOverlay.unlike n) = n l
    all_in e u l h g (BadOverlay.faulty r f) = first_not_none (graph_faults overlay_limits starts heads weights) r f (j.passed e)
    all_in e u l h g (BadOverlay.tail x p k o n) = n ((g.rows x (omega (arith, owner_node starts x p o))).tails p o)
    all_in e u l h g (BadOverlay.head p k n) =
        let o = owner_of starts heads (graph_sound starts heads weights v j e).rising p k in
        n ((g.rows o.0 (omega (arith, owner_node starts o.0 p o.1))).heads_in p o.1)
