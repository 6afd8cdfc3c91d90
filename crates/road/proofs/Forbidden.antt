-- Verdicts that the checks' contracts rule out: what each says is taken, is not.
use mathlib.Core.Path.{◌≡◌, sym, subst}
use mathlib.Core.Logic.{◌≢◌}
use mathlib.Core.List.{List, [], ◌∷◌}
use Prim.Native.Nat.{ℕ, zero, suc, ◌+◌, ◌<◌}
use native.Mathlib.Omega.{arith}
use lib.ListN.{length, get_or}
use Rattle.paths.specs.Lists.{Mem, Different}
use Rattle.paths.proofs.Lists.{mem_at}
use Rattle.road.specs.declared.Limits.{Limits}
use Rattle.road.specs.declared.Refusal.{Refusal}
use Rattle.std.specs.Prelude.{Ok}
use Rattle.road.specs.Drives.{Joined, BadDrive, drive_fault}
use Rattle.road.specs.Faults.{BadSizes, BadSetSize, BadK, sizes, set_size, k_fault, order_fault, graph_faults}
use Rattle.road.specs.Limits.{road_limits}
use Rattle.road.specs.Refusals.{Of}
use Rattle.road.specs.Roads.{Owns}
use Rattle.road.specs.workings.Verdicts.{Verdict, Judged, Judges}
use Rattle.road.proofs.Faults.{sound_of}
use Rattle.road.proofs.Refusals.{unheld}

-- no number of a list of different ones stands at two places
two_places : (l : List ℕ) (i j : ℕ) → Different l → i < j → j < length l → get_or l i 0 ≡ get_or l j 0 → ⊥
two_places [] i j d h b e = omega arith
two_places (x ∷ l) i zero d h b e = omega arith
two_places (x ∷ l) zero (suc j) d h b e = d.0 (subst (λ (y : ℕ). Mem y l) (sym e) (mem_at l j (omega arith)))
two_places (x ∷ l) (suc i) (suc j) d h b e = two_places l i j d.1 (omega arith) (omega arith) e

module _ {v : Verdict} where
  caught : {r : Refusal} {P : Type 0} → Judged (Of r P) v → P → v ≢ Ok tt
  caught j p e = unheld (j.passed e) p

  -- 1: 4,098 starts, 16,385 road arcs, a lone set of 4,097 nodes
  pub starts_4098 : {starts heads weights : List ℕ} → Judged (sizes road_limits starts heads weights) v → length starts ≡ 4098 → v ≢ Ok tt
  starts_4098 j h = caught j (BadSizes.many_starts (omega arith))

  pub arcs_16385 : {starts heads weights : List ℕ} → Judged (sizes road_limits starts heads weights) v → length heads ≡ 16385 → v ≢ Ok tt
  arcs_16385 j h = caught j (BadSizes.many_heads (omega arith))

  pub set_4097 : {nodes : List ℕ} → Judged (set_size nodes) v → length nodes ≡ 4097 → v ≢ Ok tt
  set_4097 j h = caught j (BadSetSize.many (omega arith))

  -- 3: an arc of weight 1,000,001, one from a node to itself, two of one tail with equal heads
  pub weight_1000001 : {starts heads weights : List ℕ} → Judges (graph_faults road_limits starts heads weights) v → (p : ℕ) → p < length heads → get_or weights p 0 ≡ 1000001 → v ≢ Ok tt
  weight_1000001 {starts} {heads} {weights} j p h w e = omega (arith, (sound_of road_limits starts heads weights (j.passed e)).light p h)

  pub self_loop : {L : Limits} {starts heads weights : List ℕ} → Judges (graph_faults L starts heads weights) v → (u p : ℕ) → Owns starts u p → get_or heads p 0 ≡ u → v ≢ Ok tt
  self_loop {L} {starts} {heads} {weights} j u p o s e = (sound_of L starts heads weights (j.passed e)).unlooped u p o s

  pub equal_heads :
      {L : Limits} {starts heads weights : List ℕ} → Judges (graph_faults L starts heads weights) v → (u p : ℕ) → Owns starts u p → Owns starts u (p + 1) →
      get_or heads p 0 ≡ get_or heads (p + 1) 0 → v ≢ Ok tt
  equal_heads {L} {starts} {heads} {weights} j u p o q s e = omega (arith, (sound_of L starts heads weights (j.passed e)).ascends u p o q)

  -- 4: k of 33
  pub k_33 : Judged (k_fault 33) v → v ≢ Ok tt
  k_33 j = caught j (BadK.many (omega arith))

  -- 5: an order with a node twice
  pub repeat : {n : ℕ} {order : List ℕ} → Judged (order_fault n order) v → (i j : ℕ) → i < j → j < length order → get_or order i 0 ≡ get_or order j 0 → v ≢ Ok tt
  repeat {order = order} g i j h b e = caught g (λ p. two_places order i j p.once h b e)

  -- 10: a drive of 4,097 nodes, or with two neighbours that no arc joins, be they the last
  pub drive_4097 : {starts heads drive : List ℕ} → Judged (drive_fault starts heads drive) v → length drive ≡ 4097 → v ≢ Ok tt
  drive_4097 j h = caught j (BadDrive.many (omega arith))

  pub pair_apart :
      {starts heads drive : List ℕ} → Judged (drive_fault starts heads drive) v → (i : ℕ) → i + 1 < length drive → (Joined starts heads (get_or drive i 0) (get_or drive (i + 1) 0) → ⊥) →
      v ≢ Ok tt
  pair_apart j i h n = caught j (BadDrive.apart i h n)
