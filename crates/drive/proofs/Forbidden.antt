-- Wrong versions that the contract rules out.
use mathlib.Core.Path.{◌≡◌, refl, ap}
use mathlib.Core.Logic.{◌≢◌}
use mathlib.Core.List.{List, [], ◌∷◌}
use Prim.Native.Nat.{ℕ, zero, suc, ◌+◌, ◌≤◌, ◌<◌}
use native.Mathlib.Omega.{arith}
use lib.ListN.{length, get_or, take}
use lib.Seq.{get_or-take}
use Rattle.paths.specs.Graphs.{Proper}
use Rattle.paths.proofs.Lists.{each_mem, mem_at}
use Rattle.paths.proofs.Weights.{path_short}
use Rattle.road.specs.Drives.{Joined}
use Rattle.road.specs.Limits.{most_drive, road_limits}
use Rattle.road.specs.Refusals.{None, Said, answer}
use Rattle.road.specs.Roads.{nodes_of, road}
use Rattle.road.specs.workings.Sound.{Sound}
use Rattle.road.proofs.Faults.{none_of_sound, set_clear}
use Rattle.road.proofs.Refusals.{first_not_none, untold}
use Rattle.road.proofs.Rows.{owner_node}
use Rattle.rule.specs.Promise.{Covers}
use Rattle.rule.specs.Rule.{PathOf}
use Rattle.drive.specs.Calls.{Outcome, refused, thinned, faults_of}
use Rattle.drive.specs.Promise.{Includes}
use Rattle.drive.specs.Thinning.{IsDrive, Ascending, ThinnedDrive}
use Rattle.drive.proofs.Demands.{answer_of, outcome_one}
use Rattle.drive.proofs.Outcomes.{drive_passes}

module _ {starts heads weights bytes drive positions : List ℕ} where
  -- It refuses everything: where nothing is at fault, the outcome is an answer.
  pub accepted :
      {said : Said} {after : List ℕ} → Outcome starts heads weights bytes drive positions said after → None (faults_of starts heads weights bytes drive positions) → said.number ≡ 0
  accepted (refused {r = r} f) n = absurd (first_not_none (faults_of starts heads weights bytes drive positions) r f n)
  accepted (thinned m t) n = refl

  -- Nothing is at fault with a drive of 1 to 4,096 nodes over a well-formed graph, a byte of 0 or 1 for each node, and as many entries.
  pub accepts :
      {said : Said} {after : List ℕ} → Outcome starts heads weights bytes drive positions said after → Sound road_limits starts heads weights → length bytes ≡ nodes_of starts →
      ((v : ℕ) → v < length bytes → get_or bytes v 0 ≤ 1) → IsDrive starts heads drive → length drive ≢ 0 → length drive ≤ most_drive → length positions ≡ length drive →
      said.number ≡ 0
  accepts o g s b d a m r =
      let n = none_of_sound road_limits starts heads weights g in
      accepted o
      (n.0, (n.1.0, (n.1.1.0, (untold (set_clear (nodes_of starts) bytes s b), (untold (drive_passes starts heads drive d a m), (untold (λ u. u r), tt))))))

  -- A made-up count: it is the length of the thinned drive.
  pub counts :
      {said : Said} {after kept : List ℕ} → Outcome starts heads weights bytes drive positions said after → None (faults_of starts heads weights bytes drive positions) →
      ThinnedDrive bytes drive kept → said ≡ answer (length kept ∷ [])
  counts o n t = (outcome_one o (thinned n t)).0

  -- A refusal touches the result: it leaves the slice as it was.
  pub refusal_leaves : {said : Said} {after : List ℕ} → Outcome starts heads weights bytes drive positions said after → said.number ≢ 0 → after ≡ positions
  refusal_leaves (refused f) n = refl
  refusal_leaves (thinned m t) n = absurd (n refl)

-- an earlier number of an ascending list is below a later one
earlier : (l : List ℕ) (p q : ℕ) → Ascending l → p < q → q < length l → get_or l p 0 < get_or l q 0
earlier [] p q a h b = absurd (omega arith)
earlier (x ∷ l) p zero a h b = absurd (omega arith)
earlier (x ∷ l) zero (suc q) a h b = each_mem (λ (y : ℕ). x < y) (get_or l q 0) l a.0 (mem_at l q (omega arith))
earlier (x ∷ l) (suc p) (suc q) a h b = earlier l p q a.1 (omega arith) (omega arith)

module _ {starts heads weights bytes drive positions : List ℕ} {count : ℕ} {after : List ℕ} where
  -- The positions do not ascend: an earlier entry is below a later one, up to the count.
  pub ascending : Outcome starts heads weights bytes drive positions (answer (count ∷ [])) after → (p q : ℕ) → p < q → q < count → get_or after p 0 < get_or after q 0
  ascending o p q h l =
      let a = answer_of o in
      omega
      (arith, earlier (take count after) p q a.is_thinned.ascends h (omega (arith, a.counted)), get_or-take count after p 0 (omega arith), get_or-take count after q 0 l)

  -- Some pair of neighbours is not looked at, be it the last: in an accepted drive each is joined to the next.
  pub pairs_joined :
      Outcome starts heads weights bytes drive positions (answer (count ∷ [])) after → (i : ℕ) → i + 1 < length drive →
      Joined starts heads (get_or drive i 0) (get_or drive (i + 1) 0)
  pairs_joined o = (answer_of o).is_drive.joins

-- The one pair of the drive 2, 1 over Ring is not looked at, or its arc is looked for at the wrong tail: no arc leads from 2 to 1, though one leads from 1 to 2.
pub against_the_ring :
    {weights bytes positions : List ℕ} {count : ℕ} {after : List ℕ} →
    Outcome (0 ∷ 1 ∷ 2 ∷ 3 ∷ []) (1 ∷ 2 ∷ 0 ∷ []) weights bytes (2 ∷ 1 ∷ []) positions (answer (count ∷ [])) after → ⊥
against_the_ring o = no_arc (pairs_joined o 0 (omega arith))
  where
    no_arc : Joined (0 ∷ 1 ∷ 2 ∷ 3 ∷ []) (1 ∷ 2 ∷ 0 ∷ []) 2 1 → ⊥
    no_arc j =
        let place : j.place ≡ 2 = omega (arith, j.owned.from, j.owned.below) in
        omega (arith, ap (λ (p : ℕ). get_or {A = ℕ} (1 ∷ 2 ∷ 0 ∷ []) p 0) place, j.head)

-- It keeps something for a van that turns back and forth. Two nodes joined both ways and k = 3: no path has three nodes, so the empty set
-- is a cover, and of the drive 0, 1, 0 nothing is kept. Three positions in a row whose nodes are not different have no assurance.
module _ (weights : List ℕ) where
  abbrev Pair : List ℕ → Type 0
  Pair l = PathOf (road (0 ∷ 1 ∷ 2 ∷ []) (1 ∷ 0 ∷ []) weights) 3 l

  two_nodes : Proper (road (0 ∷ 1 ∷ 2 ∷ []) (1 ∷ 0 ∷ []) weights)
  two_nodes = record { tail = λ {u} {v} {w} a. owner_node (0 ∷ 1 ∷ 2 ∷ []) u a.place a.owned; head = λ {u} {v} {w} a. head a.place a.listed v a.head }
    where
      head : (p : ℕ) → p < 2 → (v : ℕ) → get_or {A = ℕ} (1 ∷ 0 ∷ []) p 0 ≡ v → v < 2
      head zero h v e = omega arith
      head (suc zero) h v e = omega arith
      head (suc (suc p)) h v e = absurd (omega arith)

  pub empty_covers : Covers Pair (0 ∷ 0 ∷ [])
  empty_covers = record { meets = λ l c. absurd (omega (arith, path_short two_nodes c.path, ap length c.whole, c.nodes)) }

  pub turns_back :
      {positions : List ℕ} {count : ℕ} {after : List ℕ} → Outcome (0 ∷ 1 ∷ 2 ∷ []) (1 ∷ 0 ∷ []) weights (0 ∷ 0 ∷ []) (0 ∷ 1 ∷ 0 ∷ []) positions (answer (count ∷ [])) after →
      Includes (take count after) 0 3 → ⊥
  turns_back o i = outside i.position ((answer_of o).is_thinned.only i.position i.is_kept).in_set
    where
      outside : (p : ℕ) → ◌≡◌ {A = ℕ} (get_or (0 ∷ 0 ∷ []) (get_or (0 ∷ 1 ∷ 0 ∷ []) p 0) 0) 1 → ⊥
      outside zero e = omega arith
      outside (suc zero) e = omega arith
      outside (suc (suc zero)) e = omega arith
      outside (suc (suc (suc p))) e = omega arith
