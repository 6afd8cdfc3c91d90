-- The call: from its checks to the outcome, and what the outcome promises.
use mathlib.Core.Path.{◌≡◌, sym, ap, subst, subst₂, ◌∙◌}
use mathlib.Core.List.{List, [], ◌∷◌}
use Prim.Native.Nat.{ℕ, ◌+◌, ◌≤◌, ◌<◌}
use native.Mathlib.Omega.{arith}
use lib.ListN.{length, replicate}
use Rattle.paths.specs.Lists.{Each}
use Rattle.paths.proofs.Lists.{each_mem, mem_each}
use Rattle.road.specs.declared.Refusal.{Refusal}
use Rattle.road.specs.declared.NodeCount.{NodeCount}
use Rattle.std.specs.Prelude.{Result, Ok, Err}
use Rattle.std.specs.Result.{IsErrAnd}
use Rattle.road.specs.Counting.{times}
use Rattle.road.specs.Chains.{cover_faults}
use Rattle.road.specs.Faults.{lengths_fault}
use Rattle.road.specs.Limits.{road_limits, overlay_limits}
use Rattle.road.specs.Refusals.{None, Said, refusal, answer}
use Rattle.road.specs.workings.Verdicts.{Verdict, Judged, Judges}
use Rattle.road.specs.Roads.{nodes_of, road}
use Rattle.road.specs.workings.Sound.{Sound}
use Rattle.turning.specs.workings.Turning.{Roomy, Turned}
use Rattle.road.proofs.Faults.{sound_wider, road_proper, long_at}
use Rattle.road.proofs.Left.{cover_left}
use Rattle.road.proofs.Refusals.{judged_alone, stops, goes_on, unheld}
use Rattle.cover.specs.Calls.{Areas, Outcome, refused, covered, answered, asked_lengths, faults_of, said_of}
use Rattle.cover.specs.workings.Ready.{Ready, Built}
use Rattle.pieces.specs.workings.Pieces.{Kept}
use Rattle.rule.specs.Rule.{PathOf, Prunes}
use Rattle.pieces.specs.workings.Steps.{Prunable}
use Rattle.pieces.proofs.Bounding.{pieced_none}

module _ (starts heads weights : List ℕ) (k : ℕ) (order : List ℕ) (a : Areas) (r : Ready starts heads weights k order a) where
  wide_sound : Sound overlay_limits starts heads weights
  wide_sound = sound_wider starts heads weights r.sound

  pub room_to_turn : Roomy starts heads weights a.starts a.heads a.weights
  room_to_turn =
      record { sound = wide_sound; ends_long = omega (arith, r.starts_long, r.sound.sized.least); heads_long = r.heads_long; weights_long = r.weights_long }

  pub ready_to_prune :
      (cover starts' heads' weights' : List ℕ) → Turned starts heads weights starts' heads' weights' → length starts' ≡ length a.starts → length cover ≡ length a.cover →
      Prunable starts heads weights starts' heads' weights' cover
  ready_to_prune cover starts' heads' weights' t e f =
      record { sound = wide_sound; turned = t; as_long = omega (arith, r.starts_long, r.sound.sized.least); bytes = f ∙ r.cover_long }

  -- no node is dropped yet
  pub ready_pieces :
      (cover sizes pieces : List ℕ) → cover ≡ replicate (length a.cover) 1 → length cover ≡ length a.cover → length sizes ≡ length a.sizes → length pieces ≡ length a.pieces →
      Kept (road starts heads weights) k cover sizes pieces
  ready_pieces cover sizes pieces e c s p =
      record {
        pieced = pieced_none (road_proper road_limits starts heads weights r.sound) (e ∙ ap (λ (x : ℕ). replicate x 1) r.cover_long) (s ∙ r.sizes_long);
        sizes_long = omega (arith, r.cover_long, r.sizes_long);
        pieces_long = omega (arith, r.cover_long, r.pieces_long);
      }

  pub order_of_nodes : (cover : List ℕ) → length cover ≡ length a.cover → Each (λ (v : ℕ). v < length cover) order
  order_of_nodes cover e =
      mem_each (λ (v : ℕ). v < length cover) order (λ v h. omega (arith, each_mem (λ (x : ℕ). x < nodes_of starts) v order r.order_right.only h, r.cover_long))

  -- filled with zeros over a length that is known
  cleared : (l : List ℕ) (n m : ℕ) → l ≡ replicate n 0 → n ≡ m → l ≡ replicate m 0
  cleared l n m e f = e ∙ ap (λ (x : ℕ). replicate x 0) f

  pub built :
      (after : Areas) (ones : List ℕ) (s h w p q : ℕ) (count : ℕ) → ones ≡ replicate (length a.cover) 1 → Prunes (PathOf (road starts heads weights) k) order ones after.cover →
      (after.starts ≡ replicate s 0) × (after.heads ≡ replicate h 0) × (after.weights ≡ replicate w 0) → s ≡ length a.starts → h ≡ length a.heads → w ≡ length a.weights →
      (after.marks ≡ replicate (length a.marks) 0) × (after.pieces ≡ replicate p 0) × (after.sizes ≡ replicate q 0) → p ≡ length a.pieces → q ≡ length a.sizes →
      count ≡ times 1 after.cover → Built starts heads weights k order after count
  built after ones s h w l q count e p z sl hl wl y pl ql c =
      record {
        pruned = subst (λ (l : List ℕ). Prunes (PathOf (road starts heads weights) k) order l after.cover) (e ∙ ap (λ (x : ℕ). replicate x 1) r.cover_long) p;
        count_right = c;
        zeros = same;
      }
    where
      starts_zero : after.starts ≡ replicate (nodes_of starts + 1) 0
      starts_zero = cleared after.starts s (nodes_of starts + 1) z.0 (sl ∙ r.starts_long)

      heads_zero : after.heads ≡ replicate (length heads) 0
      heads_zero = cleared after.heads h (length heads) z.1 (hl ∙ r.heads_long)

      weights_zero : after.weights ≡ replicate (length heads) 0
      weights_zero = cleared after.weights w (length heads) z.2 (wl ∙ r.weights_long)

      marks_zero : after.marks ≡ replicate (nodes_of starts) 0
      marks_zero = cleared after.marks (length a.marks) (nodes_of starts) y.0 r.marks_long

      pieces_zero : after.pieces ≡ replicate (nodes_of starts) 0
      pieces_zero = cleared after.pieces l (nodes_of starts) y.1 (pl ∙ r.pieces_long)

      sizes_zero : after.sizes ≡ replicate (nodes_of starts) 0
      sizes_zero = cleared after.sizes q (nodes_of starts) y.2 (ql ∙ r.sizes_long)

      same : after ≡ answered (nodes_of starts) (length heads) after.cover
      same =
          λ i.
          record {
            cover = after.cover;
            starts = starts_zero i;
            heads = heads_zero i;
            weights = weights_zero i;
            marks = marks_zero i;
            pieces = pieces_zero i;
            sizes = sizes_zero i;
          }

module _ (starts heads weights : List ℕ) (k : ℕ) (order : List ℕ) where
  pub few_nodes : (v : Verdict) → Judges (cover_faults starts heads weights k order) v → v ≡ Ok tt → nodes_of starts ≤ 4096
  few_nodes v j p = omega (arith, (cover_left starts heads weights k order (j.passed p)).sound.sized.most)

-- what `?` hands on says the refusal
handed_said : (w : Result NodeCount Refusal) (r : Refusal) → IsErrAnd w (λ s. s ≡ r) → said_of w ≡ refusal r
handed_said (Ok x) r h = elim h [ ]
handed_said (Err s) r h = ap refusal h

-- From the checks to the outcome.
module _ (starts heads weights : List ℕ) (k : ℕ) (order : List ℕ) (a : Areas) where
  pub refused_early :
      (v : Verdict) (r : Refusal) (w : Result NodeCount Refusal) → Judges (cover_faults starts heads weights k order) v → v ≡ Err r → IsErrAnd w (λ s. s ≡ r) →
      Outcome starts heads weights k order a (said_of w) a
  refused_early v r w j e h =
      subst (λ (s : Said). Outcome starts heads weights k order a s a) (sym (handed_said w r h))
      (refused ((stops (cover_faults starts heads weights k order) (lengths_fault (asked_lengths (nodes_of starts) (length heads) a) ∷ []) e j).refused r e))

  module _ (u : Verdict) (j : Judges (cover_faults starts heads weights k order) u) (p : u ≡ Ok tt) where
    module _ (v : Verdict) (l : Judged (lengths_fault (asked_lengths (nodes_of starts) (length heads) a)) v) where
      all_judged : Judges (faults_of starts heads weights k order a) v
      all_judged = goes_on (cover_faults starts heads weights k order) (lengths_fault (asked_lengths (nodes_of starts) (length heads) a) ∷ []) p j (judged_alone l)

      pub refused_late : (r : Refusal) (w : Result NodeCount Refusal) → v ≡ Err r → IsErrAnd w (λ s. s ≡ r) → Outcome starts heads weights k order a (said_of w) a
      refused_late r w e h = subst (λ (s : Said). Outcome starts heads weights k order a s a) (sym (handed_said w r h)) (refused (all_judged.refused r e))

      module _ (q : v ≡ Ok tt) where
        pub none_holds : None (faults_of starts heads weights k order a)
        none_holds = all_judged.passed q

        pub ready : Ready starts heads weights k order a
        ready =
            let x = cover_left starts heads weights k order (j.passed p) in
            let y = long_at (asked_lengths (nodes_of starts) (length heads) a) (unheld (l.passed q)) in
            record {
              sound = x.sound;
              k_right = x.k_right;
              order_right = x.order_right;
              cover_long = y 0;
              starts_long = y 1;
              heads_long = y 2;
              weights_long = y 3;
              marks_long = y 4;
              pieces_long = y 5;
              sizes_long = y 6;
            }

        pub covered_so : (after : Areas) (count : ℕ) → Built starts heads weights k order after count → Outcome starts heads weights k order a (answer (count ∷ [])) after
        covered_so after count b =
            subst₂ (λ (c : ℕ) (x : Areas). Outcome starts heads weights k order a (answer (c ∷ [])) x) (sym b.count_right) (sym b.zeros)
            (covered none_holds b.pruned)
