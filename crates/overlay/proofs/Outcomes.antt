-- The call: from its checks to the outcome.
use mathlib.Core.Path.{◌≡◌, sym, ap, subst, subst₂, ◌∙◌}
use mathlib.Core.Logic.{◌⊎◌, inl}
use mathlib.Core.List.{List, [], ◌∷◌, ◌++◌}
use Prim.Native.Nat.{ℕ, ◌+◌, ◌*◌, ◌≤◌, ◌<◌}
use native.Mathlib.Nat.{mul-le-mul_right}
use native.Mathlib.Omega.{arith}
use lib.ListN.{length, get_or, take, drop, replicate, length-replicate, length-drop, take-append-drop}
use lib.Seq.{get_or-drop, ext_get_or, length-take-le}
use Rattle.paths.specs.Graphs.{arcs_of}
use Rattle.paths.proofs.Weights.{path_light}
use Rattle.road.specs.declared.Refusal.{Refusal}
use Rattle.road.specs.declared.Refusal.TheVariants.{Room}
use Rattle.road.specs.declared.ArcCount.{ArcCount}
use Rattle.std.specs.Prelude.{Result, Ok, Err}
use Rattle.std.specs.Result.{IsErrAnd}
use Rattle.road.specs.Chains.{road_and_set_faults}
use Rattle.road.specs.Faults.{lengths_fault}
use Rattle.road.specs.Limits.{road_limits, overlay_limits}
use Rattle.road.specs.workings.Verdicts.{Verdict, Judged, Judges}
use Rattle.road.specs.Refusals.{First, refusal, answer}
use Rattle.road.specs.Roads.{nodes_of, road}
use Rattle.road.specs.workings.Sound.{Sound}
use Rattle.road.proofs.Faults.{sound_wider, road_proper, road_lighter, long_at, not_over}
use Rattle.road.proofs.Left.{road_and_set_left}
use Rattle.road.proofs.Refusals.{judged_alone, stops, goes_on, unheld}
use Rattle.overlay.specs.Calls.{said_of, Areas, Outcome, refused, full, built, TooMany, answered, cleared, asked_lengths, faults_of}
use Rattle.overlay.specs.workings.Ready.{Ready}
use Rattle.overlay.specs.Overlays.{OverlayArc, ArcsInAll}
use Rattle.overlay.specs.workings.Writing.{Searching, Light, Enough, Building}
use Rattle.overlay.proofs.Locals.{arcs_one}
use Rattle.overlay.proofs.Rooms.{overlay_of}

-- filled with zeros, over a length that is known
pub zeros_of : (l : List ℕ) (n m : ℕ) → l ≡ replicate n 0 → n ≡ m → l ≡ replicate m 0
zeros_of l n m e f = e ∙ ap (λ (x : ℕ). replicate x 0) f

pub long_zeros : {l : List ℕ} {n : ℕ} → l ≡ replicate n 0 → length l ≡ n
long_zeros {n = n} e = ap length e ∙ length-replicate {A = ℕ} n 0

-- a list whose entries from place c on are another's is its front and the other's rest
pub front_and_rest :
    (c : ℕ) (l m : List ℕ) → c ≤ length l → length l ≡ length m → ((p : ℕ) → c ≤ p → get_or l p 0 ≡ get_or m p 0) → l ≡ take c l ++ drop (length (take c l)) m
front_and_rest c l m h e f =
    sym (take-append-drop c l) ∙ ap (λ (k : List ℕ). take c l ++ k) same ∙ ap (λ (k : ℕ). take c l ++ drop k m) (sym (length-take-le c l h))
  where
    same : drop c l ≡ drop c m
    same =
        ext_get_or 0 (drop c l) (drop c m) (omega (arith, length-drop c l, length-drop c m)) (λ i _. get_or-drop c l i 0 ∙ f (c + i) (omega arith) ∙ sym (get_or-drop c m i 0))

module _ (starts heads weights chosen : List ℕ) where
  -- no overlay arc of a road graph is too heavy
  pub road_light : Sound road_limits starts heads weights → Light (road starts heads weights) chosen
  road_light s = record { light = small }
    where
      small : (a b w : ℕ) → OverlayArc (road starts heads weights) chosen a b w → w ≤ overlay_limits.weight
      small a b w x =
          let most : w ≤ arcs_of (nodes_of starts) * 1000000 =
          path_light (road_proper road_limits starts heads weights s) (road_lighter road_limits starts heads weights s) x.least.is.path
          in
          let few : arcs_of (nodes_of starts) ≤ 4095 = omega (arith, s.sized.most) in
          let arcs : arcs_of (nodes_of starts) * 1000000 ≤ 4095 * 1000000 = mul-le-mul_right 1000000 few in
          omega arith

  module _ (a : Areas) (r : Ready starts heads weights chosen a) where
    pub ready_to_search :
        (labels heap places : List ℕ) → length labels ≡ length a.labels → heap ≡ replicate (length a.heap) 0 → places ≡ replicate (length a.places) 0 →
        Searching starts heads weights chosen labels heap places
    ready_to_search labels heap places l h p =
        record {
          sound = sound_wider starts heads weights r.sound;
          bytes = r.bytes;
          bits = r.bits;
          room = l ∙ r.labels_long;
          queue = omega (arith, ap length h, length-replicate {A = ℕ} (length a.heap) 0, r.heap_long);
          heap_zero = h ∙ ap (λ (k : ℕ). replicate k 0) (sym (ap length h ∙ length-replicate {A = ℕ} (length a.heap) 0));
          places_zero = zeros_of places (length a.places) (nodes_of starts) p r.places_long;
        }

    pub room_enough : (c : ℕ) → ArcsInAll (road starts heads weights) chosen c → ((length a.heads < c) ⊎ (65536 < c) → ⊥) → Enough (road starts heads weights) chosen (length a.heads)
    room_enough c x n = record { total = c; counted = x; enough = not_over c (length a.heads) (λ k. n (inl k)) }

    module _
        (labels heap places touched : List ℕ)
        (l : labels ≡ replicate (nodes_of starts) 0)
        (h : heap ≡ replicate (length a.heap) 0)
        (p : places ≡ replicate (length a.places) 0)
        (t : touched ≡ replicate (length a.touched) 0)
      where
        heap_zero : heap ≡ replicate (2 * nodes_of starts) 0
        heap_zero = zeros_of heap (length a.heap) (2 * nodes_of starts) h r.heap_long

        places_zero : places ≡ replicate (nodes_of starts) 0
        places_zero = zeros_of places (length a.places) (nodes_of starts) p r.places_long

        touched_zero : touched ≡ replicate (nodes_of starts) 0
        touched_zero = zeros_of touched (length a.touched) (nodes_of starts) t r.touched_long

        pub full_so :
            (c : ℕ) → ArcsInAll (road starts heads weights) chosen c → (length a.heads < c) ⊎ (65536 < c) →
            Outcome starts heads weights chosen a (refusal Room)
            (record { starts = a.starts; heads = a.heads; weights = a.weights; labels = labels; heap = heap; places = places; touched = touched })
        full_so c x n = subst (λ (after : Areas). Outcome starts heads weights chosen a (refusal Room) after) same (full r.none many)
          where
            many : TooMany (road starts heads weights) chosen (length a.heads)
            many = record { count = c; counted = x; over = n }

            same :
                cleared (nodes_of starts) a ≡
                record { starts = a.starts; heads = a.heads; weights = a.weights; labels = labels; heap = heap; places = places; touched = touched }
            same =
                λ i.
                record {
                  starts = a.starts;
                  heads = a.heads;
                  weights = a.weights;
                  labels = sym l i;
                  heap = sym heap_zero i;
                  places = sym places_zero i;
                  touched = sym touched_zero i;
                }

        pub built_so :
            (c : ℕ) → ArcsInAll (road starts heads weights) chosen c → ((length a.heads < c) ⊎ (65536 < c) → ⊥) → (starts' heads' weights' : List ℕ) (d : ℕ) →
            Building (road starts heads weights) chosen (nodes_of starts) a.heads a.weights starts' heads' weights' d →
            Outcome starts heads weights chosen a (answer (d ∷ []))
            (record { starts = starts'; heads = heads'; weights = weights'; labels = labels; heap = heap; places = places; touched = touched })
        built_so c x n starts' heads' weights' d g =
            subst₂ (λ (k : ℕ) (after : Areas). Outcome starts heads weights chosen a (answer (k ∷ [])) after) (length-take-le d heads' fits) same
            (built r.none few (overlay_of (road starts heads weights) chosen a.heads a.weights starts' heads' weights' d g fits alike))
          where
            count_same : d ≡ c
            count_same = arcs_one g.counted x

            fits : d ≤ length heads'
            fits = omega (arith, not_over c (length a.heads) (λ k. n (inl k)), count_same, g.heads_long)

            alike : length heads' ≡ length weights'
            alike = omega (arith, g.heads_long, g.weights_long, r.rooms_alike)

            few : TooMany (road starts heads weights) chosen (length a.heads) → ⊥
            few m = n (subst (λ (k : ℕ). (length a.heads < k) ⊎ (65536 < k)) (arcs_one m.counted x) m.over)

            heads_so : heads' ≡ take d heads' ++ drop (length (take d heads')) a.heads
            heads_so = front_and_rest d heads' a.heads fits g.heads_long g.heads_kept

            weights_so : weights' ≡ take d weights' ++ drop (length (take d weights')) a.weights
            weights_so = front_and_rest d weights' a.weights (omega (arith, fits, alike)) g.weights_long g.weights_kept

            same :
                answered (nodes_of starts) a starts' (take d heads') (take d weights') ≡
                record { starts = starts'; heads = heads'; weights = weights'; labels = labels; heap = heap; places = places; touched = touched }
            same =
                λ i.
                record {
                  starts = starts';
                  heads = sym heads_so i;
                  weights = sym weights_so i;
                  labels = sym l i;
                  heap = sym heap_zero i;
                  places = sym places_zero i;
                  touched = sym touched_zero i;
                }

-- From the checks to the outcome.
module _ (starts heads weights chosen : List ℕ) (a : Areas) where
  -- what `?` hands on is the refusal of the check
  handed : (w : Result ArcCount Refusal) {r : Refusal} → IsErrAnd w (λ s. s ≡ r) → First (faults_of starts heads weights chosen a) r → Outcome starts heads weights chosen a (said_of w) a
  handed (Ok x) h f = elim h [ ]
  handed (Err s) h f = refused (subst (First (faults_of starts heads weights chosen a)) (sym h) f)

  pub refused_early :
      {v : Verdict} (w : Result ArcCount Refusal) {r : Refusal} → Judges (road_and_set_faults starts heads weights chosen) v → v ≡ Err r → IsErrAnd w (λ s. s ≡ r) →
      Outcome starts heads weights chosen a (said_of w) a
  refused_early w {r = r} j e h =
      handed w h ((stops (road_and_set_faults starts heads weights chosen) (lengths_fault (asked_lengths (nodes_of starts) a) ∷ []) e j).refused r e)

  module _ (u : Verdict) (j : Judges (road_and_set_faults starts heads weights chosen) u) (p : u ≡ Ok tt) where
    module _ (v : Verdict) (l : Judged (lengths_fault (asked_lengths (nodes_of starts) a)) v) where
      all_judged : Judges (faults_of starts heads weights chosen a) v
      all_judged = goes_on (road_and_set_faults starts heads weights chosen) (lengths_fault (asked_lengths (nodes_of starts) a) ∷ []) p j (judged_alone l)

      pub refused_late : (w : Result ArcCount Refusal) {r : Refusal} → v ≡ Err r → IsErrAnd w (λ s. s ≡ r) → Outcome starts heads weights chosen a (said_of w) a
      refused_late w {r = r} e h = handed w h (all_judged.refused r e)

      pub ready : v ≡ Ok tt → Ready starts heads weights chosen a
      ready q =
          let x = road_and_set_left starts heads weights chosen (j.passed p) in
          let y = long_at (asked_lengths (nodes_of starts) a) (unheld (l.passed q)) in
          record {
            sound = x.sound;
            none = all_judged.passed q;
            bytes = x.set_right.bytes;
            bits = x.set_right.bits;
            starts_long = y 0;
            rooms_alike = y 1;
            labels_long = y 2;
            heap_long = y 3;
            places_long = y 4;
            touched_long = y 5;
          }
