-- The two questions: what they search, what the rows give, and the work left zero.
use mathlib.Core.Path.{◌≡◌, sym, ap, subst, ◌∙◌}
use mathlib.Core.List.{List}
use Prim.Native.Nat.{ℕ, ◌+◌, ◌*◌, ◌<◌}
use native.Mathlib.Omega.{arith}
use lib.ListN.{length, replicate, length-replicate}
use Rattle.paths.specs.Graphs.{Reaches}
use Rattle.paths.specs.Least.{Told}
use Rattle.road.specs.Limits.{overlay_limits}
use Rattle.road.specs.Roads.{nodes_of, road}
use Rattle.turning.specs.workings.Turning.{Turned}
use Rattle.road.proofs.Faults.{sound_wider}
use Rattle.search.specs.workings.Rows.{Row, Asks, label_at}
use Rattle.overlay.specs.Overlays.{Outside}
use Rattle.overlay.proofs.Locals.{local_of}
use Rattle.overlay.proofs.Outcomes.{zeros_of}
use Rattle.distance.specs.Calls.{HandAreas, PairAreas, hand_cleared, pair_cleared}
use Rattle.distance.specs.workings.Ready.{HandReady, PairReady}
use Rattle.distance.specs.workings.Labels.{Lesser, Searchable, Rows, RowsAsked, RowsFound, Entries}
use Rattle.distance.specs.Questions.{AnyPair}
use Rattle.distance.proofs.Gates.{into_of, pair_told}
use Rattle.distance.proofs.Searches.{row_small}

pub node_in : (t n k l : ℕ) → t < n → k ≡ l → l ≡ n → t < k
node_in t n k l h e f = omega arith

-- zeros are as many as their list says
zeros_own : (l : List ℕ) (n : ℕ) → l ≡ replicate n 0 → l ≡ replicate (length l) 0
zeros_own l n e = e ∙ ap (λ (k : ℕ). replicate k 0) (sym (ap length e ∙ length-replicate {A = ℕ} n 0))

module _ (starts heads weights : List ℕ) (s t : ℕ) (a : HandAreas) (r : HandReady starts heads weights s t a) where
  pub hand_searchable :
      (heap places blocked : List ℕ) → heap ≡ replicate (length a.heap) 0 → places ≡ replicate (length a.places) 0 → blocked ≡ replicate (length a.blocked) 0 →
      Searchable starts heads weights blocked a.labels heap places
  hand_searchable heap places blocked h p b =
      record {
        sound = r.sound;
        blocked_zero = zeros_of blocked (length a.blocked) (nodes_of starts) b r.blocked_long;
        room = r.labels_long;
        queue = omega (arith, ap length h, length-replicate {A = ℕ} (length a.heap) 0, r.heap_long);
        heap_zero = zeros_own heap (length a.heap) h;
        places_zero = zeros_of places (length a.places) (nodes_of starts) p r.places_long;
      }

  pub hand_zero :
      (labels heap places touched blocked : List ℕ) (l : ℕ) → labels ≡ replicate l 0 → l ≡ length a.labels → heap ≡ replicate (length a.heap) 0 →
      places ≡ replicate (length a.places) 0 → touched ≡ replicate (length a.touched) 0 → blocked ≡ replicate (length a.blocked) 0 →
      ◌≡◌ {A = HandAreas} (record { labels = labels; heap = heap; places = places; touched = touched; blocked = blocked }) (hand_cleared (nodes_of starts))
  hand_zero labels heap places touched blocked l le lk h p t b =
      λ i.
      record {
        labels = zeros_of labels l (nodes_of starts) le (lk ∙ r.labels_long) i;
        heap = zeros_of heap (length a.heap) (2 * nodes_of starts) h r.heap_long i;
        places = zeros_of places (length a.places) (nodes_of starts) p r.places_long i;
        touched = zeros_of touched (length a.touched) (nodes_of starts) t r.touched_long i;
        blocked = zeros_of blocked (length a.blocked) (nodes_of starts) b r.blocked_long i;
      }

module _
    (starts heads weights chosen : List ℕ)
    (s t : ℕ)
    (starts₀ heads₀ weights₀ outward₀ inward₀ heap₀ places₀ : List ℕ)
    (r : RowsAsked starts heads weights chosen s t starts₀ heads₀ weights₀ outward₀ inward₀ heap₀ places₀)
    (starts' heads' weights' : List ℕ)
    (x : Turned starts heads weights starts' heads' weights')
    (e : length starts' ≡ length starts₀)
  where
    pub asks_back : (heap places : List ℕ) → heap ≡ heap₀ → places ≡ places₀ → Asks starts' heads' weights' chosen t inward₀ heap places
    asks_back heap places h p =
        record {
          sound = x.sound overlay_limits r.sound;
          node = omega (arith, r.to, r.starts_long, e);
          bytes = omega (arith, r.bytes, r.starts_long, e);
          room = omega (arith, r.inward_long, r.starts_long, e);
          queue = omega (arith, ap length h, r.queue, r.starts_long, e);
          heap_zero = subst (λ (l : List ℕ). l ≡ replicate (length l) 0) (sym h) r.heap_zero;
          places_zero = p ∙ zeros_of places₀ (nodes_of starts) (nodes_of starts') r.places_zero (omega (arith, r.starts_long, e));
        }

    pub rows_found :
        (outward inward : List ℕ) → Row (road starts heads weights) chosen s outward → Row (road starts' heads' weights') chosen t inward →
        RowsFound (road starts heads weights) chosen s t outward inward
    rows_found outward inward f g =
        record {
          leaving = local_of (road starts heads weights) chosen r.bits s outward f;
          coming =
              into_of starts heads weights starts' heads' weights' chosen r.sound (x.sound overlay_limits r.sound) x.round (e ∙ r.starts_long) t inward
              (local_of (road starts' heads' weights') chosen r.bits t inward g);
          outward_small = row_small starts heads weights chosen s outward r.sound f;
          inward_small = row_small starts' heads' weights' chosen t inward (x.sound overlay_limits r.sound) g;
        }

module _
    (starts heads weights chosen starts'' heads'' weights'' : List ℕ)
    (s t : ℕ)
    (a : PairAreas)
    (r : PairReady starts heads weights chosen starts'' heads'' weights'' s t a)
  where
    pub rows_asked :
        (heap places : List ℕ) → heap ≡ replicate (length a.heap) 0 → places ≡ replicate (length a.places) 0 →
        RowsAsked starts heads weights chosen s t a.starts a.heads a.weights a.outward a.inward heap places
    rows_asked heap places h p =
        record {
          sound = sound_wider starts heads weights r.sound;
          bytes = r.bytes;
          bits = r.bits;
          from = r.from;
          to = r.to;
          starts_long = omega (arith, r.starts_long, r.sound.sized.least);
          heads_long = r.heads_long;
          weights_long = r.weights_long;
          outward_long = r.outward_long;
          inward_long = r.inward_long;
          queue = omega (arith, ap length h, length-replicate {A = ℕ} (length a.heap) 0, r.heap_long);
          heap_zero = zeros_own heap (length a.heap) h;
          places_zero = zeros_of places (length a.places) (nodes_of starts) p r.places_long;
        }

    pub lent_searchable :
        (heap places blocked : List ℕ) → heap ≡ replicate (length a.heap) 0 → places ≡ replicate (length a.places) 0 → blocked ≡ replicate (length a.blocked) 0 →
        Searchable starts'' heads'' weights'' blocked a.labels heap places
    lent_searchable heap places blocked h p b =
        record {
          sound = r.lent_sound;
          blocked_zero = zeros_of blocked (length a.blocked) (nodes_of starts'') b (r.blocked_long ∙ sym r.as_many);
          room = r.labels_long ∙ sym r.as_many;
          queue = omega (arith, ap length h, length-replicate {A = ℕ} (length a.heap) 0, r.heap_long, r.as_many);
          heap_zero = zeros_own heap (length a.heap) h;
          places_zero = zeros_of places (length a.places) (nodes_of starts'') p (r.places_long ∙ sym r.as_many);
        }

    module _ (outward inward : List ℕ) (f : RowsFound (road starts heads weights) chosen s t outward inward) where
      pub rows_lent : length outward ≡ length a.outward → length inward ≡ length a.inward → Rows chosen outward inward s t (nodes_of starts'')
      rows_lent o i =
          record {
            bytes = r.bytes ∙ sym r.as_many;
            outward_long = o ∙ r.outward_long ∙ sym r.as_many;
            inward_long = i ∙ r.inward_long ∙ sym r.as_many;
            outward_small = f.outward_small;
            inward_small = f.inward_small;
            from = omega (arith, r.from, r.as_many);
            to = omega (arith, r.to, r.as_many);
          }

      pub pair_answer :
          (l m k : ℕ) → l ≡ label_at outward t → Told (Entries (road starts'' heads'' weights'') chosen outward inward s t (length chosen)) m → Lesser l m k →
          Told (AnyPair (road starts heads weights) (road starts'' heads'' weights'') chosen s t) k
      pair_answer l m k e x h =
          pair_told (road starts heads weights) (road starts'' heads'' weights'') chosen outward inward s t f.leaving f.coming r.bytes l m k
          (subst (λ (y : ℕ). Told (Reaches (road starts heads weights) (Outside chosen) s t) y) (sym e) (f.leaving.told t r.to)) x h

    pub pair_zero :
        (after : PairAreas) (sl hl wl ol il ll : ℕ) → (after.starts ≡ replicate sl 0) × (after.heads ≡ replicate hl 0) × (after.weights ≡ replicate wl 0) → sl ≡ length a.starts →
        hl ≡ length a.heads → wl ≡ length a.weights → (after.outward ≡ replicate ol 0) × (after.inward ≡ replicate il 0) × (after.labels ≡ replicate ll 0) →
        ol ≡ length a.outward → il ≡ length a.inward → ll ≡ length a.labels → after.heap ≡ replicate (length a.heap) 0 → after.places ≡ replicate (length a.places) 0 →
        after.touched ≡ replicate (length a.touched) 0 → after.blocked ≡ replicate (length a.blocked) 0 → after ≡ pair_cleared (nodes_of starts) (length heads)
    pair_zero after sl hl wl ol il ll back sk hk wk rows ok ik lk h p u b =
        λ i.
        record {
          starts = zeros_of after.starts sl (nodes_of starts + 1) back.0 (sk ∙ r.starts_long) i;
          heads = zeros_of after.heads hl (length heads) back.1 (hk ∙ r.heads_long) i;
          weights = zeros_of after.weights wl (length heads) back.2 (wk ∙ r.weights_long) i;
          outward = zeros_of after.outward ol (nodes_of starts) rows.0 (ok ∙ r.outward_long) i;
          inward = zeros_of after.inward il (nodes_of starts) rows.1 (ik ∙ r.inward_long) i;
          labels = zeros_of after.labels ll (nodes_of starts) rows.2 (lk ∙ r.labels_long) i;
          heap = zeros_of after.heap (length a.heap) (2 * nodes_of starts) h r.heap_long i;
          places = zeros_of after.places (length a.places) (nodes_of starts) p r.places_long i;
          touched = zeros_of after.touched (length a.touched) (nodes_of starts) u r.touched_long i;
          blocked = zeros_of after.blocked (length a.blocked) (nodes_of starts) b r.blocked_long i;
        }
