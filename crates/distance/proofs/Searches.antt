-- What the rows of the one search say here: in the overlay nothing is blocked, and every label can be summed.
use mathlib.Core.Path.{◌≡◌, refl, sym, ap, subst, ◌∙◌}
use mathlib.Core.List.{List}
use Prim.Native.Nat.{ℕ, zero, suc, ◌*◌, ◌≤◌, ◌<◌}
use native.Mathlib.Decide.{dec_lt}
use native.Mathlib.Nat.{mul-le-mul_right}
use native.Mathlib.Omega.{arith}
use lib.ListN.{length, get_or, replicate, length-replicate, get_or-eq_default}
use Rattle.paths.specs.Graphs.{Reaches, Any, arcs_of}
use Rattle.paths.specs.Least.{Told}
use Rattle.paths.proofs.Weights.{path_light}
use Rattle.paths.proofs.Least.{told_carries}
use Rattle.road.specs.Limits.{overlay_limits}
use Rattle.road.specs.Roads.{nodes_of, road}
use Rattle.road.specs.workings.Sound.{Sound}
use Rattle.road.proofs.Faults.{road_proper, road_lighter}
use Rattle.road.proofs.Filled.{zeros_at}
use Rattle.search.specs.workings.Rows.{Free, Row, Asks, label_at}
use Rattle.overlay.proofs.Locals.{reaches_under}
use Rattle.distance.specs.declared.HandWork.{HandWork}
use Rattle.distance.specs.workings.Labels.{Small, Modest, Searchable}
use Rattle.distance.specs.workings.Through.{Leaves}
use Rattle.road.specs.declared.Graph.{Graph}

-- no label is more than one over 16,769,025,000,000
pub row_small :
    (starts heads weights blocked : List ℕ) (a : ℕ) (labels : List ℕ) → Sound overlay_limits starts heads weights → Row (road starts heads weights) blocked a labels → Small labels
row_small starts heads weights blocked a labels s r = record { small = λ v. by v (dec_lt v (nodes_of starts)) }
  where
    light : (d v : ℕ) → Reaches (road starts heads weights) (Free blocked) a v d → d ≤ 16769025000000
    light d v x =
        let most : d ≤ arcs_of (nodes_of starts) * 4095000000 =
        path_light (road_proper overlay_limits starts heads weights s) (road_lighter overlay_limits starts heads weights s) x.path
        in
        let few : arcs_of (nodes_of starts) ≤ 4095 = omega (arith, s.sized.most) in
        let arcs : arcs_of (nodes_of starts) * 4095000000 ≤ 4095 * 4095000000 = mul-le-mul_right 4095000000 few in
        omega arith

    some : (v l : ℕ) → label_at labels v ≡ l → Told (Reaches (road starts heads weights) (Free blocked) a v) l → Modest (label_at labels v)
    some v zero e t = omega arith
    some v (suc d) e t = omega (arith, light d v (t.some d refl).is)

    by : (v : ℕ) → Dec (v < nodes_of starts) → Modest (label_at labels v)
    by v (yes h) = some v (label_at labels v) refl (r.told v h)
    by v (no n) = omega (arith, get_or-eq_default labels 0 {n = v} (omega (arith, r.long)))

module _ (starts heads weights blocked labels heap places : List ℕ) (s : Searchable starts heads weights blocked labels heap places) where
  pub asks_of : (a : ℕ) → a < nodes_of starts → Asks starts heads weights blocked a labels heap places
  asks_of a h =
      record {
        sound = s.sound;
        node = h;
        bytes = ap length s.blocked_zero ∙ length-replicate {A = ℕ} (nodes_of starts) 0;
        room = s.room;
        queue = s.queue;
        heap_zero = s.heap_zero;
        places_zero = s.places_zero;
      }

  pub searchable_again :
      (labels' heap' places' : List ℕ) → length labels' ≡ length labels → heap' ≡ heap → places' ≡ places → Searchable starts heads weights blocked labels' heap' places'
  searchable_again labels' heap' places' e f g =
      record {
        sound = s.sound;
        blocked_zero = s.blocked_zero;
        room = e ∙ s.room;
        queue = subst (λ (l : List ℕ). nodes_of starts ≤ length l) (sym f) s.queue;
        heap_zero = subst (λ (l : List ℕ). l ≡ replicate (length l) 0) (sym f) s.heap_zero;
        places_zero = g ∙ s.places_zero;
      }

  all_free : (v : ℕ) → Free blocked v
  all_free v = ap (λ (l : List ℕ). get_or l v 0) s.blocked_zero ∙ zeros_at (nodes_of starts) v

  -- nothing is blocked, so the row is over all paths
  pub row_any : (a : ℕ) (labels' : List ℕ) → Row (road starts heads weights) blocked a labels' → (b : ℕ) → b < nodes_of starts → Told (Reaches (road starts heads weights) Any a b) (label_at labels' b)
  row_any a labels' r b h = told_carries (reaches_under (λ v f. tt)) (reaches_under (λ v f. all_free v)) (r.told b h)

-- what two searches leave, one after the other
pub leaves_again :
    {overlay : Graph} {first second third : HandWork} → Leaves overlay first second → Leaves overlay second third → Leaves overlay first third
leaves_again x y =
    record {
      searchable = y.searchable;
      heap = y.heap ∙ x.heap;
      places = y.places ∙ x.places;
      touched = y.touched ∙ x.touched;
      blocked = y.blocked ∙ x.blocked;
      same_slices =
          record {
            labels = y.same_slices.labels ∙ x.same_slices.labels;
            heap = y.same_slices.heap ∙ x.same_slices.heap;
            places = y.same_slices.places ∙ x.same_slices.places;
            touched = y.same_slices.touched ∙ x.same_slices.touched;
            blocked = y.same_slices.blocked ∙ x.same_slices.blocked;
          };
    }
