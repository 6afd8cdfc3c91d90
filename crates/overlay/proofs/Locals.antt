-- From the labels of one search to the arcs of one row.
use mathlib.Core.Path.{◌≡◌, refl, subst}
use mathlib.Core.Logic.{◌⊎◌, inl, inr}
use mathlib.Core.List.{List}
use Prim.Native.Nat.{ℕ, zero, suc, ◌+◌, ◌-◌, ◌*◌, ◌≤◌, ◌<◌}
use native.Mathlib.Decide.{dec_lt, ℕ_discrete}
use native.Mathlib.Nat.{suc-mul}
use native.Mathlib.Omega.{arith}
use lib.ListN.{length, get_or, get_or-eq_default}
use Rattle.paths.specs.Graphs.{Graph, Reaches}
use Rattle.paths.specs.Least.{Under}
use Rattle.paths.proofs.Least.{told_carries}
use Rattle.paths.proofs.Lists.{inside_map}
use Rattle.road.specs.Faults.{InSet}
use Rattle.road.specs.Limits.{overlay_limits}
use Rattle.search.specs.workings.Rows.{Free, Row, label_at}
use Rattle.overlay.specs.Numbers.{Number, one}
use Rattle.overlay.specs.Overlays.{Outside, OverlayArc, HasArc, Arcs, none, row}
use Rattle.overlay.specs.workings.Writing.{Local, Found, Light, Fits, RowRoom, Enough}
use Rattle.overlay.proofs.Numbers.{rise, number_one, number_few, number_rise, number_none, number_of, number_map}

pub has_arc : {G : Graph} {chosen : List ℕ} {a b w : ℕ} → OverlayArc G chosen a b w → HasArc G chosen a b
has_arc {w = w} x = record { tail = x.tail; head = x.head; apart = x.apart; weight = w; some = x.least.is }

-- a node of the set is one of its bytes
pub in_bytes : (chosen : List ℕ) (v : ℕ) → InSet chosen v → v < length chosen
in_bytes chosen v i = by (dec_lt v (length chosen))
  where
    by : Dec (v < length chosen) → v < length chosen
    by (yes h) = h
    by (no n) =
        let past : get_or chosen v 0 ≡ 0 = get_or-eq_default chosen 0 {n = v} (omega arith) in
        absurd (omega (arith, i))

module _ {G : Graph} {P Q : ℕ → Type 0} (f : (v : ℕ) → P v → Q v) where
  pub reaches_map : {a b w : ℕ} → Reaches G P a b w → Reaches G Q a b w
  reaches_map r = record { after = r.after; path = r.path; inner = inside_map P Q f r.after r.inner }

  pub reaches_under : {a b : ℕ} → Under (Reaches G P a b) (Reaches G Q a b)
  reaches_under = record { under = λ d r. (d, reaches_map r, omega arith) }

-- for bytes that are 0 or 1, not blocked is outside the set
module _ (G : Graph) (chosen : List ℕ) (bits : (v : ℕ) → get_or chosen v 0 ≤ 1) where
  free_outside : (v : ℕ) → Free chosen v → Outside chosen v
  free_outside v e i = omega arith

  outside_free : (v : ℕ) → Outside chosen v → Free chosen v
  outside_free v o = by (get_or chosen v 0) refl (bits v)
    where
      by : (x : ℕ) → get_or chosen v 0 ≡ x → get_or chosen v 0 ≤ 1 → Free chosen v
      by zero e h = e
      by (suc x) e h = absurd (o (omega arith))

  pub local_of : (a : ℕ) (labels : List ℕ) → Row G chosen a labels → Local G chosen a labels
  local_of a labels r =
      record { long = r.long; told = λ v h. told_carries (reaches_under free_outside) (reaches_under outside_free) (r.told v h) }

module _ (chosen labels : List ℕ) (a : ℕ) where
  pub found? : (b : ℕ) → Found chosen labels a b ⊎ (Found chosen labels a b → ⊥)
  found? b = by (ℕ_discrete (get_or chosen b 0) 1) (ℕ_discrete a b) (ℕ_discrete (label_at labels b) 0)
    where
      by : Dec (InSet chosen b) → Dec (a ≡ b) → Dec (label_at labels b ≡ 0) → Found chosen labels a b ⊎ (Found chosen labels a b → ⊥)
      by (no n) e l = inr (λ f. n f.head)
      by (yes i) (yes e) l = inr (λ f. f.apart e)
      by (yes i) (no n) (yes z) = inr (λ f. f.label z)
      by (yes i) (no n) (no z) = inl (record { head = i; apart = n; label = z })

  -- where an arc is found there is room for it
  pub room_left : (room v r : ℕ) → RowRoom chosen labels a room → v < length chosen → Number (Found chosen labels a) v r → Found chosen labels a v → r < room
  room_left room v r e h x f =
      let all = number_of found? (length chosen) in
      let fewer : suc r ≤ all.0 = number_rise h (one f x) all.1 in
      omega (arith, e.enough all.0 all.1)

module _ (G : Graph) (chosen : List ℕ) (as_long : length chosen ≡ G.nodes) (a : ℕ) where
  -- no arcs leave a node outside the set
  pub none_outside : Outside chosen a → Number (HasArc G chosen a) G.nodes 0
  none_outside o = number_none G.nodes (λ v h x. o x.tail)

  module _ (member : InSet chosen a) (labels : List ℕ) (l : Local G chosen a labels) where
    pub found_arc : (b w : ℕ) → Found chosen labels a b → label_at labels b ≡ suc w → OverlayArc G chosen a b w
    found_arc b w f e =
        record { tail = member; head = f.head; apart = f.apart; least = (l.told b (omega (arith, in_bytes chosen b f.head, as_long))).some w e }

    pub arc_found : (b : ℕ) → HasArc G chosen a b → Found chosen labels a b
    arc_found b x =
        record {
          head = x.head;
          apart = x.apart;
          label = λ z. ((l.told b (omega (arith, in_bytes chosen b x.head, as_long))).none z).none x.weight x.some;
        }

    found_has : (b : ℕ) → Found chosen labels a b → HasArc G chosen a b
    found_has b f = by (label_at labels b) refl
      where
        by : (y : ℕ) → label_at labels b ≡ y → HasArc G chosen a b
        by zero e = absurd (f.label e)
        by (suc d) e = has_arc (found_arc b d f e)

    pub counted_row : (r : ℕ) → Number (Found chosen labels a) (length chosen) r → Number (HasArc G chosen a) G.nodes r
    counted_row r x =
        subst (λ (n : ℕ). Number (HasArc G chosen a) n r) as_long
        (number_map (λ v h f. found_has v f) (λ v h y. arc_found v y) x)

    pub fits_of : Light G chosen → Fits chosen labels a
    fits_of g = record { fits = small }
      where
        small : (b : ℕ) → Found chosen labels a b → label_at labels b ≤ suc overlay_limits.weight
        small b f = by (label_at labels b) refl
          where
            by : (y : ℕ) → label_at labels b ≡ y → label_at labels b ≤ suc overlay_limits.weight
            by zero e = omega arith
            by (suc d) e = omega (arith, g.light a b d (found_arc b d f e))

-- counts of arcs by tail
module _ {G : Graph} {chosen : List ℕ} where
  pub arcs_one : {a m r : ℕ} → Arcs G chosen a m → Arcs G chosen a r → m ≡ r
  arcs_one none none = refl
  arcs_one (row x y) (row u v) = omega (arith, arcs_one x u, number_one y v)

  pub arcs_few : {a m : ℕ} → Arcs G chosen a m → m ≤ a * G.nodes
  arcs_few none = omega arith
  arcs_few (row {a = a} x y) = omega (arith, arcs_few x, number_few y, suc-mul a G.nodes)

  arcs_back : (k r : ℕ) → Arcs G chosen (suc k) r → (q : ℕ) × Arcs G chosen k q × (q ≤ r)
  arcs_back k r (row {m = m} x y) = (m, x, omega arith)

  pub arcs_rise : {a m b r : ℕ} → a ≤ b → Arcs G chosen a m → Arcs G chosen b r → m ≤ r
  arcs_rise {a} {m} {b} {r} h x y = rise (Arcs G chosen) (λ k p q. arcs_one) arcs_back b a m r h x y

  -- the row of a has room behind the arcs before it
  pub room_for_row :
      (as_long : length chosen ≡ G.nodes) (a c room : ℕ) → a < G.nodes → Arcs G chosen a c → Enough G chosen room →
      InSet chosen a → (labels : List ℕ) → Local G chosen a labels → RowRoom chosen labels a (room - c)
  room_for_row as_long a c room h x e i labels l = record { enough = fits }
    where
      fits : (m : ℕ) → Number (Found chosen labels a) (length chosen) m → m ≤ room - c
      fits m y =
          let more : c + m ≤ e.total = arcs_rise h (row x (counted_row G chosen as_long a i labels l m y)) e.counted in
          omega (arith, e.enough)

  pub room_behind : (a c room : ℕ) → a ≤ G.nodes → Arcs G chosen a c → Enough G chosen room → c ≤ room
  room_behind a c room h x e = omega (arith, arcs_rise h x e.counted, e.enough)
