-- One tail after another: counting the arcs, and writing the rows into the rooms.
use mathlib.Core.Path.{◌≡◌, refl, sym, ap, subst, subst₂, ◌∙◌}
use mathlib.Core.Logic.{◌≢◌}
use mathlib.Core.List.{List}
use Prim.Native.Nat.{ℕ, suc, ◌+◌, ◌-◌, ◌*◌, ◌≤◌, ◌<◌}
use native.Mathlib.Decide.{ℕ_discrete}
use native.Mathlib.Nat.{mul-le-mul_right, le_trans}
use native.Mathlib.Numerals.{add-one}
use native.Mathlib.Omega.{arith}
use borrow.Rule.Slice.PartMut.{mid_of, put_mid}
use lib.ListN.{length, get_or, set, take, replicate, length-set}
use lib.Seq.{get_or-take, length-take-le}
use Rattle.paths.specs.Graphs.{Graph}
use Rattle.road.specs.Faults.{InSet}
use Rattle.road.specs.Roads.{nodes_of, road}
use Rattle.search.specs.workings.Rows.{Asks, Row}
use Rattle.overlay.specs.Numbers.{Number}
use Rattle.overlay.specs.Overlays.{Outside, OverlayArc, HasArc, RowAt, OverlayOf, Arcs, none, row}
use Rattle.overlay.specs.workings.Writing.{Searching, Local, Found, Light, Fits, RowRoom, Enough, Wrote, RowWritten, Building}
use Rattle.overlay.proofs.Locals.{local_of, none_outside, counted_row, fits_of, arcs_few, room_for_row, room_behind}
use Rattle.overlay.proofs.Parts.{part_long, part_at, put_long, put_before, put_within}
use Rattle.overlay.proofs.Written.{entry_kept, entry_new, length_written, row_of}

pub as_far : (i n m : ℕ) → i ≤ n → m ≡ n → i ≤ m
as_far i n m h e = omega arith

pub arcs_all : (G : Graph) (chosen : List ℕ) (a n m : ℕ) → Arcs G chosen a m → a ≤ n → n ≤ a → Arcs G chosen n m
arcs_all G chosen a n m x h g =
    let same : a ≡ n = omega arith in
    subst (λ (k : ℕ). Arcs G chosen k m) same x

pub enough_again : (G : Graph) (chosen : List ℕ) (n m : ℕ) → Enough G chosen n → m ≡ n → Enough G chosen m
enough_again G chosen n m x e = subst (λ (k : ℕ). Enough G chosen k) (sym e) x

-- a count of arcs fits: 4,096 tails of 4,096 heads
pub arcs_bounded : (G : Graph) (chosen : List ℕ) (a m : ℕ) → Arcs G chosen a m → a ≤ G.nodes → G.nodes ≤ 4096 → m ≤ 16777216
arcs_bounded G chosen a m x h g =
    let rows : a * G.nodes ≤ 4096 * G.nodes = mul-le-mul_right G.nodes (le_trans h g) in
    omega (arith, arcs_few x)

module _ (starts heads weights chosen labels heap places : List ℕ) (s : Searching starts heads weights chosen labels heap places) where
  pub asks_of : (a : ℕ) → a < nodes_of starts → Asks starts heads weights chosen a labels heap places
  asks_of a h =
      record {
        sound = s.sound;
        node = h;
        bytes = s.bytes;
        room = s.room;
        queue = s.queue;
        heap_zero = s.heap_zero;
        places_zero = s.places_zero;
      }

  pub searching_again :
      (labels' heap' places' : List ℕ) → length labels' ≡ length labels → heap' ≡ heap → places' ≡ places → Searching starts heads weights chosen labels' heap' places'
  searching_again labels' heap' places' e f g =
      record {
        sound = s.sound;
        bytes = s.bytes;
        bits = s.bits;
        room = e ∙ s.room;
        queue = subst (λ (l : List ℕ). nodes_of starts ≤ length l) (sym f) s.queue;
        heap_zero = subst (λ (l : List ℕ). l ≡ replicate (length l) 0) (sym f) s.heap_zero;
        places_zero = g ∙ s.places_zero;
      }

  pub few_bytes : length chosen ≤ 4096
  few_bytes = omega (arith, s.bytes, s.sound.sized.most)

  pub counts_fit : (a m : ℕ) → Arcs (road starts heads weights) chosen a m → a ≤ nodes_of starts → m ≤ 16777216
  counts_fit a m x h = arcs_bounded (road starts heads weights) chosen a m x h (omega (arith, s.sound.sized.most))

  module _ (a : ℕ) (h : a < nodes_of starts) where
    member : get_or chosen a 0 ≢ 0 → InSet chosen a
    member n = omega (arith, s.bits a)

    outside : get_or chosen a 0 ≡ 0 → Outside chosen a
    outside z i = omega arith

    module _ (m : ℕ) (x : Arcs (road starts heads weights) chosen a m) where
      pub tail_skipped : get_or chosen a 0 ≡ 0 → Arcs (road starts heads weights) chosen (a + 1) m
      tail_skipped z =
          subst₂ (λ (k r : ℕ). Arcs (road starts heads weights) chosen k r) (sym (add-one a)) (omega arith)
          (row x (none_outside (road starts heads weights) chosen s.bytes a (outside z)))

      module _ (n : get_or chosen a 0 ≢ 0) (labels' : List ℕ) (w : Row (road starts heads weights) chosen a labels') where
        found : Local (road starts heads weights) chosen a labels'
        found = local_of (road starts heads weights) chosen s.bits a labels' w

        counted : (r : ℕ) → Number (Found chosen labels' a) (length chosen) r → Arcs (road starts heads weights) chosen (suc a) (m + r)
        counted r y = row x (counted_row (road starts heads weights) chosen s.bytes a (member n) labels' found r y)

        pub tail_counted : (r : ℕ) → Number (Found chosen labels' a) (length chosen) r → Arcs (road starts heads weights) chosen (a + 1) (m + r)
        tail_counted r y = subst (λ (k : ℕ). Arcs (road starts heads weights) chosen k (m + r)) (sym (add-one a)) (counted r y)

        pub tail_fits : (r : ℕ) → Number (Found chosen labels' a) (length chosen) r → m + r ≤ 16777216
        tail_fits r y = counts_fit (suc a) (m + r) (counted r y) (omega arith)

        module _ (g : Light (road starts heads weights) chosen) (xs ws : List ℕ) (e : Enough (road starts heads weights) chosen (length xs)) (k : length ws ≡ length xs) where
          pub behind : m ≤ length xs
          behind = room_behind a m (length xs) (omega arith) x e

          behind_weights : m ≤ length ws
          behind_weights = omega (arith, behind)

          pub parts_alike : length (mid_of m (length ws - m) ws) ≡ length (mid_of m (length xs - m) xs)
          parts_alike = omega (arith, part_long m xs behind, part_long m ws behind_weights)

          pub row_fits : Fits chosen labels' a
          row_fits = fits_of (road starts heads weights) chosen s.bytes a (member n) labels' found g

          pub row_room : RowRoom chosen labels' a (length (mid_of m (length xs - m) xs))
          row_room =
              subst (λ (l : ℕ). RowRoom chosen labels' a l) (sym (part_long m xs behind))
              (room_for_row s.bytes a m (length xs) h x e (member n) labels' found)

          module _ (ys zs : List ℕ) (r : ℕ) (y : Wrote chosen labels' a (length chosen) (mid_of m (length xs - m) xs) (mid_of m (length ws - m) ws) ys zs r) where
            heads_at : (p : ℕ) → get_or (put_mid m (length xs - m) xs ys) (m + p) 0 ≡ get_or ys p 0
            heads_at = put_within m xs behind ys y.heads_long

            weights_at : (p : ℕ) → get_or (put_mid m (length ws - m) ws zs) (m + p) 0 ≡ get_or zs p 0
            weights_at = put_within m ws behind_weights zs y.weights_long

            written : RowAt (road starts heads weights) chosen a ys zs 0 r
            written = row_of chosen labels' a (road starts heads weights) s.bytes (member n) found (mid_of m (length xs - m) xs) (mid_of m (length ws - m) ws) ys zs r y

            pub tail_written : RowWritten (road starts heads weights) chosen a xs ws (put_mid m (length xs - m) xs ys) (put_mid m (length ws - m) ws zs) m (m + r)
            tail_written =
                record {
                  row = shifted;
                  counted = counted r y.number;
                  heads_before = put_before m xs behind ys y.heads_long;
                  weights_before = put_before m ws behind_weights zs y.weights_long;
                  heads_after = λ p l. after_by xs ys behind y.heads_long y.heads_kept p l;
                  weights_after = λ p l. after_by ws zs behind_weights y.weights_long y.weights_kept p l;
                  heads_long = put_long m xs behind ys y.heads_long;
                  weights_long = put_long m ws behind_weights zs y.weights_long;
                }
              where
                after_by :
                    (l k : List ℕ) → (b : m ≤ length l) → (e : length k ≡ length (mid_of m (length l - m) l)) →
                    ((p : ℕ) → r ≤ p → get_or k p 0 ≡ get_or (mid_of m (length l - m) l) p 0) → (p : ℕ) → m + r ≤ p → get_or (put_mid m (length l - m) l k) p 0 ≡ get_or l p 0
                after_by l k b e f p q =
                    let there : p ≡ m + (p - m) = omega arith in
                    ap (λ (z : ℕ). get_or (put_mid m (length l - m) l k) z 0) there ∙ put_within m l b k e (p - m) ∙ f (p - m) (omega arith) ∙ part_at m l b (p - m) ∙
                    ap (λ (z : ℕ). get_or l z 0) (sym there)

                place : (p : ℕ) → m ≤ p → p ≡ m + (p - m)
                place p l = omega arith

                head_is : (p : ℕ) → m ≤ p → get_or (put_mid m (length xs - m) xs ys) p 0 ≡ get_or ys (p - m) 0
                head_is p l = ap (λ (z : ℕ). get_or (put_mid m (length xs - m) xs ys) z 0) (place p l) ∙ heads_at (p - m)

                weight_is : (p : ℕ) → m ≤ p → get_or (put_mid m (length ws - m) ws zs) p 0 ≡ get_or zs (p - m) 0
                weight_is p l = ap (λ (z : ℕ). get_or (put_mid m (length ws - m) ws zs) z 0) (place p l) ∙ weights_at (p - m)

                shifted : RowAt (road starts heads weights) chosen a (put_mid m (length xs - m) xs ys) (put_mid m (length ws - m) ws zs) m (m + r)
                shifted =
                    record {
                      rises = omega arith;
                      ascends = λ p l q. rising p l q;
                      arcs =
                          λ p l q.
                          subst₂ (λ (b w : ℕ). OverlayArc (road starts heads weights) chosen a b w) (sym (head_is p l)) (sym (weight_is p l)) (written.arcs (p - m) (omega arith) (omega arith));
                      all = λ b z. there b z;
                    }
                  where
                    rising : (p : ℕ) → m ≤ p → p + 1 < m + r → get_or (put_mid m (length xs - m) xs ys) p 0 < get_or (put_mid m (length xs - m) xs ys) (p + 1) 0
                    rising p l q =
                        let next : p + 1 - m ≡ p - m + 1 = omega arith in
                        omega
                        (arith, head_is p l, head_is (p + 1) (omega arith), ap (λ (z : ℕ). get_or ys z 0) next, written.ascends (p - m) (omega arith) (omega arith))

                    there : (b : ℕ) → HasArc (road starts heads weights) chosen a b → (p : ℕ) × (m ≤ p) × (p < m + r) × (get_or (put_mid m (length xs - m) xs ys) p 0 ≡ b)
                    there b z =
                        let t = written.all b z in
                        (m + t.0, omega arith, omega (arith, t.2), heads_at t.0 ∙ t.3)

      -- a tail outside the set has an empty row
      pub tail_left :
          get_or chosen a 0 ≡ 0 → (xs ws : List ℕ) → RowWritten (road starts heads weights) chosen a xs ws xs ws m m
      tail_left z xs ws =
          record {
            row =
                record {
                  rises = omega arith;
                  ascends = λ p l q. absurd (omega arith);
                  arcs = λ p l q. absurd (omega arith);
                  all = λ b y. absurd (outside z y.tail);
                };
            counted = subst (λ (k : ℕ). Arcs (road starts heads weights) chosen k m) (add-one a) (tail_skipped z);
            heads_before = λ p l. refl;
            weights_before = λ p l. refl;
            heads_after = λ p l. refl;
            weights_after = λ p l. refl;
            heads_long = refl;
            weights_long = refl;
          }

module _ (G : Graph) (chosen heads₀ weights₀ : List ℕ) where
  pub building_none : (starts : List ℕ) → length starts ≡ G.nodes + 1 → Building G chosen 0 heads₀ weights₀ (set starts 0 0) heads₀ weights₀ 0
  building_none starts e =
      record {
        counted = none;
        long = length-set starts 0 0 ∙ e;
        begins = first;
        rows = λ u h. absurd (omega arith);
        here = first;
        within = λ u h. subst (λ (k : ℕ). get_or (set starts 0 0) k 0 ≤ 0) {x = 0} (omega arith) (omega (arith, first));
        heads_kept = λ p h. refl;
        weights_kept = λ p h. refl;
        heads_long = refl;
        weights_long = refl;
      }
    where
      first : get_or (set starts 0 0) 0 0 ≡ 0
      first = entry_new starts (set starts 0 0) 0 0 0 refl (omega arith) refl

  -- a row whose entries are all kept
  row_kept :
      (u : ℕ) (heads weights heads' weights' : List ℕ) (from to c : ℕ) → RowAt G chosen u heads weights from to → to ≤ c →
      ((p : ℕ) → p < c → get_or heads' p 0 ≡ get_or heads p 0) → ((p : ℕ) → p < c → get_or weights' p 0 ≡ get_or weights p 0) → RowAt G chosen u heads' weights' from to
  row_kept u heads weights heads' weights' from to c x h f g =
      record {
        rises = x.rises;
        ascends = λ p l q. omega (arith, x.ascends p l q, f p (omega arith), f (p + 1) (omega arith));
        arcs = λ p l q. subst₂ (λ (b w : ℕ). OverlayArc G chosen u b w) (sym (f p (omega arith))) (sym (g p (omega arith))) (x.arcs p l q);
        all = λ b y. there b y;
      }
    where
      there : (b : ℕ) → HasArc G chosen u b → (p : ℕ) × (from ≤ p) × (p < to) × (get_or heads' p 0 ≡ b)
      there b y =
          let t = x.all b y in
          (t.0, t.1, t.2, f t.0 (omega (arith, t.2)) ∙ t.3)

  module _ (a : ℕ) (starts heads weights : List ℕ) (c : ℕ) (g : Building G chosen a heads₀ weights₀ starts heads weights c) (h : a < G.nodes) where
    pub building_more :
        (starts' heads' weights' : List ℕ) (r : ℕ) → RowWritten G chosen a heads weights heads' weights' c r → starts' ≡ set starts (a + 1) r →
        Building G chosen (a + 1) heads₀ weights₀ starts' heads' weights' r
    building_more starts' heads' weights' r x e =
        record {
          counted = subst (λ (k : ℕ). Arcs G chosen k r) (sym (add-one a)) x.counted;
          long = length_written starts starts' (a + 1) r e ∙ g.long;
          begins = old 0 (omega arith) ∙ g.begins;
          rows = λ u l. rows_by u l (ℕ_discrete u a);
          here = new;
          within = λ u l. within_by u l (ℕ_discrete u (a + 1));
          heads_kept = λ p l. x.heads_after p l ∙ g.heads_kept p (omega (arith, x.row.rises));
          weights_kept = λ p l. x.weights_after p l ∙ g.weights_kept p (omega (arith, x.row.rises));
          heads_long = x.heads_long ∙ g.heads_long;
          weights_long = x.weights_long ∙ g.weights_long;
        }
      where
        old : (u : ℕ) → u ≤ a → get_or starts' u 0 ≡ get_or starts u 0
        old u l = entry_kept starts starts' (a + 1) r u e (λ q. omega arith)

        new : get_or starts' (a + 1) 0 ≡ r
        new = entry_new starts starts' (a + 1) r (a + 1) e (omega (arith, g.long)) refl

        within_by : (u : ℕ) → u ≤ a + 1 → Dec (u ≡ a + 1) → get_or starts' u 0 ≤ r
        within_by u l (yes q) = omega (arith, ap (λ (k : ℕ). get_or starts' k 0) q, new)
        within_by u l (no n) = omega (arith, old u (omega arith), g.within u (omega arith), x.row.rises)

        rows_by : (u : ℕ) → u < a + 1 → Dec (u ≡ a) → RowAt G chosen u heads' weights' (get_or starts' u 0) (get_or starts' (u + 1) 0)
        rows_by u l (yes q) =
            subst (λ (k : ℕ). RowAt G chosen k heads' weights' (get_or starts' k 0) (get_or starts' (k + 1) 0)) (sym q)
            (subst₂ (λ (f t : ℕ). RowAt G chosen a heads' weights' f t) (sym (old a (omega arith) ∙ g.here)) (sym new) x.row)
        rows_by u l (no n) =
            subst₂ (λ (f t : ℕ). RowAt G chosen u heads' weights' f t) (sym (old u (omega arith))) (sym (old (u + 1) (omega arith)))
            (row_kept u heads weights heads' weights' (get_or starts u 0) (get_or starts (u + 1) 0) c (g.rows u (omega arith)) (g.within (u + 1) (omega arith)) x.heads_before x.weights_before)

  pub building_all :
      (a n : ℕ) (starts heads weights : List ℕ) (c : ℕ) → Building G chosen a heads₀ weights₀ starts heads weights c → a ≤ n → n ≤ a → Building G chosen n heads₀ weights₀ starts heads weights c
  building_all a n starts heads weights c g h l =
      let same : a ≡ n = omega arith in
      subst (λ (k : ℕ). Building G chosen k heads₀ weights₀ starts heads weights c) same g

  -- the written parts of the rooms are the overlay
  pub overlay_of :
      (starts heads weights : List ℕ) (c : ℕ) → Building G chosen G.nodes heads₀ weights₀ starts heads weights c → c ≤ length heads → length heads ≡ length weights →
      OverlayOf G chosen starts (take c heads) (take c weights)
  overlay_of starts heads weights c g h e =
      record {
        long = g.long;
        begins = g.begins;
        rows =
            λ u l.
            row_kept u heads weights (take c heads) (take c weights) (get_or starts u 0) (get_or starts (u + 1) 0) c (g.rows u l) (g.within (u + 1) (omega arith))
            (λ p q. get_or-take c heads p 0 q) (λ p q. get_or-take c weights p 0 q);
        ends = g.here ∙ sym (length-take-le c heads h);
        alike = length-take-le c heads h ∙ sym (length-take-le c weights (omega arith));
      }
