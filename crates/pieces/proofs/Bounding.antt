-- What a size tells: the two ways out of a node bound a path through it, and a node whose size is below k is not needed.
use mathlib.Core.Path.{◌≡◌, refl, sym, ap, subst, ◌∙◌}
use mathlib.Core.Logic.{◌⊎◌, inl, inr, ⊎_elim, ◌≢◌}
use mathlib.Core.List.{List, [], ◌∷◌, reverse}
use Prim.Native.Nat.{ℕ, ◌+◌, ◌≤◌, ◌<◌, max}
use native.Mathlib.Decide.{dec_lt, ℕ_discrete}
use native.Mathlib.Omega.{arith}
use lib.ListN.{length, get_or, set, replicate, length-set, length-reverse, get_or-replicate, get_or-eq_default}
use lib.Seq.{get_or-set_same, get_or-set_other}
use Rattle.paths.specs.Graphs.{Graph, Proper, turned, Along, stop, step, IsPath}
use Rattle.paths.specs.Lists.{Mem, Each}
use Rattle.paths.proofs.Lists.{mem?, each_mem, mem_each, onto_mem}
use Rattle.paths.proofs.Turned.{turned_path, turned_proper}
use Rattle.road.specs.Limits.{overlay_limits}
use Rattle.road.specs.Roads.{road}
use Rattle.road.proofs.Faults.{road_proper}
use Rattle.rule.specs.Rule.{Dropped, Needed, PathOf}
use Rattle.pieces.specs.workings.Pieces.{Even, Pieced, Kept, Near, Fits, Row, Below, Waits, Level, Spreads, Spread}
use Rattle.pieces.specs.workings.Steps.{Prunable}
use Rattle.trails.proofs.Completing.{joined_of}
use Rattle.trails.proofs.Halves.{Halves, halves, halves_free}
use Rattle.pieces.proofs.Ready.{prunable_still}
use Rattle.pieces.proofs.Spreading.{room_for_one}

-- Along a path of dropped nodes all sizes are the first one's.
pub even_along :
    {G : Graph} {cover s : List ℕ} → Even G cover s → {a : ℕ} {l : List ℕ} {b w : ℕ} → Along G a l b w → Each (Dropped cover) (a ∷ l) → (x : ℕ) → Mem x (a ∷ l) →
    get_or s x 0 ≡ get_or s a 0
even_along {s = s} e stop d x (inl q) = ap (λ (z : ℕ). get_or s z 0) q
even_along {s = s} e (step t r) d x (inl q) = ap (λ (z : ℕ). get_or s z 0) q
even_along e (step {a = a} {x = y} {w = w} t r) d x (inr h) = even_along e r d.1 x h ∙ sym (e.even a y w t d.0 d.1.0)
even_along {G = G} {cover = cover} {s = s} e (stop {a = a}) d x (inr h) = elim h [ ]

-- What is said of the sizes holds of the graph turned round.
pub pieced_turned : {G : Graph} {k : ℕ} {cover s : List ℕ} → Proper G → Pieced G k cover s → Pieced (turned G) k cover s
pieced_turned {G} {k} {cover} {s} g p = record { alike = alike'; bound = λ {a} {l} {b} {w} q d h. of a l b w q d h (turned_path (turned_proper g) q); small = p.small }
  where
    alike' : Even (turned G) cover s
    alike' = record { even = λ u v w t d e. sym (p.alike.even v u w t e d) }

    of :
        (a : ℕ) (l : List ℕ) (b w : ℕ) → IsPath (turned G) a l b w → Each (Dropped cover) (a ∷ l) → get_or s a 0 < k →
        (m : List ℕ) × (b ∷ m ≡ reverse (a ∷ l)) × IsPath G b m a w → length (a ∷ l) ≤ get_or s a 0
    of a l b w q d h i =
        let same = even_along alike' q.along d b (from_back b (inl refl)) in
        omega (
          arith,
          same,
          ap length i.1,
          length-reverse (a ∷ l),
          p.bound i.2 (mem_each (Dropped cover) (b ∷ i.0) (λ x n. each_mem (Dropped cover) x (a ∷ l) d (from_back x n))) (omega arith),
        )
      where
        from_back : (x : ℕ) → Mem x (b ∷ i.0) → Mem x (a ∷ l)
        from_back x n = ⊎_elim (λ o. o) (λ z. absurd z) (onto_mem x (a ∷ l) [] (subst (Mem x) i.1 n))

-- the first step of a path, and the path from there
tail_path : {G : Graph} → Proper G → {v x : ℕ} {l : List ℕ} {b w : ℕ} → IsPath G v (x ∷ l) b w → (d : ℕ) × (e : ℕ) × G.Step v x d × IsPath G x l b e
tail_path {G} g {v} {x} {l} {b} {w} p = of p.along
  where
    of : {c : ℕ} → Along G v (x ∷ l) b c → (d : ℕ) × (e : ℕ) × G.Step v x d × IsPath G x l b e
    of (step {w = d} {d = e} t r) = (d, e, t, record { node = g.head t; along = r; different = p.different.1 })

-- the way out of v over dropped nodes: it has none, or it begins with a node whose size bounds it
data Way (G : Graph) (cover s : List ℕ) (v : ℕ) (l : List ℕ) : Type 0 where
  ends : length l ≡ 0 → Way G cover s v l
  goes : (x w : ℕ) → Mem x l → G.Step v x w → Dropped cover x → length l ≤ get_or s x 0 → Way G cover s v l

module _ {G : Graph} {k : ℕ} {cover s : List ℕ} (g : Proper G) (p : Pieced G k cover s) (v m : ℕ) (near : Near G cover s v m) (h : m < k) where
  way : (l : List ℕ) {b w : ℕ} → IsPath G v l b w → Each (Dropped cover) l → Way G cover s v l
  way [] q d = ends refl
  way (x ∷ l) {b} {w} q d = of (tail_path g q)
    where
      of : (c : ℕ) × (e : ℕ) × G.Step v x c × IsPath G x l b e → Way G cover s v (x ∷ l)
      of t = goes x t.0 (inl refl) t.2 d.0 (p.bound t.3 d (omega (arith, near.near x t.0 t.2 d.0)))

-- of the dropped nodes to which steps lead from v all but `but` are of size m or less
pub record Others (G : Graph) (cover s : List ℕ) (v but m : ℕ) : Type 0 where
  pub others : (x w : ℕ) → G.Step v x w → Dropped cover x → x ≢ but → get_or s x 0 ≤ m

module _ {G : Graph} {k : ℕ} {cover s : List ℕ} (g : Proper G) (p : Pieced G k cover s) (v : ℕ) where
  -- k is a size for any node
  pub fits_most : Fits G k cover s v k
  fits_most =
      record {
        most = omega arith;
        forth = record { near = λ x w t d. p.small x d };
        back = record { near = λ x w t d. p.small x d };
        short = λ h. absurd (omega arith);
      }

  module _ (but first second : ℕ) (o : Others G cover s v but second) (o' : Others (turned G) cover s v but second) (top : get_or s but 0 ≤ first) (below : second ≤ first) where
    near_first : {H : Graph} → Others H cover s v but second → Near H cover s v first
    near_first {H} f = record { near = λ x w t d. by x w t d (ℕ_discrete x but) }
      where
        by : (x w : ℕ) → H.Step v x w → Dropped cover x → Dec (x ≡ but) → get_or s x 0 ≤ first
        by x w t d (yes e) = omega (arith, top, ap (λ (z : ℕ). get_or s z 0) e)
        by x w t d (no n) = omega (arith, f.others x w t d n)

    -- two different nodes
    two : {H I : Graph} → Others H cover s v but second → Others I cover s v but second → (x y c d : ℕ) → H.Step v x c → I.Step v y d → Dropped cover x → Dropped cover y → x ≢ y → get_or s x 0 + get_or s y 0 ≤ first + second
    two {H} {I} f e x y c d t u a b n = by (ℕ_discrete x but)
      where
        by : Dec (x ≡ but) → get_or s x 0 + get_or s y 0 ≤ first + second
        by (yes q) = omega (arith, (near_first f).near x c t a, e.others y d u b (λ r. n (q ∙ sym r)))
        by (no q) = omega (arith, f.others x c t a q, (near_first e).near y d u b)

    module _ (h : first + second + 1 < k) where
      both_ways : {a : ℕ} {l : List ℕ} {b : ℕ} (c : Halves G v a l b) → Way (turned G) cover s v c.before → Way G cover s v c.after → length (a ∷ l) ≤ first + second + 1
      both_ways c (ends e) (ends f) = omega (arith, c.long)
      both_ways c (ends e) (goes x w m t d q) = omega (arith, c.long, (near_first o).near x w t d)
      both_ways c (goes x w m t d q) (ends f) = omega (arith, c.long, (near_first o').near x w t d)
      both_ways c (goes x w m t d q) (goes y w' m' t' d' q') =
          omega (arith, c.long, two o' o x y w w' t t' d d' (λ e. c.apart y (inr (subst (λ (z : ℕ). Mem z c.before) e m)) m'))

      pub fits_two : Fits G k cover s v (first + second + 1)
      fits_two =
          record {
            most = omega arith;
            forth = record { near = λ x w t d. omega (arith, (near_first o).near x w t d) };
            back = record { near = λ x w t d. omega (arith, (near_first o').near x w t d) };
            short = λ z {a} {l} {b} {w} q m f. by q f (halves g v q m);
          }
        where
          by : {a : ℕ} {l : List ℕ} {b w : ℕ} → IsPath G a l b w → ((x : ℕ) → Mem x (a ∷ l) → x ≢ v → Dropped cover x) → Halves G v a l b → length (a ∷ l) ≤ first + second + 1
          by {a} {l} {b} {w} q f c =
              let free = halves_free (Dropped cover) c f in
              both_ways c (way (turned_proper g) (pieced_turned g p) v first (near_first o') (omega arith) c.before c.to free.0)
              (way g p v first (near_first o) (omega arith) c.after c.from free.1)

-- A node whose size is below k is not needed.
pub fits_unneeded : {G : Graph} {k : ℕ} {cover s : List ℕ} {v r : ℕ} → Fits G k cover s v r → r < k → Needed (PathOf G k) cover v → ⊥
fits_unneeded {G} {k} {cover} {s} {v} {r} f h n =
    let whole = n.counts.whole in
    omega (
      arith,
      ap length whole,
      n.counts.nodes,
      f.short h n.counts.path (subst (Mem v) whole n.on) (λ x m d. n.others x (subst (Mem x) (sym whole) m) d),
    )

-- Where no node is dropped there is nothing to say.
pub pieced_none : {G : Graph} {k : ℕ} {cover s : List ℕ} → Proper G → cover ≡ replicate G.nodes 1 → length s ≡ G.nodes → Pieced G k cover s
pieced_none {G} {k} {cover} {s} g e f =
    record {
      alike = record { even = λ u v w t d q. absurd (stands u (g.tail t) d) };
      bound = λ {a} {l} {b} {w} q d h. absurd (stands a q.node d.0);
      small = λ x d. by x d (dec_lt x G.nodes);
    }
  where
    stands : (x : ℕ) → x < G.nodes → Dropped cover x → ⊥
    stands x h d = omega (arith, d, ap (λ (c : List ℕ). get_or c x 0) e, get_or-replicate {A = ℕ} G.nodes x 1 0 h)

    by : (x : ℕ) → Dropped cover x → Dec (x < G.nodes) → get_or s x 0 ≤ k
    by x d (yes h) = absurd (stands x h d)
    by x d (no h) = omega (arith, get_or-eq_default s 0 {n = x} (omega (arith, h)))

-- v is dropped: its size is r and spreads.
module _ {G : Graph} {k : ℕ} {cover s : List ℕ} {v r : ℕ} (p : Pieced G k cover s) (f : Fits G k cover s v r) (h : v < length cover) (sl : length s ≡ length cover) where
  own : get_or (set s v r) v 0 ≡ r
  own = get_or-set_same s v r 0 (omega arith)

  other : (x : ℕ) → x ≢ v → get_or (set s v r) x 0 ≡ get_or s x 0
  other x n = get_or-set_other s v x r 0 n

  was : (x : ℕ) → x ≢ v → Dropped (set cover v 0) x → Dropped cover x
  was x n d = sym (get_or-set_other cover v x 0 0 n) ∙ d

  module _ (pieces : List ℕ) (pl : length pieces ≡ length cover) where
    first_waits : {H : Graph} → Near (turned H) cover s v r → Even H cover s → Level H (set cover v 0) (set s v r) (set pieces 0 v) 0 1
    first_waits {H} near e = record { level = λ u x w t d q. by u x w t d q (ℕ_discrete u v) (ℕ_discrete x v) }
      where
        by :
            (u x w : ℕ) → H.Step u x w → Dropped (set cover v 0) u → Dropped (set cover v 0) x → Dec (u ≡ v) → Dec (x ≡ v) →
            (get_or (set s v r) u 0 ≤ get_or (set s v r) x 0) ⊎ Waits (set pieces 0 v) 0 1 u
        by u x w t d q (yes a) b = inr (record { place = 0; from = omega arith; below = omega arith; is = get_or-set_same pieces 0 v 0 (omega arith) ∙ sym a })
        by u x w t d q (no a) (yes b) =
            inl (omega (arith, other u a, ap (λ (z : ℕ). get_or (set s v r) z 0) b, own, near.near u w (subst (λ (z : ℕ). H.Step u z w) b t) (was u a d)))
        by u x w t d q (no a) (no b) = inl (omega (arith, other u a, other x b, e.even u x w t (was u a d) (was x b q)))

    pub spread_begins : Spreads G (set cover v 0) r (set s v r) (set pieces 0 v) 0 1
    spread_begins =
        record {
          met = omega arith;
          forth = first_waits {H = G} f.back p.alike;
          back = first_waits {H = turned G} f.forth (record { even = λ u x w t d e. sym (p.alike.even x u w t e d) });
          node = λ j b. omega (arith, at j b, length-set cover v 0);
          low = λ j b. omega (arith, ap (λ (z : ℕ). get_or (set s v r) z 0) (at j b), own);
          room = omega (arith, room_for_one s v r (omega arith), length-set pieces 0 v);
          sizes_long = length-set s v r ∙ sl ∙ sym (length-set cover v 0);
          pieces_long = length-set pieces 0 v ∙ pl ∙ sym (length-set cover v 0);
        }
      where
        at : (j : ℕ) → j < 1 → get_or (set pieces 0 v) j 0 ≡ v
        at j b = ap (λ (z : ℕ). get_or (set pieces 0 v) z 0) (omega arith) ∙ get_or-set_same pieces 0 v 0 (omega arith)

  -- and once it has spread the sizes tell the truth again
  module _ (g : Proper G) {s' : List ℕ} (d : Spread G (set cover v 0) r (set s v r) s') where
    pub pieced_dropped : Pieced G k (set cover v 0) s'
    pieced_dropped = record { alike = d.alike; bound = λ {a} {l} {b} {w} q e m. by q e m (mem? v (a ∷ l)); small = λ x e. small_by x e (ℕ_discrete x v) (d.grown.raised x) }
      where
        by : {a : ℕ} {l : List ℕ} {b w : ℕ} → IsPath G a l b w → Each (Dropped (set cover v 0)) (a ∷ l) → get_or s' a 0 < k → Mem v (a ∷ l) ⊎ (Mem v (a ∷ l) → ⊥) → length (a ∷ l) ≤ get_or s' a 0
        by {a} {l} q e m (inl on) =
            let same = even_along d.alike q.along e v on in
            let up = d.grown.rises v in
            omega (arith, own, f.short (omega (arith, own)) q on (λ x n o. was x o (each_mem (Dropped (set cover v 0)) x (a ∷ l) e n)))
        by {a} {l} q e m (inr off) =
            let up = d.grown.rises a in
            let same = other a (λ z. off (inl (sym z))) in
            omega (
              arith,
              p.bound q
                  (mem_each (Dropped cover) (a ∷ l) (λ x n. was x (λ z. off (subst (λ (y : ℕ). Mem y (a ∷ l)) z n)) (each_mem (Dropped (set cover v 0)) x (a ∷ l) e n)))
                  (omega arith),
            )

        small_by : (x : ℕ) → Dropped (set cover v 0) x → Dec (x ≡ v) → (get_or s' x 0 ≡ get_or (set s v r) x 0) ⊎ (get_or s' x 0 ≡ r) → get_or s' x 0 ≤ k
        small_by x e c (inr q) = omega (arith, f.most)
        small_by x e (yes z) (inl q) = omega (arith, ap (λ (y : ℕ). get_or (set s v r) y 0) z, own, f.most)
        small_by x e (no n) (inl q) = omega (arith, other x n, p.small x (was x n e))

-- The two largest sizes next to v, found in its two rows.
module _ (starts heads weights starts' heads' weights' cover s : List ℕ) (g : Prunable starts heads weights starts' heads' weights' cover) where
  others_forth : (v but out m : ℕ) → Row starts heads v (Below cover s but out) → out ≤ m → Others (road starts heads weights) cover s v but m
  others_forth v but out m f h = record { others = λ x w a d n. omega (arith, (f.each x (joined_of a)).below d n) }

  others_back : (v but out m : ℕ) → Row starts' heads' v (Below cover s but out) → out ≤ m → Others (turned (road starts heads weights)) cover s v but m
  others_back v but out m f h = record { others = λ x w a d n. omega (arith, (f.each x (joined_of (g.turned.round.turns x v w a))).below d n) }

  module _ (pieces : List ℕ) (k : ℕ) (t : Kept (road starts heads weights) k cover s pieces) (v : ℕ) where
    pub most_fits : Fits (road starts heads weights) k cover s v k
    most_fits = fits_most (road_proper overlay_limits starts heads weights g.sound) t.pieced v

    pub two_fit :
        (but out into second first : ℕ) → Row starts heads v (Below cover s but out) → Row starts' heads' v (Below cover s but into) → second ≡ max out into →
        first ≡ max second (get_or s but 0) → first + second + 1 < k → Fits (road starts heads weights) k cover s v (first + second + 1)
    two_fit but out into second first f f' l m h =
        fits_two (road_proper overlay_limits starts heads weights g.sound) t.pieced v but first second (others_forth v but out second f (omega arith)) (others_back v but into second f' (omega arith))
        (omega arith) (omega arith) (omega arith)

    -- v is dropped
    module _ (r : ℕ) (f : Fits (road starts heads weights) k cover s v r) (h : v < length cover) where
      pub still_prunable : Prunable starts heads weights starts' heads' weights' (set cover v 0)
      still_prunable = prunable_still starts heads weights starts' heads' weights' cover (set cover v 0) g (length-set cover v 0)

      pub drop_spreads : Spreads (road starts heads weights) (set cover v 0) r (set s v r) (set pieces 0 v) 0 1
      drop_spreads = spread_begins t.pieced f h t.sizes_long pieces t.pieces_long

      pub drop_keeps :
          {s' p' : List ℕ} → Spread (road starts heads weights) (set cover v 0) r (set s v r) s' → length s' ≡ length (set s v r) →
          length p' ≡ length (set pieces 0 v) → Kept (road starts heads weights) k (set cover v 0) s' p'
      drop_keeps {s'} {p'} d sl pl =
          record {
            pieced = pieced_dropped t.pieced f h t.sizes_long (road_proper overlay_limits starts heads weights g.sound) d;
            sizes_long = sl ∙ length-set s v r ∙ t.sizes_long ∙ sym (length-set cover v 0);
            pieces_long = pl ∙ length-set pieces 0 v ∙ t.pieces_long ∙ sym (length-set cover v 0);
          }
