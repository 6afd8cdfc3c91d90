-- A size spreads over a piece: raising sizes, passing a size on, and what stands once nothing waits.
use mathlib.Core.Path.{◌≡◌, refl, sym, ap, subst, ◌∙◌}
use mathlib.Core.Bool.{Bool, true, false}
use mathlib.Core.Logic.{◌⊎◌, inl, inr}
use mathlib.Core.List.{List, [], ◌∷◌}
use Prim.Native.Nat.{ℕ, zero, suc, ◌+◌, ◌≤◌, ◌<◌}
use native.Mathlib.Decide.{ℕ_discrete}
use native.Mathlib.Omega.{arith}
use borrow.Author.Tests.{lt-ltb, le-ltb}
use lib.Dec.{ltb}
use lib.ListN.{length, get_or, set, length-set}
use lib.Seq.{get_or-set_same, get_or-set_other}
use Rattle.paths.specs.Graphs.{Graph, turned}
use Rattle.road.specs.Counting.{bit, under}
use Rattle.road.specs.Roads.{road}
use Rattle.road.specs.workings.Sound.{TurnedRound}
use Rattle.rule.specs.Rule.{Dropped}
use Rattle.pieces.specs.workings.Pieces.{Row, Raised, Raises, none, more, Waits, Level, Spreads, Grown, Spread}
use Rattle.trails.proofs.Completing.{joined_of}

-- a number raised to r is no longer below it
under_raised : (l : List ℕ) (y r : ℕ) → y < length l → get_or l y 0 < r → under r (set l y r) + 1 ≡ under r l
under_raised [] y r h b = absurd (omega arith)
under_raised (x ∷ l) zero r h b = omega (arith, ap bit (lt-ltb x r b), ap bit (le-ltb r r (omega arith)))
under_raised (x ∷ l) (suc y) r h b = omega (arith, under_raised l y r (omega arith) b)

bit_small : (b : Bool) → bit b ≤ 1
bit_small true = omega arith
bit_small false = omega arith

under_short : (l : List ℕ) (r : ℕ) → under r l ≤ length l
under_short [] r = omega arith
under_short (x ∷ l) r = omega (arith, bit_small (ltb x r), under_short l r)

-- one of the numbers is not below r
pub room_for_one : (l : List ℕ) (y r : ℕ) → y < length l → 1 + under r (set l y r) ≤ length l
room_for_one [] y r h = absurd (omega arith)
room_for_one (x ∷ l) zero r h = omega (arith, ap bit (le-ltb r r (omega arith)), under_short l r)
room_for_one (x ∷ l) (suc y) r h = omega (arith, bit_small (ltb x r), room_for_one l y r (omega arith))

module _ {r : ℕ} where
  pub raises_long :
      {sizes pieces : List ℕ} {count : ℕ} {sizes' pieces' : List ℕ} {count' : ℕ} → Raises r sizes pieces count sizes' pieces' count' →
      (length sizes' ≡ length sizes) × (length pieces' ≡ length pieces) × (count ≤ count')
  raises_long none = (refl, refl, omega arith)
  raises_long (more {sizes' = s} {pieces' = p} {count' = c} q y h l) =
      let e = raises_long q in
      (length-set s y r ∙ e.0, length-set p c y ∙ e.1, omega (arith, e.2))

  pub raises_then :
      {s p : List ℕ} {c : ℕ} {s' p' : List ℕ} {c' : ℕ} {s'' p'' : List ℕ} {c'' : ℕ} → Raises r s p c s' p' c' → Raises r s' p' c' s'' p'' c'' → Raises r s p c s'' p'' c''
  raises_then q none = q
  raises_then q (more t y h l) = more (raises_then q t) y h l

  -- each node raised takes one place
  pub raises_room : {s p : List ℕ} {c : ℕ} {s' p' : List ℕ} {c' : ℕ} → Raises r s p c s' p' c' → c' + under r s' ≡ c + under r s
  raises_room none = refl
  raises_room (more {sizes' = s} q y h l) = omega (arith, raises_room q, under_raised s y r h l)

  pub room_after : {s p : List ℕ} {c : ℕ} {s' p' : List ℕ} {c' : ℕ} → Raises r s p c s' p' c' → c + under r s ≤ length p → c' + under r s' ≤ length p'
  room_after q h = omega (arith, raises_room q, (raises_long q).1)

  -- the nodes that waited still stand where they stood
  pub raises_front : {s p : List ℕ} {c : ℕ} {s' p' : List ℕ} {c' : ℕ} → Raises r s p c s' p' c' → (j : ℕ) → j < c → get_or p' j 0 ≡ get_or p j 0
  raises_front none j b = refl
  raises_front (more {pieces' = p} {count' = c} q y h l) j b = get_or-set_other p c j y 0 (λ e. omega (arith, (raises_long q).2)) ∙ raises_front q j b

  pub grown_none : {s : List ℕ} → Grown r s s
  grown_none = record { rises = λ x. omega arith; raised = λ x. inl refl }

  pub grown_then : {s t u : List ℕ} → Grown r s t → Grown r t u → Grown r s u
  grown_then {s} {t} {u} g h = record { rises = λ x. omega (arith, g.rises x, h.rises x); raised = λ x. by x (g.raised x) (h.raised x) }
    where
      by : (x : ℕ) → (get_or t x 0 ≡ get_or s x 0) ⊎ (get_or t x 0 ≡ r) → (get_or u x 0 ≡ get_or t x 0) ⊎ (get_or u x 0 ≡ r) → (get_or u x 0 ≡ get_or s x 0) ⊎ (get_or u x 0 ≡ r)
      by x a (inr e) = inr e
      by x (inl d) (inl e) = inl (e ∙ d)
      by x (inr d) (inl e) = inr (e ∙ d)

  grown_one : (s : List ℕ) (y : ℕ) → y < length s → get_or s y 0 < r → Grown r s (set s y r)
  grown_one s y h l = record { rises = λ x. up x (ℕ_discrete x y); raised = λ x. to x (ℕ_discrete x y) }
    where
      at : (x : ℕ) → x ≡ y → get_or (set s y r) x 0 ≡ r
      at x e = ap (λ (z : ℕ). get_or (set s y r) z 0) e ∙ get_or-set_same s y r 0 h

      up : (x : ℕ) → Dec (x ≡ y) → get_or s x 0 ≤ get_or (set s y r) x 0
      up x (yes e) = omega (arith, at x e, ap (λ (z : ℕ). get_or s z 0) e)
      up x (no n) = omega (arith, get_or-set_other s y x r 0 n)

      to : (x : ℕ) → Dec (x ≡ y) → (get_or (set s y r) x 0 ≡ get_or s x 0) ⊎ (get_or (set s y r) x 0 ≡ r)
      to x (yes e) = inr (at x e)
      to x (no n) = inl (get_or-set_other s y x r 0 n)

  pub raises_grown : {s p : List ℕ} {c : ℕ} {s' p' : List ℕ} {c' : ℕ} → Raises r s p c s' p' c' → Grown r s s'
  raises_grown none = grown_none
  raises_grown (more {sizes' = s} q y h l) = grown_then (raises_grown q) (grown_one s y h l)

  -- one node is raised
  module _ (s : List ℕ) (y : ℕ) (h : y < length s) (l : get_or s y 0 < r) where
    pub push_room : (count n : ℕ) → count + under r s ≤ n → count < n
    push_room count n b = omega (arith, under_raised s y r h l)

    pub raises_one : (p : List ℕ) (count : ℕ) → Raises r s p count (set s y r) (set p count y) (count + 1)
    raises_one p count = more none y h l

  -- what was raised stays raised
  pub raised_still : (cover : List ℕ) {s s' : List ℕ} → Grown r s s' → (y : ℕ) → Raised cover s r y → Raised cover s' r y
  raised_still cover g y f = record { raised = λ d. omega (arith, g.rises y, f.raised d) }

module _ (cover : List ℕ) (r : ℕ) (s p : List ℕ) (i c y : ℕ) (m : i ≤ c) (room : c < length p) (h : y < length s) (l : get_or s y 0 < r) where
  level_pushed : {G : Graph} → Level G cover s p i c → Level G cover (set s y r) (set p c y) i (c + 1)
  level_pushed {G} g = record { level = λ u v w t d e. by u v (ℕ_discrete u y) (ℕ_discrete v y) (g.level u v w t d e) }
    where
      by : (u v : ℕ) → Dec (u ≡ y) → Dec (v ≡ y) → (get_or s u 0 ≤ get_or s v 0) ⊎ Waits p i c u → (get_or (set s y r) u 0 ≤ get_or (set s y r) v 0) ⊎ Waits (set p c y) i (c + 1) u
      by u v (yes e) d q = inr (record { place = c; from = m; below = omega arith; is = get_or-set_same p c y 0 room ∙ sym e })
      by u v (no n) d (inr w) =
          inr (record { place = w.place; from = w.from; below = omega (arith, w.below); is = get_or-set_other p c w.place y 0 (λ e. omega (arith, w.below)) ∙ w.is })
      by u v (no n) (yes e) (inl b) =
          inl
          (omega (
            arith,
            get_or-set_other s y u r 0 n,
            ap (λ (z : ℕ). get_or (set s y r) z 0) e,
            ap (λ (z : ℕ). get_or s z 0) e,
            get_or-set_same s y r 0 h,
          ))
      by u v (no n) (no o) (inl b) = inl (omega (arith, get_or-set_other s y u r 0 n, get_or-set_other s y v r 0 o))

module _ {G : Graph} {cover : List ℕ} {r : ℕ} where
  spreads_pushed : (s p : List ℕ) (i c y : ℕ) → Spreads G cover r s p i c → y < length s → get_or s y 0 < r → Spreads G cover r (set s y r) (set p c y) i (c + 1)
  spreads_pushed s p i c y g h l =
      record {
        met = omega (arith, g.met);
        forth = level_pushed cover r s p i c y g.met room h l g.forth;
        back = level_pushed cover r s p i c y g.met room h l g.back;
        node = λ j b. node_by j b (ℕ_discrete j c);
        low = λ j b. low_by j b (ℕ_discrete j c);
        room = omega (arith, g.room, under_raised s y r h l, length-set p c y);
        sizes_long = length-set s y r ∙ g.sizes_long;
        pieces_long = length-set p c y ∙ g.pieces_long;
      }
    where
      room : c < length p
      room = omega (arith, g.room, under_raised s y r h l)

      at : (j : ℕ) → j ≡ c → get_or (set p c y) j 0 ≡ y
      at j e = ap (λ (z : ℕ). get_or (set p c y) z 0) e ∙ get_or-set_same p c y 0 room

      node_by : (j : ℕ) → j < c + 1 → Dec (j ≡ c) → get_or (set p c y) j 0 < length cover
      node_by j b (yes e) = omega (arith, at j e, g.sizes_long)
      node_by j b (no n) = omega (arith, get_or-set_other p c j y 0 n, g.node j (omega (arith, n)))

      size_by : (x : ℕ) → get_or s x 0 ≤ r → Dec (x ≡ y) → get_or (set s y r) x 0 ≤ r
      size_by x b (yes e) = omega (arith, ap (λ (z : ℕ). get_or (set s y r) z 0) e, get_or-set_same s y r 0 h)
      size_by x b (no n) = omega (arith, get_or-set_other s y x r 0 n)

      low_by : (j : ℕ) → j < c + 1 → Dec (j ≡ c) → get_or (set s y r) (get_or (set p c y) j 0) 0 ≤ r
      low_by j b (yes e) = omega (arith, ap (λ (z : ℕ). get_or (set s y r) z 0) (at j e), get_or-set_same s y r 0 h)
      low_by j b (no n) =
          omega (
            arith,
            ap (λ (z : ℕ). get_or (set s y r) z 0) (get_or-set_other p c j y 0 n),
            size_by (get_or p j 0) (g.low j (omega (arith, n))) (ℕ_discrete (get_or p j 0) y),
          )

  pub spreads_raises : {s p : List ℕ} {i c : ℕ} {s' p' : List ℕ} {c' : ℕ} → Spreads G cover r s p i c → Raises r s p c s' p' c' → Spreads G cover r s' p' i c'
  spreads_raises g none = g
  spreads_raises {i = i} g (more {sizes' = s} {pieces' = p} {count' = c} q y h l) = spreads_pushed s p i c y (spreads_raises g q) h l

-- the first node that waits has passed its size on
level_next :
    {G : Graph} {cover s p : List ℕ} {i c : ℕ} (r : ℕ) → get_or s (get_or p i 0) 0 ≤ r → ((v w : ℕ) → G.Step (get_or p i 0) v w → Dropped cover v → r ≤ get_or s v 0) →
    Level G cover s p i c → Level G cover s p (i + 1) c
level_next {G} {cover} {s} {p} {i} {c} r low over g = record { level = λ u v w t d e. by u v w t e (g.level u v w t d e) }
  where
    at : (u v w : ℕ) → G.Step u v w → Dropped cover v → (q : Waits p i c u) → Dec (q.place ≡ i) → (get_or s u 0 ≤ get_or s v 0) ⊎ Waits p (i + 1) c u
    at u v w t e q (yes f) =
        let x : u ≡ get_or p i 0 = sym q.is ∙ ap (λ (z : ℕ). get_or p z 0) f in
        inl (omega (arith, low, ap (λ (z : ℕ). get_or s z 0) x, over v w (subst (λ (z : ℕ). G.Step z v w) x t) e))
    at u v w t e q (no n) = inr (record { place = q.place; from = omega (arith, q.from, n); below = q.below; is = q.is })

    by : (u v w : ℕ) → G.Step u v w → Dropped cover v → (get_or s u 0 ≤ get_or s v 0) ⊎ Waits p i c u → (get_or s u 0 ≤ get_or s v 0) ⊎ Waits p (i + 1) c u
    by u v w t e (inl b) = inl b
    by u v w t e (inr q) = at u v w t e q (ℕ_discrete q.place i)

-- between two nodes that pass their size on
pub record Spreading (G : Graph) (cover : List ℕ) (r : ℕ) (sizes₀ sizes pieces : List ℕ) (i count : ℕ) : Type 0 where
  pub spreads : Spreads G cover r sizes pieces i count
  pub grown : Grown r sizes₀ sizes

module _ {G : Graph} {cover : List ℕ} {r : ℕ} {sizes₀ : List ℕ} where
  pub spreading_none : {p : List ℕ} {i c : ℕ} → Spreads G cover r sizes₀ p i c → Spreading G cover r sizes₀ sizes₀ p i c
  spreading_none g = record { spreads = g; grown = grown_none }

  module _ {s p : List ℕ} {i c : ℕ} (g : Spreading G cover r sizes₀ s p i c) where
    pub spreading_place : i < c → i < length p
    spreading_place b = omega (arith, g.spreads.room)

    pub spreading_node : i < c → get_or p i 0 < length cover
    spreading_node b = g.spreads.node i b

    -- nothing waits: the size has spread
    pub spreading_end : c ≤ i → Spread G cover r sizes₀ s
    spreading_end b =
        record {
          alike = record { even = λ u v w t d e. omega (arith, settled u v (g.spreads.forth.level u v w t d e), settled v u (g.spreads.back.level v u w t e d)) };
          grown = g.grown;
        }
      where
        settled : (u v : ℕ) → (get_or s u 0 ≤ get_or s v 0) ⊎ Waits p i c u → get_or s u 0 ≤ get_or s v 0
        settled u v (inl h) = h
        settled u v (inr w) = absurd (omega (arith, w.from, w.below))

-- The node at place i raises the nodes of its two rows.
module _ (starts heads weights starts' heads' weights' cover : List ℕ) (r : ℕ) (sizes₀ : List ℕ) (t : TurnedRound starts heads weights starts' heads' weights')
    {s p : List ℕ} {i c : ℕ} (g : Spreading (road starts heads weights) cover r sizes₀ s p i c) (b : i < c) {s' p' : List ℕ} {c' : ℕ}
    (q : Raises r s p c s' p' c') (f : Row starts heads (get_or p i 0) (Raised cover s' r)) {s'' p'' : List ℕ} {c'' : ℕ} (q' : Raises r s' p' c' s'' p'' c'')
    (f' : Row starts' heads' (get_or p i 0) (Raised cover s'' r)) where
  pub spreading_more : Spreading (road starts heads weights) cover r sizes₀ s'' p'' (i + 1) c''
  spreading_more =
      record {
        spreads =
            record {
              met = omega (arith, (raises_long q).2, (raises_long q').2);
              forth = level_next {G = road starts heads weights} r (h.low i first) over_forth h.forth;
              back = level_next {G = turned (road starts heads weights)} r (h.low i first) over_back h.back;
              node = h.node;
              low = h.low;
              room = h.room;
              sizes_long = h.sizes_long;
              pieces_long = h.pieces_long;
            };
        grown = grown_then g.grown (grown_then (raises_grown q) (raises_grown q'));
      }
    where
      h : Spreads (road starts heads weights) cover r s'' p'' i c''
      h = spreads_raises (spreads_raises g.spreads q) q'

      first : i < c''
      first = omega (arith, (raises_long q).2, (raises_long q').2)

      same : get_or p'' i 0 ≡ get_or p i 0
      same = raises_front q' i (omega (arith, (raises_long q).2)) ∙ raises_front q i b

      over_forth : (v w : ℕ) → (road starts heads weights).Step (get_or p'' i 0) v w → Dropped cover v → r ≤ get_or s'' v 0
      over_forth v w a d =
          (raised_still cover (raises_grown q') v (f.each v (joined_of (subst (λ (z : ℕ). (road starts heads weights).Step z v w) same a)))).raised d

      over_back : (v w : ℕ) → (road starts heads weights).Step v (get_or p'' i 0) w → Dropped cover v → r ≤ get_or s'' v 0
      over_back v w a d = (f'.each v (joined_of (t.turns v (get_or p i 0) w (subst (λ (z : ℕ). (road starts heads weights).Step v z w) same a)))).raised d
