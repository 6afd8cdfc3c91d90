-- The search's loop over the arcs of one node, for either end of the path.
use mathlib.Core.Path.{◌≡◌, refl, sym, subst}
use mathlib.Core.Bool.{Bool}
use mathlib.Core.Logic.{◌⊎◌, inl, inr, ⊎_elim, ◌≢◌}
use mathlib.Core.List.{List, [], ◌∷◌, ◌++◌}
use Prim.Native.Nat.{ℕ, suc, ◌+◌, ◌-◌, ◌≤◌, ◌<◌, max}
use native.Mathlib.Decide.{dec_lt}
use native.Mathlib.Omega.{arith}
use borrow.Author.Count.{below_more}
use lib.ListN.{length, get_or}
use Rattle.paths.specs.Lists.{Mem}
use Rattle.paths.proofs.Lists.{mem_left, mem_right, mem_cases}
use Rattle.road.specs.Drives.{Joined}
use Rattle.road.specs.workings.Verdicts.{Tells}
use Rattle.road.specs.declared.Limits.{Limits}
use Rattle.road.specs.Roads.{nodes_of, Owns}
use Rattle.road.specs.workings.Sound.{Rising, Sound}
use Rattle.road.proofs.Rows.{owned_listed}
use Rattle.rule.specs.Rule.{Dropped}
use Rattle.trails.specs.workings.Search.{Completes, ends, longer, NoneMissing, Outward, OutwardFrom, FreeNode, Longest, Within, Searchable}

-- one way to complete the path, taken apart
record Longer (Next : ℕ → ℕ → Type 0) (Free : ℕ → Type 0) (End : List ℕ → ℕ → Type 0) (on : List ℕ) (a m : ℕ) : Type 0 where
  node : ℕ
  left : ℕ
  fewer : m ≡ suc left
  next : Next a node
  free : Free node
  new : Mem node on → ⊥
  rest : Completes Next Free End (on ++ (node ∷ [])) node left

apart : {Next : ℕ → ℕ → Type 0} {Free : ℕ → Type 0} {End : List ℕ → ℕ → Type 0} {on : List ℕ} {a m : ℕ} → Completes Next Free End on a m → End on m ⊎ Longer Next Free End on a m
apart (ends e) = inl e
apart (longer {m = m} x n f w r) = inr (record { node = x; left = m; fewer = refl; next = n; free = f; new = w; rest = r })

-- the arcs at places from `from` up to, but not including, i lead nowhere
pub record Tried (End : List ℕ → ℕ → Type 0) (starts heads cover on : List ℕ) (m «from» i : ℕ) : Type 0 where
  pub nowhere :
      (j : ℕ) → «from» ≤ j → j < i → FreeNode cover on (get_or heads j 0) →
      Completes (Joined starts heads) (Dropped cover) End (on ++ (get_or heads j 0 ∷ [])) (get_or heads j 0) m → ⊥

module _ (End : List ℕ → ℕ → Type 0) (starts heads cover on : List ℕ) where
  pub tried_none : (m i : ℕ) → Tried End starts heads cover on m i i
  tried_none m i = record { nowhere = λ j h l f r. omega arith }

  pub tried_more :
      (m i k : ℕ) → Tried End starts heads cover on m k i →
      (FreeNode cover on (get_or heads i 0) → Completes (Joined starts heads) (Dropped cover) End (on ++ (get_or heads i 0 ∷ [])) (get_or heads i 0) m → ⊥) →
      Tried End starts heads cover on m k (i + 1)
  tried_more m i k t n =
      record {
        nowhere =
            λ j h l.
            below_more
            (λ (x : ℕ). k ≤ x → FreeNode cover on (get_or heads x 0) → Completes (Joined starts heads) (Dropped cover) End (on ++ (get_or heads x 0 ∷ [])) (get_or heads x 0) m → ⊥)
            i (λ x b c. t.nowhere x c b) (λ c. n) j l h;
      }

  module _ (g : Rising starts heads) (a m : ℕ) (some : m ≢ 0) where
    -- an arc that leads on
    pub leads :
        (i : ℕ) → get_or starts a 0 ≤ i → i < get_or starts (a + 1) 0 → FreeNode cover on (get_or heads i 0) →
        Completes (Joined starts heads) (Dropped cover) End (on ++ (get_or heads i 0 ∷ [])) (get_or heads i 0) (m - 1) →
        Completes (Joined starts heads) (Dropped cover) End on a m
    leads i h l f r =
        let owned : Owns starts a i = record { from = h; below = l } in
        let next : Joined starts heads a (get_or heads i 0) = record { place = i; listed = owned_listed starts heads g a i owned; owned = owned; head = refl } in
        let same : suc (m - 1) ≡ m = omega (arith, some) in
        subst (λ (x : ℕ). Completes (Joined starts heads) (Dropped cover) End on a x) same (longer (get_or heads i 0) next f.dropped f.new r)

    -- all arcs lead nowhere, and the path is not complete at this end
    pub none_leads :
        Tried End starts heads cover on (m - 1) (get_or starts a 0) (get_or starts (a + 1) 0) → (End on m → ⊥) →
        Completes (Joined starts heads) (Dropped cover) End on a m → ⊥
    none_leads t n c = by (apart c)
      where
        by : End on m ⊎ Longer (Joined starts heads) (Dropped cover) End on a m → ⊥
        by (inl e) = n e
        by (inr w) =
            let at : ℕ = w.next.place in
            let e : w.node ≡ get_or heads at 0 = sym w.next.head in
            let fewer : w.left ≡ m - 1 = omega (arith, w.fewer) in
            t.nowhere at w.next.owned.from w.next.owned.below
            (subst (FreeNode cover on) e (record { dropped = w.free; new = w.new }))
            (subst (λ (x : ℕ). Completes (Joined starts heads) (Dropped cover) End (on ++ (get_or heads at 0 ∷ [])) (get_or heads at 0) x) fewer
            (subst (λ (x : ℕ). Completes (Joined starts heads) (Dropped cover) End (on ++ (x ∷ [])) x w.left) e w.rest))

    -- so the answer at this end is the answer
    pub last_resort :
        {b : Bool} → Tried End starts heads cover on (m - 1) (get_or starts a 0) (get_or starts (a + 1) 0) → Tells b (End on m) →
        Tells b (Completes (Joined starts heads) (Dropped cover) End on a m)
    last_resort t u = record { yes = λ e. ends (u.yes e); no = λ e. none_leads t (u.no e) }

pub row_bounds : (starts heads : List ℕ) (n a : ℕ) → Searchable starts heads n → a < n → a + 1 < length starts
row_bounds starts heads n a g h = omega (arith, g.long)

module _ (starts heads : List ℕ) (n a i : ℕ) (g : Searchable starts heads n) (h : get_or starts a 0 ≤ i) (l : i < get_or starts (a + 1) 0) where
  pub place_listed : i < length heads
  place_listed = owned_listed starts heads g.rising a i (record { from = h; below = l })

  pub head_node : get_or heads i 0 < n
  head_node = g.inside i place_listed

-- what the search found of the path with one node more, said of the nodes then on the path
pub carried : (R : List ℕ → Type 0) {b : Bool} (on : List ℕ) {on' : List ℕ} (v : ℕ) → on' ≡ on ++ (v ∷ []) → Tells b (R on') → Tells b (R (on ++ (v ∷ [])))
carried R {b} on v e t = subst (λ (l : List ℕ). Tells b (R l)) e t

-- the places tried, where the row ends
pub tried_to : (End : List ℕ → ℕ → Type 0) (starts heads cover on : List ℕ) (m k i j : ℕ) → i ≡ j → Tried End starts heads cover on m k i → Tried End starts heads cover on m k j
tried_to End starts heads cover on m k i j e t = subst (λ (x : ℕ). Tried End starts heads cover on m k x) e t

-- a well-formed graph can be searched
pub searchable : (L : Limits) (starts heads weights : List ℕ) (n : ℕ) → Sound L starts heads weights → n ≡ nodes_of starts → Searchable starts heads n
searchable L starts heads weights n g e =
    record { long = omega (arith, g.sized.least); rising = g.rising; inside = λ p h. omega (arith, g.inside p h) }

-- Fewer nodes on the path hinder no more.
fewer_on :
    {Next : ℕ → ℕ → Type 0} {Free : ℕ → Type 0} {on : List ℕ} {a m : ℕ} (less : List ℕ) → ((x : ℕ) → Mem x less → Mem x on) → Completes Next Free NoneMissing on a m →
    Completes Next Free NoneMissing less a m
fewer_on less f (ends e) = ends (record { none = e.none })
fewer_on {on = on} less f (longer x n g w c) = longer x n g (λ h. w (f x h)) (fewer_on (less ++ (x ∷ [])) more c)
  where
    more : (y : ℕ) → Mem y (less ++ (x ∷ [])) → Mem y (on ++ (x ∷ []))
    more y h = ⊎_elim (λ k. mem_left y on (x ∷ []) (f y k)) (λ k. mem_right y on (x ∷ []) k) (mem_cases y less (x ∷ []) h)

-- The longest way out: over the arcs at places from `k` up to, but not including, i it is at most `best`.
pub record Measured (starts heads cover on : List ℕ) (most best k i : ℕ) : Type 0 where
  pub below :
      (j : ℕ) → k ≤ j → j < i → FreeNode cover on (get_or heads j 0) → (m : ℕ) → m ≤ most - 1 →
      Outward starts heads cover (on ++ (get_or heads j 0 ∷ [])) (get_or heads j 0) m → m + 1 ≤ best

module _ (starts heads cover on : List ℕ) (most : ℕ) where
  pub measured_none : (best i : ℕ) → Measured starts heads cover on most best i i
  measured_none best i = record { below = λ j h l f m b o. absurd (omega arith) }

  pub measured_more :
      (best after k i : ℕ) → best ≤ after → Measured starts heads cover on most best k i →
      (FreeNode cover on (get_or heads i 0) → (m : ℕ) → m ≤ most - 1 → Outward starts heads cover (on ++ (get_or heads i 0 ∷ [])) (get_or heads i 0) m → m + 1 ≤ after) →
      Measured starts heads cover on most after k (i + 1)
  measured_more best after k i h t n =
      record {
        below =
            λ j b l.
            below_more
            (λ (x : ℕ). k ≤ x → FreeNode cover on (get_or heads x 0) → (m : ℕ) → m ≤ most - 1 → Outward starts heads cover (on ++ (get_or heads x 0 ∷ [])) (get_or heads x 0) m → m + 1 ≤ after)
            i (λ x c d f m e o. omega (arith, t.below x d c f m e o)) (λ d. n) j l b;
      }

-- the larger of two numbers is one of them
max_one : (a b r : ℕ) → r ≡ max a b → (r ≡ a) ⊎ (r ≡ b)
max_one a b r e = by (dec_lt a b)
  where
    by : Dec (a < b) → (r ≡ a) ⊎ (r ≡ b)
    by (yes h) = inr (omega arith)
    by (no h) = inl (omega arith)

-- the best so far, at place i of a's row
pub record Best (starts heads cover on : List ℕ) (most a end i best : ℕ) : Type 0 where
  pub from : get_or starts a 0 ≤ i
  pub to : i ≤ end
  pub measured : Measured starts heads cover on most best (get_or starts a 0) i
  pub reached : Outward starts heads cover on a best
  pub short : best ≤ most

module _ (starts heads cover on : List ℕ) (most a end : ℕ) where
  pub best_none : (i : ℕ) → i ≡ get_or starts a 0 → i ≤ end → Best starts heads cover on most a end i 0
  best_none i e h =
      record {
        from = omega arith;
        to = h;
        measured = subst (λ (x : ℕ). Measured starts heads cover on most 0 x i) e (measured_none starts heads cover on most 0 i);
        reached = ends (record { none = refl });
        short = omega arith;
      }

  module _ (i best : ℕ) (b : Best starts heads cover on most a end i best) (h : i < end) where
    pub best_missed : (FreeNode cover on (get_or heads i 0) → ⊥) → Best starts heads cover on most a end (i + 1) best
    best_missed n =
        record {
          from = omega (arith, b.from);
          to = omega arith;
          measured = measured_more starts heads cover on most best best (get_or starts a 0) i (omega arith) b.measured (λ f. absurd (n f));
          reached = b.reached;
          short = b.short;
        }

    module _ (g : Rising starts heads) (last : end ≡ get_or starts (a + 1) 0) (some : most ≢ 0) (f : FreeNode cover on (get_or heads i 0)) (found after : ℕ)
        (l : Longest starts heads cover (on ++ (get_or heads i 0 ∷ [])) (get_or heads i 0) (most - 1) found) (w : after ≡ max best (found + 1)) where
      pub best_reached : Outward starts heads cover on a after
      best_reached = by (max_one best (found + 1) after w)
        where
          fewer : found ≡ found + 1 - 1
          fewer = omega arith

          by : (after ≡ best) ⊎ (after ≡ found + 1) → Outward starts heads cover on a after
          by (inl e) = subst (Outward starts heads cover on a) (sym e) b.reached
          by (inr e) =
              subst (Outward starts heads cover on a) (sym e)
              (leads NoneMissing starts heads cover on g a (found + 1) (λ z. omega arith) i b.from (omega arith) f
              (subst (λ (m : ℕ). Outward starts heads cover (on ++ (get_or heads i 0 ∷ [])) (get_or heads i 0) m) fewer l.reached))

      pub best_short : after ≤ most
      best_short = by (max_one best (found + 1) after w)
        where
          by : (after ≡ best) ⊎ (after ≡ found + 1) → after ≤ most
          by (inl e) = omega (arith, b.short)
          by (inr e) = omega (arith, l.short, some)

      pub best_met : Best starts heads cover on most a end (i + 1) after
      best_met =
          record {
            from = omega (arith, b.from);
            to = omega arith;
            measured =
                measured_more starts heads cover on most best after (get_or starts a 0) i (omega arith) b.measured (λ k m c o. omega (arith, l.bound m c o));
            reached = best_reached;
            short = best_short;
          }

  pub best_is : (best : ℕ) → Best starts heads cover on most a end end best → end ≡ get_or starts (a + 1) 0 → Longest starts heads cover on a most best
  best_is best b last = record { reached = b.reached; short = b.short; bound = λ m h o. by m h (apart o) }
    where
      by : (m : ℕ) → m ≤ most → NoneMissing on m ⊎ Longer (Joined starts heads) (Dropped cover) NoneMissing on a m → m ≤ best
      by m h (inl e) = omega (arith, e.none)
      by m h (inr w) =
          let at : ℕ = w.next.place in
          let e : w.node ≡ get_or heads at 0 = sym w.next.head in
          omega (
            arith,
            w.fewer,
            b.measured.below at w.next.owned.from (omega (arith, w.next.owned.below)) (subst (FreeNode cover on) e (record { dropped = w.free; new = w.new })) w.left
                (omega (arith, w.fewer))
                (subst (λ (x : ℕ). Outward starts heads cover (on ++ (x ∷ [])) x w.left) e w.rest),
          )

  pub longest_most : (best : ℕ) → most ≤ best → best ≤ most → Outward starts heads cover on a best → Longest starts heads cover on a most best
  longest_most best h l r = record { reached = r; short = l; bound = λ m b o. omega arith }

pub best_at : (starts heads cover on : List ℕ) (most a end i j best : ℕ) → i ≡ j → Best starts heads cover on most a end i best → Best starts heads cover on most a end j best
best_at starts heads cover on most a end i j best e b = subst (λ (x : ℕ). Best starts heads cover on most a end x best) e b

pub longest_none : (starts heads cover on : List ℕ) (a most : ℕ) → most ≡ 0 → Longest starts heads cover on a most 0
longest_none starts heads cover on a most e = record { reached = ends (record { none = refl }); short = omega arith; bound = λ m h o. omega arith }

pub longest_carried :
    (starts heads cover on on' : List ℕ) (v most r : ℕ) → on' ≡ on ++ (v ∷ []) → Longest starts heads cover on' v most r → Longest starts heads cover (on ++ (v ∷ [])) v most r
longest_carried starts heads cover on on' v most r e l = subst (λ (k : List ℕ). Longest starts heads cover k v most r) e l

-- One node more on the path: what can come onto it at its outward end is no more than before.
pub within_longer :
    (starts heads cover on on' : List ℕ) (last most r v : ℕ) → on' ≡ on ++ (v ∷ []) → Within starts heads cover on last most r → Within starts heads cover on' last (most - 1) r
within_longer starts heads cover on on' last most r v e w =
    subst (λ (l : List ℕ). Within starts heads cover l last (most - 1) r) (sym e)
    (record { bound = λ m h o. w.bound m (omega arith) (fewer_on on (λ x k. mem_left x on (v ∷ []) k) o) })

pub within_of : (starts heads cover on : List ℕ) (last most r : ℕ) → Longest starts heads cover on last most r → Within starts heads cover on last most r
within_of starts heads cover on last most r l = record { bound = l.bound }

-- more are missing than can come
pub out_of_reach : (starts heads cover on : List ℕ) (last most r : ℕ) → Within starts heads cover on last most r → r < most → OutwardFrom starts heads cover last on most → ⊥
out_of_reach starts heads cover on last most r w h o = omega (arith, w.bound most (omega arith) o.outward)
