-- Check 5: nodes marked as they are met.
use mathlib.Core.Path.{◌≡◌, refl, sym, ap, subst, ◌∙◌}
use mathlib.Core.Bool.{Bool, true, false}
use mathlib.Core.Logic.{◌⊎◌, inl, inr, ◌≢◌}
use mathlib.Core.List.{List, [], ◌∷◌}
use Prim.Native.Nat.{ℕ, zero, suc, ◌+◌, ◌≤◌, ◌<◌}
use native.Mathlib.Decide.{ℕ_discrete}
use native.Mathlib.Omega.{arith}
use borrow.Author.Count.{below_more}
use borrow.Author.Tests.{clash}
use lib.ListN.{length, get_or, set, replicate, length-set, length-replicate}
use lib.Seq.{get_or-set_same, get_or-set_other}
use Rattle.paths.specs.Lists.{Mem, Different, Each}
use Rattle.paths.proofs.Lists.{mem?, mem_at, place_of, each_mem, mem_each, few, many, full}
use Rattle.road.specs.Faults.{Permutation}
use Rattle.road.proofs.Faults.{not_over}

-- different places of different nodes
pub different_at : (l : List ℕ) → Different l → (i j : ℕ) → i < j → j < length l → get_or l i 0 ≡ get_or l j 0 → ⊥
different_at (x ∷ l) d zero (suc j) h k e = d.0 (subst (λ (y : ℕ). Mem y l) (sym e) (mem_at l j (omega arith)))
different_at (x ∷ l) d (suc i) (suc j) h k e = different_at l d.1 i j (omega arith) (omega arith) e
different_at (x ∷ l) d zero zero h k e = omega arith
different_at (x ∷ l) d (suc i) zero h k e = omega arith
different_at [] d i j h k e = omega arith

pub different_of : (l : List ℕ) → ((i j : ℕ) → i < j → j < length l → get_or l i 0 ≡ get_or l j 0 → ⊥) → Different l
different_of [] f = tt
different_of (x ∷ l) f = (fresh, different_of l (λ i j h k e. f (suc i) (suc j) (omega arith) (omega arith) e))
  where
    fresh : Mem x l → ⊥
    fresh m = let p = place_of x l m in f 0 (suc p.0) (omega arith) (omega (arith, p.1)) (sym p.2)

clear_at : (n i : ℕ) → get_or (replicate n false) i false ≡ false
clear_at zero i = refl
clear_at (suc n) zero = refl
clear_at (suc n) (suc i) = clear_at n i

-- the first i of the order are nodes and different, and exactly they are marked
pub record Marked (n : ℕ) (order : List ℕ) (i : ℕ) (seen : List Bool) : Type 0 where
  pub long : length seen ≡ 4096
  pub within : i ≤ length order
  pub nodes : (j : ℕ) → j < i → get_or order j 0 < n
  pub apart : (j k : ℕ) → j < k → k < i → get_or order j 0 ≡ get_or order k 0 → ⊥
  pub marked : (j : ℕ) → j < i → get_or seen (get_or order j 0) false ≡ true
  pub met : (v : ℕ) → get_or seen v false ≡ true → (j : ℕ) × (j < i) × (get_or order j 0 ≡ v)

pub mark_none : (n : ℕ) (order : List ℕ) → Marked n order 0 (replicate 4096 false)
mark_none n order =
    record {
      long = length-replicate 4096 false;
      within = omega arith;
      nodes = λ j h. omega arith;
      apart = λ j k h l e. omega arith;
      marked = λ j h. absurd (omega arith);
      met = λ v h. absurd (clash (sym (clear_at 4096 v) ∙ h));
    }

module _ (n : ℕ) (order : List ℕ) (i : ℕ) (seen : List Bool) (m : Marked n order i seen) (node : get_or order i 0 < n) (small : n ≤ 4096) where
  new_marks : List Bool
  new_marks = set seen (get_or order i 0) true

  still_marked : (v : ℕ) → get_or seen v false ≡ true → get_or new_marks v false ≡ true
  unfolding new_marks
  still_marked v h = by (ℕ_discrete v (get_or order i 0))
    where
      by : Dec (v ≡ get_or order i 0) → get_or (set seen (get_or order i 0) true) v false ≡ true
      by (yes e) = ap (λ (y : ℕ). get_or (set seen (get_or order i 0) true) y false) e ∙ get_or-set_same seen (get_or order i 0) true false (omega (arith, m.long))
      by (no d) = get_or-set_other seen (get_or order i 0) v true false d ∙ h

  pub mark_more : i < length order → get_or seen (get_or order i 0) false ≡ false → Marked n order (i + 1) (set seen (get_or order i 0) true)
  unfolding new_marks
  mark_more h fresh =
      record {
        long = length-set seen (get_or order i 0) true ∙ m.long;
        within = omega arith;
        nodes = below_more (λ (j : ℕ). get_or order j 0 < n) i m.nodes node;
        apart = λ j k a b. by_last j k a (ℕ_discrete k i) b;
        marked = below_more (λ (j : ℕ). get_or (set seen (get_or order i 0) true) (get_or order j 0) false ≡ true) i (λ j l. still_marked (get_or order j 0) (m.marked j l)) here;
        met = λ v z. by_node v (ℕ_discrete v (get_or order i 0)) z;
      }
    where
      here : get_or (set seen (get_or order i 0) true) (get_or order i 0) false ≡ true
      here = get_or-set_same seen (get_or order i 0) true false (omega (arith, m.long))

      by_last : (j k : ℕ) → j < k → Dec (k ≡ i) → k < i + 1 → get_or order j 0 ≡ get_or order k 0 → ⊥
      by_last j k a (yes e) b s = clash (sym fresh ∙ sym (ap (λ (y : ℕ). get_or seen y false) (s ∙ ap (λ (y : ℕ). get_or order y 0) e)) ∙ m.marked j (omega arith))
      by_last j k a (no d) b s = m.apart j k a (omega (arith, d)) s

      by_node : (v : ℕ) → Dec (v ≡ get_or order i 0) → get_or (set seen (get_or order i 0) true) v false ≡ true → (j : ℕ) × (j < i + 1) × (get_or order j 0 ≡ v)
      by_node v (yes e) z = (i, omega arith, sym e)
      by_node v (no d) z =
          let old = m.met v (sym (get_or-set_other seen (get_or order i 0) v true false d) ∙ z) in
          (old.0, omega (arith, old.1), old.2)

module _ (n : ℕ) (order : List ℕ) where
  -- a node that is marked already stands twice
  pub repeats : (i : ℕ) (seen : List Bool) → Marked n order i seen → i < length order → get_or seen (get_or order i 0) false ≡ true → Permutation n order → ⊥
  repeats i seen m h z p = let old = m.met (get_or order i 0) z in different_at order p.once old.0 i old.1 h old.2

  pub no_node : (i : ℕ) → i < length order → n ≤ get_or order i 0 → Permutation n order → ⊥
  no_node i h o p = omega (arith, each_mem (λ (v : ℕ). v < n) (get_or order i 0) order p.only (mem_at order i h))

  pub other_length : length order ≢ n → Permutation n order → ⊥
  other_length d p = d (omega (arith, few n order p.once p.only, many n order p.all))

  pub permutes : (i : ℕ) (seen : List Bool) → Marked n order i seen → length order ≤ i → length order ≡ n → Permutation n order
  permutes i seen m h e =
      let once : Different order = different_of order (λ j k a b s. m.apart j k a (omega arith) s) in
      let only : Each (λ (v : ℕ). v < n) order = mem_each (λ (v : ℕ). v < n) order node in
      record { all = full n order e once only; once = once; only = only }
    where
      node : (v : ℕ) → Mem v order → v < n
      node v s = let p = place_of v order s in omega (arith, m.nodes p.0 (omega (arith, p.1)), p.2)

different_stable : (l : List ℕ) → ((Different l → ⊥) → ⊥) → Different l
different_stable [] f = tt
different_stable (x ∷ l) f = ((λ h. f (λ d. d.0 h)), different_stable l (λ g. f (λ d. g d.1)))

-- an order that is not refused is a permutation
pub permuted : (n : ℕ) (order : List ℕ) → ((Permutation n order → ⊥) → ⊥) → Permutation n order
permuted n order f =
    record {
      all = λ v h. by v h (mem? v order);
      once = different_stable order (λ g. f (λ p. g p.once));
      only = mem_each (λ (v : ℕ). v < n) order (λ v h. not_over (suc v) n (λ l. f (λ p. omega (arith, each_mem (λ (x : ℕ). x < n) v order p.only h))));
    }
  where
    by : (v : ℕ) → v < n → Mem v order ⊎ (Mem v order → ⊥) → Mem v order
    by v h (inl m) = m
    by v h (inr g) = absurd (f (λ p. g (p.all v h)))
