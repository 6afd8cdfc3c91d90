-- A slice filled from the front on, and counting numbers below another.
use mathlib.Core.Path.{◌≡◌, refl, sym, ap, ◌∙◌}
use mathlib.Core.List.{List, [], ◌∷◌, ◌++◌}
use Prim.Native.Nat.{ℕ, zero, suc, ◌+◌, ◌≤◌, ◌<◌}
use native.Mathlib.Omega.{arith}
use lib.Dec.{ltb}
use mathlib.Core.Bool.{Bool, true, false}
use Rattle.std.proofs.Math.Bool.{cond}
use Rattle.std.proofs.lemmas.List.Recursion.{is_count_by}
use Rattle.std.specs.List.{count_by}
use lib.ListN.{length, set, take, length-set}
use lib.Seq.{take-suc-set, take-length}
use Rattle.road.specs.Counting.{bit, under}
use Rattle.maps.specs.Lists.{belows, numbers}

-- the first i entries are those of F
pub record Filled (F : ℕ → List ℕ) (l : List ℕ) (i : ℕ) (m : List ℕ) : Type 0 where
  pub long : length m ≡ length l
  pub within : i ≤ length l
  pub front : take i m ≡ F i

module _ (F : ℕ → List ℕ) (l : List ℕ) where
  pub filled_none : F 0 ≡ [] → Filled F l 0 l
  filled_none e = record { long = refl; within = omega arith; front = sym e }

  pub filled_more : (i : ℕ) (m : List ℕ) (x : ℕ) → i < length l → F (suc i) ≡ F i ++ (x ∷ []) → Filled F l i m → Filled F l (i + 1) (set m i x)
  filled_more i m x h e f =
      let next : suc i ≡ i + 1 = omega arith in
      record {
        long = length-set m i x ∙ f.long;
        within = omega arith;
        front =
            ap (λ (j : ℕ). take j (set m i x)) (sym next) ∙ take-suc-set m i x (omega (arith, f.long)) ∙ ap (λ (k : List ℕ). k ++ (x ∷ [])) f.front ∙ sym e ∙
            ap F next;
      }

  pub filled_all : (i : ℕ) (m : List ℕ) → length l ≤ i → Filled F l i m → m ≡ F (length l)
  filled_all i m h f =
      let e : length m ≡ i = omega (arith, f.long, f.within) in
      let g : i ≡ length l = omega (arith, f.within) in
      sym (take-length m) ∙ ap (λ (j : ℕ). take j m) e ∙ f.front ∙ ap F g

pub numbers_more : (v c : ℕ) → numbers v (suc c) ≡ numbers v c ++ ((v + c) ∷ [])
numbers_more v zero = let e : v ≡ v + 0 = omega arith in ap (λ (x : ℕ). x ∷ []) e
numbers_more v (suc c) =
    let e : suc v + c ≡ v + suc c = omega arith in
    ap (λ (l : List ℕ). v ∷ l) (numbers_more (suc v) c ∙ ap (λ (x : ℕ). numbers (suc v) c ++ (x ∷ [])) e)

pub counted_more : (i : ℕ) → numbers 0 (suc i) ≡ numbers 0 i ++ (i ∷ [])
counted_more i = let e : 0 + i ≡ i = omega arith in numbers_more 0 i ∙ ap (λ (x : ℕ). numbers 0 i ++ (x ∷ [])) e

belows_from : (tails : List ℕ) (v c : ℕ) → belows tails v (suc c) ≡ belows tails v c ++ (under (v + c) tails ∷ [])
belows_from tails v zero = let e : v ≡ v + 0 = omega arith in ap (λ (x : ℕ). under x tails ∷ []) e
belows_from tails v (suc c) =
    let e : suc v + c ≡ v + suc c = omega arith in
    ap (λ (l : List ℕ). under v tails ∷ l) (belows_from tails (suc v) c ∙ ap (λ (x : ℕ). belows tails (suc v) c ++ (under x tails ∷ [])) e)

-- counting those below v
under_counts : (v : ℕ) (l : List ℕ) → count_by (λ (x : ℕ). ltb x v) l ≡ under v l
under_counts v l = sym (is_count_by (under v) (λ (x : ℕ). ltb x v) refl (λ x xs. by (ltb x v) (under v xs)) l)
  where
    by : (b : Bool) (n : ℕ) → bit b + n ≡ cond b (1 + n) n
    by true n = refl
    by false n = omega arith

pub belows_more :
    (tails : List ℕ) (v x : ℕ) → x ≡ count_by (λ (y : ℕ). ltb y v) tails → belows tails 0 (suc v) ≡ belows tails 0 v ++ (x ∷ [])
belows_more tails v x h =
    let e : 0 + v ≡ v = omega arith in
    belows_from tails 0 v ∙ ap (λ (y : ℕ). belows tails 0 v ++ (under y tails ∷ [])) e ∙
    ap (λ (y : ℕ). belows tails 0 v ++ (y ∷ [])) (sym (h ∙ under_counts v tails))
