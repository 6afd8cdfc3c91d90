-- Two ascending lists of the same numbers are equal, so the thinned drive is one.
use mathlib.Core.Path.{◌≡◌, refl, ap, ◌∙◌}
use mathlib.Core.Logic.{inl, inr}
use mathlib.Core.List.{List, [], ◌∷◌}
use Prim.Native.Nat.{ℕ, ◌≤◌, ◌<◌}
use native.Mathlib.Omega.{arith}
use Rattle.paths.specs.Lists.{Mem, Each}
use Rattle.paths.proofs.Lists.{each_mem}
use Rattle.drive.specs.Thinning.{Ascending, ListOf, ThinnedDrive}

-- the first number of an ascending list is the least
least_first : (x y : ℕ) (l : List ℕ) → Each (λ (z : ℕ). y < z) l → Mem x (y ∷ l) → y ≤ x
least_first x y l e (inl q) = omega arith
least_first x y l e (inr h) = omega (arith, each_mem (λ (z : ℕ). y < z) x l e h)

-- what stands in the list but is not the first stands after it
after_first : (x y : ℕ) (l : List ℕ) → y < x → Mem x (y ∷ l) → Mem x l
after_first x y l h (inl q) = absurd (omega arith)
after_first x y l h (inr m) = m

same_numbers : (l m : List ℕ) → Ascending l → Ascending m → ((i : ℕ) → Mem i l → Mem i m) → ((i : ℕ) → Mem i m → Mem i l) → l ≡ m
same_numbers [] [] a b f g = refl
same_numbers [] (y ∷ m) a b f g = absurd (g y (inl refl))
same_numbers (x ∷ l) [] a b f g = absurd (f x (inl refl))
same_numbers (x ∷ l) (y ∷ m) a b f g =
    let first : x ≡ y = omega (arith, least_first x y m b.0 (f x (inl refl)), least_first y x l a.0 (g y (inl refl))) in
    let rest : l ≡ m =
    same_numbers l m a.1 b.1 (λ i h. after_first i y m (omega (arith, each_mem (λ (z : ℕ). x < z) i l a.0 h, first)) (f i (inr h)))
    (λ i h. after_first i x l (omega (arith, each_mem (λ (z : ℕ). y < z) i m b.0 h, first)) (g i (inr h))) in
    ap (λ (z : ℕ). z ∷ l) first ∙ ap (λ (k : List ℕ). y ∷ k) rest

-- the ascending list of some numbers is one
list_one : {P : ℕ → Type 0} (l m : List ℕ) → ListOf P l → ListOf P m → l ≡ m
list_one l m f g = same_numbers l m f.ascends g.ascends (λ i h. g.all i (f.only i h)) (λ i h. f.all i (g.only i h))

pub thinned_one : (bytes drive l m : List ℕ) → ThinnedDrive bytes drive l → ThinnedDrive bytes drive m → l ≡ m
thinned_one bytes drive l m = list_one l m
