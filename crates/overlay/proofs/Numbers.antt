-- How many numbers have a property: at most one number says it, and it carries over.
use mathlib.Core.Path.{◌≡◌, refl, sym, ap, subst, subst₂, ◌∙◌}
use mathlib.Core.Logic.{◌⊎◌, inl, inr}
use Prim.Native.Nat.{ℕ, zero, suc, ◌+◌, ◌≤◌, ◌<◌}
use native.Mathlib.Decide.{ℕ_discrete}
use native.Mathlib.Numerals.{add-one}
use native.Mathlib.Omega.{arith}
use Rattle.overlay.specs.Numbers.{Number, none, one, skip}

-- A count up to n that is one, and of which a part counts no more than the whole, does not fall as n rises.
pub rise :
    (R : ℕ → ℕ → Type 0) → ((n m r : ℕ) → R n m → R n r → m ≡ r) → ((k r : ℕ) → R (suc k) r → (q : ℕ) × R k q × (q ≤ r)) → (n' n m r : ℕ) → n ≤ n' → R n m →
    R n' r → m ≤ r
rise R same back zero n m r h x y =
    let first : n ≡ 0 = omega arith in
    omega (arith, same 0 m r (subst (λ (k : ℕ). R k m) first x) y)
rise R same back (suc k) n m r h x y = by (ℕ_discrete n (suc k)) (back k r y) (λ q g z. rise R same back k n m q g x z)
  where
    by : Dec (n ≡ suc k) → (q : ℕ) × R k q × (q ≤ r) → ((q : ℕ) → n ≤ k → R k q → m ≤ q) → m ≤ r
    by (yes e) b again = omega (arith, same (suc k) m r (subst (λ (l : ℕ). R l m) e x) y)
    by (no d) b again = omega (arith, again b.0 (omega arith) b.1, b.2)

module _ {P : ℕ → Type 0} where
  pub number_one : {n m r : ℕ} → Number P n m → Number P n r → m ≡ r
  number_one none none = refl
  number_one (one p x) (one q y) = ap suc (number_one x y)
  number_one (one p x) (skip q y) = absurd (q p)
  number_one (skip p x) (one q y) = absurd (p q)
  number_one (skip p x) (skip q y) = number_one x y

  pub number_few : {n m : ℕ} → Number P n m → m ≤ n
  number_few none = omega arith
  number_few (one p x) = omega (arith, number_few x)
  number_few (skip p x) = omega (arith, number_few x)

  number_back : (k r : ℕ) → Number P (suc k) r → (q : ℕ) × Number P k q × (q ≤ r)
  number_back k r (one {m = m} p x) = (m, x, omega arith)
  number_back k r (skip p x) = (r, x, omega arith)

  -- more numbers, no fewer of them with P
  pub number_rise : {n m n' r : ℕ} → n ≤ n' → Number P n m → Number P n' r → m ≤ r
  number_rise {n} {m} {n'} {r} h x y = rise (Number P) (λ k a b. number_one) number_back n' n m r h x y

  -- one number more, as a loop counts
  pub number_more : (n m r : ℕ) → r ≡ m + 1 → P n → Number P n m → Number P (n + 1) r
  number_more n m r e p x = subst₂ (λ (k l : ℕ). Number P k l) (sym (add-one n)) (sym (e ∙ add-one m)) (one p x)

  pub number_past : (n m r : ℕ) → r ≡ m → (P n → ⊥) → Number P n m → Number P (n + 1) r
  number_past n m r e p x = subst₂ (λ (k l : ℕ). Number P k l) (sym (add-one n)) (sym e) (skip p x)

  pub number_all : (v n m : ℕ) → v ≤ n → n ≤ v → Number P v m → Number P n m
  number_all v n m h g x =
      let same : v ≡ n = omega arith in
      subst (λ (k : ℕ). Number P k m) same x

  pub number_none : (n : ℕ) → ((v : ℕ) → v < n → P v → ⊥) → Number P n 0
  number_none zero f = none
  number_none (suc n) f = skip (f n (omega arith)) (number_none n (λ v h. f v (omega arith)))

  pub number_of : ((v : ℕ) → P v ⊎ (P v → ⊥)) → (n : ℕ) → (m : ℕ) × Number P n m
  number_of d zero = (0, none)
  number_of d (suc n) = by (d n) (number_of d n)
    where
      by : P n ⊎ (P n → ⊥) → (m : ℕ) × Number P n m → (m : ℕ) × Number P (suc n) m
      by (inl p) r = (suc r.0, one p r.1)
      by (inr q) r = (r.0, skip q r.1)

module _ {P Q : ℕ → Type 0} where
  pub number_map : {n m : ℕ} → ((v : ℕ) → v < n → P v → Q v) → ((v : ℕ) → v < n → Q v → P v) → Number P n m → Number Q n m
  number_map f g none = none
  number_map f g (one {n = n} p x) = one (f n (omega arith) p) (number_map (λ v h. f v (omega arith)) (λ v h. g v (omega arith)) x)
  number_map f g (skip {n = n} p x) = skip (λ q. p (g n (omega arith) q)) (number_map (λ v h. f v (omega arith)) (λ v h. g v (omega arith)) x)
