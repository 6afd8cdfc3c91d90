-- Tests that compute, each with its law: the answer tells whether the statement holds.
use mathlib.Core.Path.{◌≡◌, refl, sym, subst}
use mathlib.Core.Bool.{Bool, true, false, not, ◌&&◌, ◌||◌}
use mathlib.Core.Logic.{◌⊎◌, inl, inr, ⊎_elim, ◌≢◌}
use mathlib.Core.List.{List, [], ◌∷◌}
use Prim.Native.Nat.{ℕ, zero, suc, ◌≤◌, ◌<◌}
use native.Mathlib.Decide.{ℕ_discrete}
use native.Mathlib.Omega.{arith}
use lib.ListN.{get_or}
use lib.Dec.{T, eqb, leb, eqb→eq, eqb_refl, leb→le, le→leb}
use Rattle.paths.specs.Lists.{Mem, Different, Each, Inside}
use Rattle.paths.proofs.Lists.{each_mem, mem_each}
use Rattle.road.specs.Faults.{InSet}
use Rattle.road.specs.workings.Verdicts.{Tells}
use Rattle.road.proofs.Refusals.{tells_yes, tells_no}

pub record Decider (P : Type 0) : Type 0 where
  pub answer : Bool
  pub right : Tells answer P

so : (b : Bool) → T b → b ≡ true
so true t = refl
so false t = absurd t

-- what the test passes holds
pub holds : {P : Type 0} (d : Decider P) → T d.answer → P
holds d t = d.right.yes (so d.answer t)

module _ {P Q : Type 0} where
  pub tells_carry : {b : Bool} → Tells b P → (P → Q) → (Q → P) → Tells b Q
  tells_carry t f g = record { yes = λ e. f (t.yes e); no = λ e q. t.no e (g q) }

  pub tells_both : (b c : Bool) → Tells b P → Tells c Q → Tells (b && c) (P × Q)
  tells_both true true t u = tells_yes (t.yes refl, u.yes refl)
  tells_both true false t u = tells_no (λ p. u.no refl p.1)
  tells_both false c t u = tells_no (λ p. t.no refl p.0)

  pub tells_either : (b c : Bool) → Tells b P → Tells c Q → Tells (b || c) (P ⊎ Q)
  tells_either true c t u = tells_yes (inl (t.yes refl))
  tells_either false true t u = tells_yes (inr (u.yes refl))
  tells_either false false t u = tells_no (⊎_elim (t.no refl) (u.no refl))

  pub tells_then : (b c : Bool) → Tells b P → Tells c Q → Tells (not b || c) (P → Q)
  tells_then true true t u = tells_yes (λ p. u.yes refl)
  tells_then true false t u = tells_no (λ f. u.no refl (f (t.yes refl)))
  tells_then false c t u = tells_yes (λ p. absurd (t.no refl p))

  -- the same answer, to what comes to the same
  abbrev pub given : Decider P → (P → Q) → (Q → P) → Decider Q
  given d f g = record { answer = d.answer; right = tells_carry d.right f g }

  abbrev pub both : Decider P → Decider Q → Decider (P × Q)
  both d e = record { answer = d.answer && e.answer; right = tells_both d.answer e.answer d.right e.right }

  abbrev pub either : Decider P → Decider Q → Decider (P ⊎ Q)
  either d e = record { answer = d.answer || e.answer; right = tells_either d.answer e.answer d.right e.right }

  abbrev pub then : Decider P → Decider Q → Decider (P → Q)
  then d e = record { answer = not d.answer || e.answer; right = tells_then d.answer e.answer d.right e.right }

module _ {P : Type 0} where
  abbrev pub always : P → Decider P
  always p = record { answer = true; right = tells_yes p }

  abbrev pub never : (P → ⊥) → Decider P
  never n = record { answer = false; right = tells_no n }

abbrev pub fails : {P : Type 0} → Decider P → Decider (P → ⊥)
fails d = then d (never (λ z. z))

-- numbers

pub tells_same : (a b : ℕ) → Tells (eqb a b) (a ≡ b)
tells_same a b =
    record {
      yes = λ e. eqb→eq a b (subst T (sym e) tt);
      no = λ e q. subst T e (subst (λ (x : ℕ). T (eqb a x)) q (eqb_refl a));
    }

abbrev pub same : (a b : ℕ) → Decider (a ≡ b)
same a b = record { answer = eqb a b; right = tells_same a b }

abbrev pub unlike : (a b : ℕ) → Decider (a ≢ b)
unlike a b = fails (same a b)

pub tells_at_most : (a b : ℕ) → Tells (leb a b) (a ≤ b)
tells_at_most a b = record { yes = λ e. leb→le a b (subst T (sym e) tt); no = λ e h. subst T e (le→leb a b h) }

abbrev pub at_most : (a b : ℕ) → Decider (a ≤ b)
at_most a b = record { answer = leb a b; right = tells_at_most a b }

abbrev pub less : (a b : ℕ) → Decider (a < b)
less a b = at_most (suc a) b

abbrev pub in_set : (bytes : List ℕ) (v : ℕ) → Decider (InSet bytes v)
in_set bytes v = same (get_or bytes v 0) 1

-- all numbers below n, and some number below n

abbrev pub all_below : (ℕ → Bool) → ℕ → Bool
all_below f zero = true
all_below f (suc n) = f n && all_below f n

abbrev pub some_below : (ℕ → Bool) → ℕ → Bool
some_below f zero = false
some_below f (suc n) = f n || some_below f n

-- some number below n has P
pub record Below (n : ℕ) (P : ℕ → Type 0) : Type 0 where
  pub number : ℕ
  pub below : number < n
  pub is : P number

module _ (P : ℕ → Type 0) where
  all_more : (n : ℕ) → P n × ((i : ℕ) → i < n → P i) → (i : ℕ) → i < suc n → P i
  all_more n p i h = by (ℕ_discrete i n)
    where
      by : Dec (i ≡ n) → P i
      by (yes e) = subst P (sym e) p.0
      by (no d) = p.1 i (omega (arith, d))

  pub some_more : (n : ℕ) → P n ⊎ Below n P → Below (suc n) P
  some_more n (inl p) = record { number = n; below = omega arith; is = p }
  some_more n (inr b) = record { number = b.number; below = omega (arith, b.below); is = b.is }

  pub some_less : (n : ℕ) → Below (suc n) P → P n ⊎ Below n P
  some_less n b = by (ℕ_discrete b.number n)
    where
      by : Dec (b.number ≡ n) → P n ⊎ Below n P
      by (yes e) = inl (subst P e b.is)
      by (no d) = inr (record { number = b.number; below = omega (arith, b.below, d); is = b.is })

  module _ (f : ℕ → Bool) (t : (i : ℕ) → Tells (f i) (P i)) where
    pub tells_all : (n : ℕ) → Tells (all_below f n) ((i : ℕ) → i < n → P i)
    tells_all zero = tells_yes (λ i h. absurd (omega arith))
    tells_all (suc n) =
        tells_carry (tells_both (f n) (all_below f n) (t n) (tells_all n)) (all_more n) (λ g. (g n (omega arith), λ i h. g i (omega arith)))

    pub tells_some : (n : ℕ) → Tells (some_below f n) (Below n P)
    tells_some zero = tells_no (λ b. omega (arith, b.below))
    tells_some (suc n) = tells_carry (tells_either (f n) (some_below f n) (t n) (tells_some n)) (some_more n) (some_less n)

  abbrev pub all : (n : ℕ) → ((i : ℕ) → Decider (P i)) → Decider ((i : ℕ) → i < n → P i)
  all n d = record { answer = all_below (λ (i : ℕ). (d i).answer) n; right = tells_all (λ (i : ℕ). (d i).answer) (λ i. (d i).right) n }

  abbrev pub some : (n : ℕ) → ((i : ℕ) → Decider (P i)) → Decider (Below n P)
  some n d = record { answer = some_below (λ (i : ℕ). (d i).answer) n; right = tells_some (λ (i : ℕ). (d i).answer) (λ i. (d i).right) n }

-- lists of numbers

abbrev pub member : (a : ℕ) (l : List ℕ) → Decider (Mem a l)
member a [] = never (λ h. h)
member a (x ∷ l) = either (same a x) (member a l)

module _ (P : ℕ → Type 0) (d : (x : ℕ) → Decider (P x)) where
  abbrev pub each : (l : List ℕ) → Decider (Each P l)
  each [] = always tt
  each (x ∷ l) = both (d x) (each l)

  abbrev pub throughout : (l : List ℕ) → Decider ((x : ℕ) → Mem x l → P x)
  throughout l = given (each l) (λ e x h. each_mem P x l e h) (λ f. mem_each P l f)

  abbrev pub inside : (l : List ℕ) → Decider (Inside P l)
  inside [] = always tt
  inside (x ∷ []) = always tt
  inside (x ∷ y ∷ l) = both (d x) (inside (y ∷ l))

abbrev pub different : (l : List ℕ) → Decider (Different l)
different [] = always tt
different (x ∷ l) = both (fails (member x l)) (different l)

-- two lists are equal
abbrev pub Alike : List ℕ → List ℕ → Type 0
Alike [] [] = Unit {0}
Alike [] (y ∷ m) = ⊥
Alike (x ∷ l) [] = ⊥
Alike (x ∷ l) (y ∷ m) = (x ≡ y) × Alike l m

alike_self : (l : List ℕ) → Alike l l
alike_self [] = tt
alike_self (x ∷ l) = (refl, alike_self l)

abbrev pub alike : (l m : List ℕ) → Decider (Alike l m)
alike [] [] = always tt
alike [] (y ∷ m) = never (λ h. h)
alike (x ∷ l) [] = never (λ h. h)
alike (x ∷ l) (y ∷ m) = both (same x y) (alike l m)

pub equal : (l m : List ℕ) → Alike l m → l ≡ m
equal [] [] h = refl
equal [] (y ∷ m) h = absurd h
equal (x ∷ l) [] h = absurd h
equal (x ∷ l) (y ∷ m) h = λ i. h.0 i ∷ equal l m h.1 i

pub equally : (l m : List ℕ) → l ≡ m → Alike l m
equally l m e = subst (λ (k : List ℕ). Alike l k) e (alike_self l)

abbrev pub same_list : (l m : List ℕ) → Decider (l ≡ m)
same_list l m = given (alike l m) (equal l m) (equally l m)
