-- Sets of numbers that are listed: the list has the numbers of the set, and no others. So the least is found by looking.
use mathlib.Core.Path.{◌≡◌, refl, sym, ap, subst}
use mathlib.Core.Bool.{Bool, true, false}
use mathlib.Core.Logic.{◌⊎◌, inl, inr, ⊎_elim}
use mathlib.Core.List.{List, [], ◌∷◌, ◌++◌}
use Prim.Native.Nat.{ℕ, zero, suc, ◌+◌, ◌≤◌}
use native.Mathlib.Omega.{arith}
use lib.Dec.{leb}
use Rattle.paths.specs.Least.{Least, Told}
use Rattle.paths.specs.Lists.{Mem}
use Rattle.paths.proofs.Least.{told_carries}
use Rattle.paths.proofs.Lists.{mem_left, mem_right, mem_cases}
use Rattle.road.specs.workings.Verdicts.{Tells}
use Rattle.road.proofs.Faults.{not_over}
use Rattle.examples.proofs.Deciding.{Decider, given, both, always, never, member, throughout, at_most, tells_at_most, Below, some_more, some_less}

pub record Listing (P : ℕ → Type 0) : Type 0 where
  pub list : List ℕ
  pub only : (w : ℕ) → Mem w list → P w
  pub all : (w : ℕ) → P w → Mem w list

-- a number of P and one of Q, summed
pub record Plus (P Q : ℕ → Type 0) (w : ℕ) : Type 0 where
  pub left : ℕ
  pub right : ℕ
  pub in_left : P left
  pub in_right : Q right
  pub total : w ≡ left + right

abbrev pub raised : ℕ → List ℕ → List ℕ
raised k [] = []
raised k (x ∷ l) = (k + x) ∷ raised k l

abbrev pub sums : List ℕ → List ℕ → List ℕ
sums [] m = []
sums (x ∷ l) m = raised x m ++ sums l m

-- w is the sum of a number of one list and one of the other
abbrev Summed : List ℕ → List ℕ → ℕ → Type 0
Summed l m w = Plus (λ (x : ℕ). Mem x l) (λ (x : ℕ). Mem x m) w

raised_only : (k w : ℕ) (l : List ℕ) → Mem w (raised k l) → (x : ℕ) × Mem x l × (w ≡ k + x)
raised_only k w (x ∷ l) (inl e) = (x, inl refl, e)
raised_only k w (x ∷ l) (inr h) = let r = raised_only k w l h in (r.0, inr r.1, r.2)
raised_only k w [] x' = elim x' [ ]

raised_all : (k x : ℕ) (l : List ℕ) → Mem x l → Mem (k + x) (raised k l)
raised_all k x (y ∷ l) (inl e) = inl (ap (λ (z : ℕ). k + z) e)
raised_all k x (y ∷ l) (inr h) = inr (raised_all k x l h)
raised_all k x [] x'' = elim x'' [ ]

pub sums_only : (l m : List ℕ) (w : ℕ) → Mem w (sums l m) → Summed l m w
sums_only (x ∷ l) m w h = by (mem_cases w (raised x m) (sums l m) h) (sums_only l m w)
  where
    by : Mem w (raised x m) ⊎ Mem w (sums l m) → (Mem w (sums l m) → Summed l m w) → Summed (x ∷ l) m w
    by (inl r) rest = let q = raised_only x w m r in record { left = x; right = q.0; in_left = inl refl; in_right = q.1; total = q.2 }
    by (inr r) rest =
        let q = rest r in
        record { left = q.left; right = q.right; in_left = inr q.in_left; in_right = q.in_right; total = q.total }
sums_only [] m w h = elim h [ ]

sums_at : (l m : List ℕ) (x y : ℕ) → Mem x l → Mem y m → Mem (x + y) (sums l m)
sums_at (z ∷ l) m x y (inl e) k =
    mem_left (x + y) (raised z m) (sums l m) (subst (λ (u : ℕ). Mem (u + y) (raised z m)) (sym e) (raised_all z y m k))
sums_at (z ∷ l) m x y (inr h) k = mem_right (x + y) (raised z m) (sums l m) (sums_at l m x y h k)
sums_at [] m x y x4 k = elim x4 [ ]

pub sums_all : (l m : List ℕ) (w : ℕ) → Summed l m w → Mem w (sums l m)
sums_all l m w s = subst (λ (u : ℕ). Mem u (sums l m)) (sym s.total) (sums_at l m s.left s.right s.in_left s.in_right)

module _ {P Q : ℕ → Type 0} where
  -- the same list, for what comes to the same
  abbrev pub carried : Listing P → ((w : ℕ) → P w → Q w) → ((w : ℕ) → Q w → P w) → Listing Q
  carried l f g = record { list = l.list; only = λ w h. f w (l.only w h); all = λ w q. l.all w (g w q) }

  pub joined_only : (p : Listing P) (q : Listing Q) (w : ℕ) → Mem w (p.list ++ q.list) → P w ⊎ Q w
  joined_only p q w h = ⊎_elim (λ m. inl (p.only w m)) (λ m. inr (q.only w m)) (mem_cases w p.list q.list h)

  pub joined_all : (p : Listing P) (q : Listing Q) (w : ℕ) → P w ⊎ Q w → Mem w (p.list ++ q.list)
  joined_all p q w (inl x) = mem_left w p.list q.list (p.all w x)
  joined_all p q w (inr x) = mem_right w p.list q.list (q.all w x)

  abbrev pub joined : Listing P → Listing Q → Listing (λ (w : ℕ). P w ⊎ Q w)
  joined p q = record { list = p.list ++ q.list; only = joined_only p q; all = joined_all p q }

  pub plus_only : (p : Listing P) (q : Listing Q) (w : ℕ) → Mem w (sums p.list q.list) → Plus P Q w
  plus_only p q w h =
      let s = sums_only p.list q.list w h in
      record { left = s.left; right = s.right; in_left = p.only s.left s.in_left; in_right = q.only s.right s.in_right; total = s.total }

  pub plus_all : (p : Listing P) (q : Listing Q) (w : ℕ) → Plus P Q w → Mem w (sums p.list q.list)
  plus_all p q w s =
      sums_all p.list q.list w
      (record { left = s.left; right = s.right; in_left = p.all s.left s.in_left; in_right = q.all s.right s.in_right; total = s.total })

  abbrev pub plus : Listing P → Listing Q → Listing (Plus P Q)
  plus p q = record { list = sums p.list q.list; only = plus_only p q; all = plus_all p q }

module _ {P : ℕ → Type 0} where
  abbrev pub empty : ((w : ℕ) → P w → ⊥) → Listing P
  empty n = record { list = []; only = λ w h. absurd h; all = λ w p. n w p }

abbrev pub single : (k : ℕ) → Listing (λ (w : ℕ). w ≡ k)
single k = record { list = k ∷ []; only = λ w h. ⊎_elim (λ e. e) (λ z. absurd z) h; all = λ w e. inl e }

-- the numbers of P where C holds. Nothing is listed before the test is passed.
module _ {C : Type 0} {P : ℕ → Type 0} where
  abbrev pub when_by : (b : Bool) → Tells b C → (C → Listing P) → Listing (λ (w : ℕ). C × P w)
  when_by true t l = let c = t.yes refl in carried (l c) (λ w p. (c, p)) (λ w p. p.1)
  when_by false t l = empty (λ w p. t.no refl p.0)

  abbrev pub when : Decider C → (C → Listing P) → Listing (λ (w : ℕ). C × P w)
  when d l = when_by d.answer d.right l

-- the numbers of all the sets P i with i below n
module _ (P : ℕ → ℕ → Type 0) (l : (i : ℕ) → Listing (P i)) where
  abbrev pub over : (n : ℕ) → Listing (λ (w : ℕ). Below n (λ (i : ℕ). P i w))
  over zero = empty (λ w b. omega (arith, b.below))
  over (suc n) = carried (joined (l n) (over n)) (λ w. some_more (λ (i : ℕ). P i w) n) (λ w. some_less (λ (i : ℕ). P i w) n)

-- whether the set has a number, and what the least is
module _ {P : ℕ → Type 0} where
  abbrev pub has_by : (l : List ℕ) → ((w : ℕ) → Mem w l → P w) → ((w : ℕ) → P w → Mem w l) → Decider ((w : ℕ) × P w)
  has_by [] only all = never (λ p. all p.0 p.1)
  has_by (x ∷ l) only all = always (x, only x (inl refl))

  abbrev pub has_some : Listing P → Decider ((w : ℕ) × P w)
  has_some l = has_by l.list l.only l.all

  pub least_of : (l : Listing P) (d : ℕ) → Mem d l.list × ((x : ℕ) → Mem x l.list → d ≤ x) → Least P d
  least_of l d h = record { is = l.only d h.0; least = λ e p. h.1 e (l.all e p) }

  pub of_least : (l : Listing P) (d : ℕ) → Least P d → Mem d l.list × ((x : ℕ) → Mem x l.list → d ≤ x)
  of_least l d m = (l.all d m.is, λ x h. m.least x (l.only x h))

  abbrev pub is_least : Listing P → (d : ℕ) → Decider (Least P d)
  is_least l d = given (both (member d l.list) (throughout (λ (x : ℕ). d ≤ x) (λ x. at_most d x) l.list)) (least_of l d) (of_least l d)

-- the label that tells the least number of a list: 0 for none, else one more

abbrev pub lower : Bool → ℕ → ℕ → ℕ
lower true x d = suc x
lower false x d = suc d

abbrev pub lowest : ℕ → ℕ → ℕ
lowest x zero = suc x
lowest x (suc d) = lower (leb x d) x d

abbrev pub label : List ℕ → ℕ
label [] = 0
label (x ∷ l) = lowest x (label l)

-- the set of the list's numbers
abbrev In : List ℕ → ℕ → Type 0
In l w = Mem w l

told_is : {P : ℕ → Type 0} (d : ℕ) → Least P d → Told P (suc d)
told_is {P} d m = record { none = λ e. absurd (omega arith); some = λ k e. subst (Least P) (omega arith) m }

first_least : (x : ℕ) (l : List ℕ) → ((e : ℕ) → Mem e l → x ≤ e) → Least (In (x ∷ l)) x
first_least x l f = record { is = inl refl; least = λ e h. ⊎_elim (λ q. omega (arith, q)) (f e) h }

later_least : (x d : ℕ) (l : List ℕ) → d ≤ x → Least (In l) d → Least (In (x ∷ l)) d
later_least x d l h m = record { is = inr m.is; least = λ e k. ⊎_elim (λ q. omega (arith, q)) (m.least e) k }

told_more : (x : ℕ) (l : List ℕ) (k : ℕ) → Told (In l) k → Told (In (x ∷ l)) (lowest x k)
told_more x l zero t = told_is x (first_least x l (λ e h. absurd ((t.none refl).none e h)))
told_more x l (suc d) t = by (leb x d) (tells_at_most x d)
  where
    by : (b : Bool) → Tells b (x ≤ d) → Told (In (x ∷ l)) (lower b x d)
    by true u = told_is x (first_least x l (λ e h. omega (arith, u.yes refl, (t.some d refl).least e h)))
    by false u = told_is d (later_least x d l (not_over d x (λ h. u.no refl (omega arith))) (t.some d refl))

label_told : (l : List ℕ) → Told (In l) (label l)
label_told [] = record { none = λ e. record { none = λ d h. h }; some = λ d e. absurd (omega arith) }
label_told (x ∷ l) = told_more x l (label l) (label_told l)

module _ {P : ℕ → Type 0} where
  pub listing_told : (l : Listing P) → Told P (label l.list)
  listing_told l = told_carries (record { under = λ d h. (d, l.only d h, omega arith) }) (record { under = λ d p. (d, l.all d p, omega arith) }) (label_told l.list)
