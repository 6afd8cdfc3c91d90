-- Laws of lists of nodes: membership, differing nodes, and how many different nodes there can be.
use mathlib.Core.Path.{◌≡◌, refl, sym, ap, subst, ◌∙◌}
use mathlib.Core.Logic.{◌⊎◌, inl, inr, ⊎_elim, ◌≢◌}
use mathlib.Core.List.{List, [], ◌∷◌, ◌++◌, reverse_aux}
use Prim.Native.Nat.{ℕ, zero, suc, ◌≤◌, ◌<◌}
use native.Mathlib.Decide.{ℕ_discrete}
use native.Mathlib.Omega.{arith}
use lib.ListN.{length, get_or}
use Rattle.paths.specs.Graphs.{Any}
use Rattle.paths.specs.Lists.{Mem, Different, Each, Inside}

-- whether a stands in the list
pub mem? : (a : ℕ) (l : List ℕ) → Mem a l ⊎ (Mem a l → ⊥)
mem? a [] = inr (λ h. h)
mem? a (x ∷ l) = mem_by (ℕ_discrete a x) (mem? a l)
  where
    mem_by : Dec (a ≡ x) → Mem a l ⊎ (Mem a l → ⊥) → Mem a (x ∷ l) ⊎ (Mem a (x ∷ l) → ⊥)
    mem_by (yes e) r = inl (inl e)
    mem_by (no n) (inl h) = inl (inr h)
    mem_by (no n) (inr g) = inr (⊎_elim n g)

pub mem_left : (a : ℕ) (l m : List ℕ) → Mem a l → Mem a (l ++ m)
mem_left a (x ∷ l) m (inl e) = inl e
mem_left a (x ∷ l) m (inr h) = inr (mem_left a l m h)
mem_left a [] m x' = elim x' [ ]

pub mem_right : (a : ℕ) (l m : List ℕ) → Mem a m → Mem a (l ++ m)
mem_right a [] m h = h
mem_right a (x ∷ l) m h = inr (mem_right a l m h)

pub mem_cases : (a : ℕ) (l m : List ℕ) → Mem a (l ++ m) → Mem a l ⊎ Mem a m
mem_cases a [] m h = inr h
mem_cases a (x ∷ l) m (inl e) = inl (inl e)
mem_cases a (x ∷ l) m (inr h) = ⊎_elim (λ g. inl (inr g)) inr (mem_cases a l m h)

-- what stands at a place of the list stands in the list
pub mem_at : (l : List ℕ) (i : ℕ) → i < length l → Mem (get_or l i 0) l
mem_at [] i h = omega arith
mem_at (x ∷ l) zero h = inl refl
mem_at (x ∷ l) (suc i) h = inr (mem_at l i (omega arith))

-- and what stands in the list stands at a place of it
pub place_of : (a : ℕ) (l : List ℕ) → Mem a l → (i : ℕ) × (i < length l) × (get_or l i 0 ≡ a)
place_of a (x ∷ l) (inl e) = (0, omega arith, sym e)
place_of a (x ∷ l) (inr h) = let p = place_of a l h in (suc p.0, omega (arith, p.1), p.2)
place_of a [] x' = elim x' [ ]

pub each_mem : (P : ℕ → Type 0) (a : ℕ) (l : List ℕ) → Each P l → Mem a l → P a
each_mem P a (x ∷ l) e (inl q) = subst P (sym q) e.0
each_mem P a (x ∷ l) e (inr h) = each_mem P a l e.1 h
each_mem P a [] e x'' = elim x'' [ ]

pub mem_each : (P : ℕ → Type 0) (l : List ℕ) → ((a : ℕ) → Mem a l → P a) → Each P l
mem_each P [] f = tt
mem_each P (x ∷ l) f = (f x (inl refl), mem_each P l (λ a h. f a (inr h)))

pub different_front : (l m : List ℕ) → Different (l ++ m) → Different l
different_front [] m d = tt
different_front (x ∷ l) m d = ((λ h. d.0 (mem_left x l m h)), different_front l m d.1)

pub different_back : (l m : List ℕ) → Different (l ++ m) → Different m
different_back [] m d = d
different_back (x ∷ l) m d = different_back l m d.1

-- no node stands in both parts of a list of different nodes
pub parts_apart : (a : ℕ) (l m : List ℕ) → Different (l ++ m) → Mem a l → Mem a m → ⊥
parts_apart a (x ∷ l) m d (inl e) h = d.0 (subst (λ (y : ℕ). Mem y (l ++ m)) e (mem_right a l m h))
parts_apart a (x ∷ l) m d (inr g) h = parts_apart a l m d.1 g h
parts_apart a [] m d x3 h = elim x3 [ ]

-- a list turned round onto another has the nodes of both
pub mem_onto : (a : ℕ) (l m : List ℕ) → Mem a l ⊎ Mem a m → Mem a (reverse_aux l m)
mem_onto a [] m (inl h) = absurd h
mem_onto a [] m (inr h) = h
mem_onto a (x ∷ l) m (inl (inl e)) = mem_onto a l (x ∷ m) (inr (inl e))
mem_onto a (x ∷ l) m (inl (inr h)) = mem_onto a l (x ∷ m) (inl h)
mem_onto a (x ∷ l) m (inr h) = mem_onto a l (x ∷ m) (inr (inr h))

pub onto_mem : (a : ℕ) (l m : List ℕ) → Mem a (reverse_aux l m) → Mem a l ⊎ Mem a m
onto_mem a [] m h = inr h
onto_mem a (x ∷ l) m h = by (onto_mem a l (x ∷ m) h)
  where
    by : Mem a l ⊎ Mem a (x ∷ m) → Mem a (x ∷ l) ⊎ Mem a m
    by (inl g) = inl (inr g)
    by (inr (inl e)) = inl (inl e)
    by (inr (inr g)) = inr g

pub inside_tail : (P : ℕ → Type 0) (x : ℕ) (l : List ℕ) → Inside P (x ∷ l) → Inside P l
inside_tail P x [] h = tt
inside_tail P x (y ∷ l) h = h.1

pub inside_back : (P : ℕ → Type 0) (l m : List ℕ) → Inside P (l ++ m) → Inside P m
inside_back P [] m h = h
inside_back P (x ∷ l) m h = inside_back P l m (inside_tail P x (l ++ m) h)

pub inside_map : (P Q : ℕ → Type 0) → ((v : ℕ) → P v → Q v) → (l : List ℕ) → Inside P l → Inside Q l
inside_map P Q f [] i = tt
inside_map P Q f (x ∷ []) i = tt
inside_map P Q f (x ∷ y ∷ l) i = (f x i.0, inside_map P Q f (y ∷ l) i.1)

pub inside_cons : (P : ℕ → Type 0) (x : ℕ) (l : List ℕ) → P x → Inside P l → Inside P (x ∷ l)
inside_cons P x [] p h = tt
inside_cons P x (y ∷ l) p h = (p, h)

-- what holds of every node of a list holds of those before its last
pub each_inside : (P : ℕ → Type 0) (l : List ℕ) → Each P l → Inside P l
each_inside P [] e = tt
each_inside P (x ∷ []) e = tt
each_inside P (x ∷ y ∷ l) e = (e.0, each_inside P (y ∷ l) e.1)

pub any_inside : (l : List ℕ) → Inside Any l
any_inside [] = tt
any_inside (x ∷ []) = tt
any_inside (x ∷ y ∷ l) = (tt, any_inside (y ∷ l))

-- one node fewer: the list without one place at which a stands
record Without (a : ℕ) (l : List ℕ) : Type 0 where
  rest : List ℕ
  shorter : length l ≡ suc (length rest)
  others : (b : ℕ) → b ≢ a → Mem b l → Mem b rest

without : (a : ℕ) (l : List ℕ) → Mem a l → Without a l
without a (x ∷ l) (inl e) = record { rest = l; shorter = refl; others = keep }
  where
    keep : (b : ℕ) → b ≢ a → Mem b (x ∷ l) → Mem b l
    keep b n (inl q) = absurd (n (q ∙ sym e))
    keep b n (inr h) = h
without a (x ∷ l) (inr h) = further (without a l h)
  where
    further : Without a l → Without a (x ∷ l)
    further w = record { rest = x ∷ w.rest; shorter = ap suc w.shorter; others = keep }
      where
        keep : (b : ℕ) → b ≢ a → Mem b (x ∷ l) → Mem b (x ∷ w.rest)
        keep b n (inl q) = inl q
        keep b n (inr g) = inr (w.others b n g)
without a [] x' = elim x' [ ]

-- different nodes that all stand in a list are at most as many as the list has
pub length_at_most : (l m : List ℕ) → Different l → ((a : ℕ) → Mem a l → Mem a m) → length l ≤ length m
length_at_most [] m d f = omega arith
length_at_most (x ∷ l) m d f =
    let w = without x m (f x (inl refl)) in
    omega (arith, w.shorter, length_at_most l w.rest d.1 (λ a h. w.others a (λ e. d.0 (subst (λ (y : ℕ). Mem y l) e h)) (f a (inr h))))

-- the numbers below n
below : ℕ → List ℕ
below zero = []
below (suc n) = n ∷ below n

length_below : (n : ℕ) → length (below n) ≡ n
unfolding below
length_below zero = refl
length_below (suc n) = ap suc (length_below n)

mem_below : (n a : ℕ) → a < n → Mem a (below n)
unfolding below
mem_below zero a h = omega arith
mem_below (suc n) a h = mem_by (ℕ_discrete a n) (mem_below n a)
  where
    mem_by : Dec (a ≡ n) → (a < n → Mem a (below n)) → Mem a (below (suc n))
    mem_by (yes e) r = inl e
    mem_by (no d) r = inr (r (omega (arith, d)))

below_small : (n a : ℕ) → Mem a (below n) → a < n
unfolding below
below_small zero a h = absurd h
below_small (suc n) a (inl e) = omega arith
below_small (suc n) a (inr h) = omega (arith, below_small n a h)

below_different : (n : ℕ) → Different (below n)
unfolding below
below_different zero = tt
below_different (suc n) = ((λ h. omega (arith, below_small n n h)), below_different n)

-- a list that has each number below n has at least n
pub many : (n : ℕ) (l : List ℕ) → ((a : ℕ) → a < n → Mem a l) → n ≤ length l
many n l f = omega (arith, length_below n, length_at_most (below n) l (below_different n) (λ a h. f a (below_small n a h)))

-- different nodes below n are at most n
pub few : (n : ℕ) (l : List ℕ) → Different l → Each (λ (a : ℕ). a < n) l → length l ≤ n
few n l d e = omega (arith, length_below n, length_at_most l (below n) d (λ a h. mem_below n a (each_mem (λ (b : ℕ). b < n) a l e h)))

-- n different nodes below n are all of them
pub full : (n : ℕ) (l : List ℕ) → length l ≡ n → Different l → Each (λ (a : ℕ). a < n) l → (a : ℕ) → a < n → Mem a l
full n l e d s a h = by (mem? a l)
  where
    by : Mem a l ⊎ (Mem a l → ⊥) → Mem a l
    by (inl m) = m
    by (inr m) = absurd (omega (arith, few n (a ∷ l) (m, d) (h, s)))
