-- Labels that tell least numbers: the lesser of two, the sum of three, and what a row says of a gate.
use mathlib.Core.Path.{◌≡◌, refl, sym, subst, ◌∙◌}
use mathlib.Core.Logic.{◌⊎◌, inl, inr, ⊎_elim, ◌≢◌}
use mathlib.Core.List.{List}
use Prim.Native.Nat.{ℕ, zero, suc, ◌+◌, ◌≤◌, ◌<◌}
use native.Mathlib.Decide.{ℕ_discrete}
use native.Mathlib.Omega.{arith}
use lib.ListN.{length}
use Rattle.paths.specs.Graphs.{Graph, Reaches, Any}
use Rattle.paths.specs.Least.{Least, Empty, Told}
use Rattle.road.specs.Faults.{InSet}
use Rattle.distance.specs.workings.Labels.{label_of, Lesser, Summed, Modest, Small, Sum, Gate, itself, reached, Says, Exits, Through, Entries}
use Rattle.search.specs.workings.Rows.{label_at}

-- a label tells of what it says
pub says_told : (l : ℕ) → Told (Says l) l
says_told l = record { none = λ e. record { none = λ d q. omega arith }; some = λ d e. record { is = e; least = λ f q. omega arith } }

pub says_as : (l m : ℕ) → l ≡ m → Told (Says m) l
says_as l m e = subst (λ (k : ℕ). Told (Says k) l) e (says_told l)

pub told_at : {P : ℕ → Type 0} (l m : ℕ) → Told P l → l ≡ m → Told P m
told_at {P} l m t e = subst (λ (k : ℕ). Told P k) e t

pub told_map : {P Q : ℕ → Type 0} → ((d : ℕ) → P d → Q d) → ((d : ℕ) → Q d → P d) → (l : ℕ) → Told P l → Told Q l
told_map f g l t =
    record {
      none = λ e. record { none = λ d q. (t.none e).none d (g d q) };
      some = λ d e. record { is = f d (t.some d e).is; least = λ x q. (t.some d e).least x (g x q) };
    }

-- what is there has a label, of no more
pub told_most : {P : ℕ → Type 0} (l d : ℕ) → Told P l → P d → (l ≢ 0) × (l ≤ suc d)
told_most zero d t p = absurd ((t.none refl).none d p)
told_most (suc e) d t p = ((λ z. omega arith), omega (arith, (t.some e refl).least d p))

pub told_none : {P : ℕ → Type 0} → ((d : ℕ) → P d → ⊥) → Told P 0
told_none f = record { none = λ e. record { none = f }; some = λ d e. absurd (omega arith) }

pub told_some : {P : ℕ → Type 0} (d : ℕ) → P d → ((e : ℕ) → P e → d ≤ e) → Told P (suc d)
told_some {P} d p f =
    record {
      none = λ e. absurd (omega arith);
      some = λ e q. record { is = subst P (same e q) p; least = λ x y. omega (arith, f x y, same e q) };
    }
  where
    same : (e : ℕ) → suc d ≡ suc e → d ≡ e
    same e q = omega arith

module _ {P Q : ℕ → Type 0} (l m r : ℕ) (t : Told P l) (u : Told Q m) (x : Lesser l m r) where
  left_most : (d e : ℕ) → r ≡ suc d → P e → d ≤ e
  left_most d e q p =
      let h = told_most l e t p in
      omega (arith, h.1, (x.left h.0).1)

  right_most : (d e : ℕ) → r ≡ suc d → Q e → d ≤ e
  right_most d e q p =
      let h = told_most m e u p in
      omega (arith, h.1, (x.right h.0).1)

  pub told_lesser : Told (λ (d : ℕ). P d ⊎ Q d) r
  told_lesser =
      record {
        none =
            λ z.
            record {
              none =
                  λ d.
                  ⊎_elim (λ p. (x.left (told_most l d t p).0).0 z) (λ q. (x.right (told_most m d u q).0).0 z);
            };
        some = λ d e. record { is = there d e x.one; least = λ f. ⊎_elim (left_most d f e) (right_most d f e) };
      }
    where
      there : (d : ℕ) → r ≡ suc d → (r ≡ l) ⊎ (r ≡ m) → P d ⊎ Q d
      there d e (inl q) = inl (t.some d (sym q ∙ e)).is
      there d e (inr q) = inr (u.some d (sym q ∙ e)).is

pub told_sum :
    {X Y Z : ℕ → Type 0} (l m n r : ℕ) → Told X l → Told Y m → Told Z n → Summed l m n r → Told (Sum X Y Z) r
told_sum {X} {Y} {Z} zero m n r t u v x =
    subst (λ (k : ℕ). Told (Sum X Y Z) k) (sym (x.missing (inl refl))) (told_none (λ d s. (t.none refl).none s.first s.in_first))
told_sum {X} {Y} {Z} (suc a) zero n r t u v x =
    subst (λ (k : ℕ). Told (Sum X Y Z) k) (sym (x.missing (inr (inl refl)))) (told_none (λ d s. (u.none refl).none s.second s.in_second))
told_sum {X} {Y} {Z} (suc a) (suc b) zero r t u v x =
    subst (λ (k : ℕ). Told (Sum X Y Z) k) (sym (x.missing (inr (inr refl)))) (told_none (λ d s. (v.none refl).none s.third s.in_third))
told_sum {X} {Y} {Z} (suc a) (suc b) (suc c) r t u v x =
    subst (λ (k : ℕ). Told (Sum X Y Z) k) (sym (x.all a b c refl refl refl))
    (told_some (a + b + c)
    (record { first = a; second = b; third = c; in_first = (t.some a refl).is; in_second = (u.some b refl).is; in_third = (v.some c refl).is; total = refl })
    (λ e s. omega (arith, s.total, (t.some a refl).least s.first s.in_first, (u.some b refl).least s.second s.in_second, (v.some c refl).least s.third s.in_third)))

-- the ways in which the lesser comes out
module _ (l m : ℕ) where
  pub lesser_right : l ≡ 0 → Lesser l m m
  lesser_right e = record { one = inr refl; left = λ n. absurd (n e); right = λ n. (n, omega arith) }

  pub lesser_left : (a : ℕ) → l ≡ suc a → m ≡ 0 → Lesser l m (suc a)
  lesser_left a f e = record { one = inl (sym f); left = λ n. ((λ z. omega arith), omega arith); right = λ n. absurd (n e) }

  pub lesser_second : (a b : ℕ) → l ≡ suc a → m ≡ suc b → b < a → Lesser l m (suc b)
  lesser_second a b e f h = record { one = inr (sym f); left = λ n. ((λ z. omega arith), omega arith); right = λ n. ((λ z. omega arith), omega arith) }

  pub lesser_first : (a b : ℕ) → l ≡ suc a → m ≡ suc b → a ≤ b → Lesser l m (suc a)
  lesser_first a b e f h = record { one = inl (sym e); left = λ n. ((λ z. omega arith), omega arith); right = λ n. ((λ z. omega arith), omega arith) }

-- and the sum
module _ (l m n : ℕ) where
  pub sum_missing : (l ≡ 0) ⊎ ((m ≡ 0) ⊎ (n ≡ 0)) → Summed l m n 0
  sum_missing h = record { all = λ a b c x y z. absurd (by a b c x y z h); missing = λ g. refl }
    where
      by : (a b c : ℕ) → l ≡ suc a → m ≡ suc b → n ≡ suc c → (l ≡ 0) ⊎ ((m ≡ 0) ⊎ (n ≡ 0)) → ⊥
      by a b c x y z (inl e) = omega arith
      by a b c x y z (inr (inl e)) = omega arith
      by a b c x y z (inr (inr e)) = omega arith

  pub sum_all : (a b c : ℕ) → l ≡ suc a → m ≡ suc b → n ≡ suc c → (r : ℕ) → r ≡ suc (a + b + c) → Summed l m n r
  sum_all a b c x y z r s = record { all = λ d e f u v w. omega arith; missing = λ h. absurd (by h) }
    where
      by : (l ≡ 0) ⊎ ((m ≡ 0) ⊎ (n ≡ 0)) → ⊥
      by (inl e) = omega arith
      by (inr (inl e)) = omega arith
      by (inr (inr e)) = omega arith

module _ (chosen row : List ℕ) (s v : ℕ) where
  pub gate_itself : InSet chosen s → v ≡ s → Told (Gate chosen row s v) 1
  gate_itself i e = told_some 0 (itself i e refl) (λ d g. omega arith)

  pub gate_other : InSet chosen s → v ≢ s → Told (Gate chosen row s v) 0
  gate_other i n = told_none by
    where
      by : (d : ℕ) → Gate chosen row s v d → ⊥
      by d (itself j e z) = n e
      by d (reached o j e) = o i

  pub gate_outside : (InSet chosen s → ⊥) → (InSet chosen v → ⊥) → Told (Gate chosen row s v) 0
  gate_outside o n = told_none by
    where
      by : (d : ℕ) → Gate chosen row s v d → ⊥
      by d (itself j e z) = o j
      by d (reached p j e) = n j

  pub gate_reached : (InSet chosen s → ⊥) → InSet chosen v → (l : ℕ) → l ≡ label_at row v → Told (Gate chosen row s v) l
  gate_reached o i l q =
      told_map (λ d e. reached o i (sym q ∙ e)) by l (says_told l)
    where
      by : (d : ℕ) → Gate chosen row s v d → Says l d
      by d (itself j e z) = absurd (o j)
      by d (reached p j e) = q ∙ e

  gate_small : Small row → (d : ℕ) → Gate chosen row s v d → Modest (suc d)
  gate_small m d (itself j e z) = omega arith
  gate_small m d (reached p j e) = omega (arith, m.small v)

  pub gate_modest : (l : ℕ) → Told (Gate chosen row s v) l → Small row → Modest l
  gate_modest zero t m = omega arith
  gate_modest (suc d) t m = gate_small m d (t.some d refl).is

-- one exit more
module _ (chosen labels row : List ℕ) (t first : ℕ) where
  pub exits_none : Told (Exits chosen labels row t first 0) 0
  exits_none = told_none (λ d x. omega (arith, x.below))

  pub exits_more :
      (b l m r : ℕ) → Told (Exits chosen labels row t first b) l → Told (Sum (Says first) (Says (label_at labels b)) (Gate chosen row t b)) m → Lesser l m r →
      Told (Exits chosen labels row t first (b + 1)) r
  exits_more b l m r x y h = told_map to from r (told_lesser l m r x y h)
    where
      to : (d : ℕ) → Exits chosen labels row t first b d ⊎ Sum (Says first) (Says (label_at labels b)) (Gate chosen row t b) d → Exits chosen labels row t first (b + 1) d
      to d (inl e) = record { exit = e.exit; below = omega (arith, e.below); sum = e.sum }
      to d (inr e) = record { exit = b; below = omega arith; sum = e }

      from : (d : ℕ) → Exits chosen labels row t first (b + 1) d → Exits chosen labels row t first b d ⊎ Sum (Says first) (Says (label_at labels b)) (Gate chosen row t b) d
      from d e = by (ℕ_discrete e.exit b)
        where
          by : Dec (e.exit ≡ b) → Exits chosen labels row t first b d ⊎ Sum (Says first) (Says (label_at labels b)) (Gate chosen row t b) d
          by (yes q) = inr (subst (λ (k : ℕ). Sum (Says first) (Says (label_at labels k)) (Gate chosen row t k) d) q e.sum)
          by (no n) = inl (record { exit = e.exit; below = omega (arith, e.below); sum = e.sum })

  pub exits_all : (b n l : ℕ) → Told (Exits chosen labels row t first b) l → b ≤ n → n ≤ b → Told (Exits chosen labels row t first n) l
  exits_all b n l x h g =
      let same : b ≡ n = omega arith in
      subst (λ (k : ℕ). Told (Exits chosen labels row t first k) l) same x

-- one entry more
module _ (O : Graph) (chosen outward inward : List ℕ) (s t : ℕ) where
  pub entries_none : Told (Entries O chosen outward inward s t 0) 0
  entries_none = told_none (λ d x. omega (arith, x.below))

  pub entries_more :
      (a l m r : ℕ) → Told (Entries O chosen outward inward s t a) l → Told (Through O chosen outward inward s t a) m → Lesser l m r → Told (Entries O chosen outward inward s t (a + 1)) r
  entries_more a l m r x y h = told_map to from r (told_lesser l m r x y h)
    where
      to : (d : ℕ) → Entries O chosen outward inward s t a d ⊎ Through O chosen outward inward s t a d → Entries O chosen outward inward s t (a + 1) d
      to d (inl e) = record { entry = e.entry; below = omega (arith, e.below); through = e.through }
      to d (inr e) = record { entry = a; below = omega arith; through = e }

      from : (d : ℕ) → Entries O chosen outward inward s t (a + 1) d → Entries O chosen outward inward s t a d ⊎ Through O chosen outward inward s t a d
      from d e = by (ℕ_discrete e.entry a)
        where
          by : Dec (e.entry ≡ a) → Entries O chosen outward inward s t a d ⊎ Through O chosen outward inward s t a d
          by (yes q) = inr (subst (λ (k : ℕ). Through O chosen outward inward s t k d) q e.through)
          by (no n) = inl (record { entry = e.entry; below = omega (arith, e.below); through = e.through })

  pub entries_all : (a n l : ℕ) → Told (Entries O chosen outward inward s t a) l → a ≤ n → n ≤ a → Told (Entries O chosen outward inward s t n) l
  entries_all a n l x h g =
      let same : a ≡ n = omega arith in
      subst (λ (k : ℕ). Told (Entries O chosen outward inward s t k) l) same x

  -- a node that is no entry
  pub through_none : (a l : ℕ) → Told (Gate chosen outward s a) l → l ≡ 0 → Told (Through O chosen outward inward s t a) 0
  through_none a l g e = told_none (λ d x. (g.none e).none x.sum.first x.sum.in_first)

  -- an entry at the distance that its label says, and the overlay's row from it
  pub through_exits_lem :
      (a first : ℕ) (labels : List ℕ) → Told (Gate chosen outward s a) first → ((b : ℕ) → b < length chosen → Told (Reaches O Any a b) (label_at labels b)) → (l : ℕ) →
      Told (Exits chosen labels inward t first (length chosen)) l → Told (Through O chosen outward inward s t a) l
  through_exits_lem a first labels g w l x = record { none = none_by; some = some_by }
    where
      -- each sum over paths has one over labels under it
      under : (d : ℕ) → Through O chosen outward inward s t a d → (e : ℕ) × Exits chosen labels inward t first (length chosen) e × (e ≤ d)
      under d h = by first (label_at labels h.exit) refl refl
        where
          by : (f k : ℕ) → first ≡ f → label_at labels h.exit ≡ k → (e : ℕ) × Exits chosen labels inward t first (length chosen) e × (e ≤ d)
          by zero k p q = absurd ((g.none p).none h.sum.first h.sum.in_first)
          by (suc f) zero p q = absurd (((w h.exit h.node).none q).none h.sum.second h.sum.in_second)
          by (suc f) (suc k) p q = (
            f + k + h.sum.third,
            record {
              exit = h.exit;
              below = h.node;
              sum = record { first = f; second = k; third = h.sum.third; in_first = p; in_second = q; in_third = h.sum.in_third; total = refl };
            },
            omega (
              arith,
              h.sum.total,
              (g.some f p).least h.sum.first h.sum.in_first,
              ((w h.exit h.node).some k q).least h.sum.second h.sum.in_second,
            ),
          )

      -- and each sum over labels is one over paths
      is_path : (d : ℕ) → Exits chosen labels inward t first (length chosen) d → Through O chosen outward inward s t a d
      is_path d h =
          record {
            exit = h.exit;
            node = h.below;
            sum =
                record {
                  first = h.sum.first;
                  second = h.sum.second;
                  third = h.sum.third;
                  in_first = (g.some h.sum.first h.sum.in_first).is;
                  in_second = ((w h.exit h.below).some h.sum.second h.sum.in_second).is;
                  in_third = h.sum.in_third;
                  total = h.sum.total;
                };
          }

      none_by : l ≡ 0 → Empty (Through O chosen outward inward s t a)
      none_by e = record { none = λ d h. (x.none e).none (under d h).0 (under d h).1 }

      some_by : (d : ℕ) → l ≡ suc d → Least (Through O chosen outward inward s t a) d
      some_by d e = record { is = is_path d (x.some d e).is; least = λ f h. omega (arith, (x.some d e).least (under f h).0 (under f h).1, (under f h).2) }
