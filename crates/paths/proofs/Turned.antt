-- The graph turned round has the paths turned round, of the same weights.
use mathlib.Core.Path.{◌≡◌, refl, sym, subst}
use mathlib.Core.Logic.{inl, inr}
use mathlib.Core.List.{List, [], ◌∷◌, reverse, reverse_aux, tail-eq_of_cons-eq}
use Prim.Native.Nat.{ℕ, ◌+◌}
use native.Mathlib.Omega.{arith}
use Rattle.paths.specs.Lists.{Mem, Different, Inside}
use Rattle.paths.specs.Graphs.{Graph, Proper, turned, Along, stop, step, IsPath, Reaches}
use Rattle.paths.proofs.Lists.{inside_tail}
use Rattle.paths.proofs.Ways.{weighing, end_node}

-- different lists with no node in common, one turned round onto the other
pub different_onto : (l m : List ℕ) → Different l → Different m → ((a : ℕ) → Mem a l → Mem a m → ⊥) → Different (reverse_aux l m)
different_onto [] m d e n = e
different_onto (x ∷ l) m d e n = different_onto l (x ∷ m) d.1 (n x (inl refl), e) apart
  where
    apart : (a : ℕ) → Mem a l → Mem a (x ∷ m) → ⊥
    apart a h (inl q) = d.0 (subst (λ (y : ℕ). Mem y l) q h)
    apart a h (inr g) = n a (inr h) g

-- what holds inside a list holds inside it turned round
inside_onto : (P : ℕ → Type 0) (a : ℕ) (l m : List ℕ) (b : ℕ) (after : List ℕ) → b ∷ after ≡ reverse_aux (a ∷ l) m → Inside P l → Inside P (a ∷ m) → Inside P after
inside_onto P a [] m b after e i j = subst (λ (k : List ℕ). Inside P k) (sym (tail-eq_of_cons-eq e)) (inside_tail P a m j)
inside_onto P a (x ∷ []) m b after e i j = subst (λ (k : List ℕ). Inside P k) (sym (tail-eq_of_cons-eq e)) j
inside_onto P a (x ∷ y ∷ l) m b after e i j = inside_onto P x (y ∷ l) (a ∷ m) b after e i.1 (i.0, j)

-- the list b ∷ after is a ∷ l turned round
pub record Back (G : Graph) (a : ℕ) (l m : List ℕ) (b c w : ℕ) : Type 0 where
  pub after : List ℕ
  pub list : b ∷ after ≡ reverse_aux (a ∷ l) m
  pub along : Along (turned G) b after c w

module _ {G : Graph} where
  pub back_onto : {a : ℕ} {l : List ℕ} {b w : ℕ} (m : List ℕ) (c d : ℕ) → Along G a l b w → Along (turned G) a m c d → Back G a l m b c (w + d)
  back_onto m c d stop q = record { after = m; list = refl; along = weighing (omega arith) q }
  back_onto m c d (step {a = a} {x = x} {b = b} {w = w} {d = e} {l = l} s r) q = again (back_onto (a ∷ m) c (w + d) r (step s q))
    where
      again : Back G x l (a ∷ m) b c (e + (w + d)) → Back G a (x ∷ l) m b c (w + e + d)
      again k = record { after = k.after; list = k.list; along = weighing (omega arith) k.along }

  -- the path turned round: its list is reversed
  pub turned_path : Proper G → {a : ℕ} {l : List ℕ} {b w : ℕ} → IsPath G a l b w → (k : List ℕ) × (b ∷ k ≡ reverse (a ∷ l)) × IsPath (turned G) b k a w
  turned_path g {a} {l} {b} {w} p = of (back_onto [] a 0 p.along stop)
    where
      of : Back G a l [] b a (w + 0) → (k : List ℕ) × (b ∷ k ≡ reverse (a ∷ l)) × IsPath (turned G) b k a w
      of k = (
        k.after,
        k.list,
        record {
          node = end_node g p.node p.along;
          along = weighing (omega arith) k.along;
          different = subst Different (sym k.list) (different_onto (a ∷ l) [] p.different tt (λ x h n. n));
        },
      )

  -- and the nodes strictly inside are the same
  pub turned_reaches : Proper G → {P : ℕ → Type 0} {a b w : ℕ} → Reaches G P a b w → Reaches (turned G) P b a w
  turned_reaches g {P} {a} {b} {w} r = of (turned_path g r.path)
    where
      of : (k : List ℕ) × (b ∷ k ≡ reverse (a ∷ r.after)) × IsPath (turned G) b k a w → Reaches (turned G) P b a w
      of k = record { after = k.0; path = k.2; inner = inside_onto P a r.after [] b k.0 k.1 r.inner tt }

  pub turned_proper : Proper G → Proper (turned G)
  turned_proper g = record { tail = g.head; head = g.tail }
