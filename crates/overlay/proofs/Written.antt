-- Writing one arc, one row, and all rows.
use mathlib.Core.Path.{◌≡◌, refl, sym, ap, subst, ◌∙◌}
use mathlib.Core.Logic.{◌≢◌}
use mathlib.Core.List.{List}
use Prim.Native.Nat.{ℕ, suc, ◌+◌, ◌-◌, ◌≤◌, ◌<◌}
use native.Mathlib.Decide.{ℕ_discrete}
use native.Mathlib.Numerals.{add-one}
use native.Mathlib.Omega.{arith}
use lib.ListN.{length, get_or, set, length-set}
use lib.Seq.{get_or-set_same, get_or-set_other}
use Rattle.paths.specs.Graphs.{Graph}
use Rattle.road.specs.Faults.{InSet}
use Rattle.overlay.specs.Numbers.{Number, one, skip}
use Rattle.overlay.specs.Overlays.{HasArc, RowAt}
use Rattle.overlay.specs.workings.Writing.{Local, Found, WroteArc, put, left, Wrote}
use Rattle.overlay.proofs.Locals.{in_bytes, found_arc, arc_found}
use Rattle.search.specs.workings.Rows.{label_at}

pub as_wide : (i n m : ℕ) → i < n → m ≡ n → i < m
as_wide i n m h e = omega arith

pub one_less : (x : ℕ) → x ≢ 0 → x ≡ suc (x - 1)
one_less x n = omega arith

-- an entry that a write left alone
pub entry_kept : (l m : List ℕ) (i x p : ℕ) → m ≡ set l i x → p ≢ i → get_or m p 0 ≡ get_or l p 0
entry_kept l m i x p e n = ap (λ (k : List ℕ). get_or k p 0) e ∙ get_or-set_other l i p x 0 n

-- and the one that it wrote
pub entry_new : (l m : List ℕ) (i x p : ℕ) → m ≡ set l i x → i < length l → p ≡ i → get_or m p 0 ≡ x
entry_new l m i x p e h q = ap (λ (k : List ℕ). get_or k p 0) e ∙ ap (λ (k : ℕ). get_or (set l i x) k 0) q ∙ get_or-set_same l i x 0 h

pub length_written : (l m : List ℕ) (i x : ℕ) → m ≡ set l i x → length m ≡ length l
length_written l m i x e = ap length e ∙ length-set l i x

module _ (chosen labels : List ℕ) (a : ℕ) where
  pub wrote_none : (heads weights : List ℕ) → Wrote chosen labels a 0 heads weights heads weights 0
  wrote_none heads weights =
      record {
        number = Number.none;
        ascends = λ p h. absurd (omega arith);
        found = λ p h. absurd (omega arith);
        below = λ p h. absurd (omega arith);
        weighed = λ p h. absurd (omega arith);
        all = λ b h f. absurd (omega arith);
        heads_kept = λ p h. refl;
        weights_kept = λ p h. refl;
        heads_long = refl;
        weights_long = refl;
      }

  module _ (v : ℕ) (heads₀ weights₀ heads weights : List ℕ) (r : ℕ) (g : Wrote chosen labels a v heads₀ weights₀ heads weights r) where
    module _ (heads' weights' : List ℕ) where
      -- no arc leads to v
      skipped : (Found chosen labels a v → ⊥) → heads' ≡ heads → weights' ≡ weights → Wrote chosen labels a (suc v) heads₀ weights₀ heads' weights' r
      skipped n e f =
          record {
            number = skip n g.number;
            ascends = λ p h. omega (arith, g.ascends p h, same p, same (p + 1));
            found = λ p h. subst (λ (x : ℕ). Found chosen labels a x) (sym (same p)) (g.found p h);
            below = λ p h. omega (arith, g.below p h, same p);
            weighed = λ p h. ap (λ (x : ℕ). label_at labels x) (same p) ∙ g.weighed p h ∙ ap suc (sym (ap (λ (k : List ℕ). get_or k p 0) f));
            all = λ b h x. all_by b h x (ℕ_discrete b v);
            heads_kept = λ p h. same p ∙ g.heads_kept p h;
            weights_kept = λ p h. ap (λ (k : List ℕ). get_or k p 0) f ∙ g.weights_kept p h;
            heads_long = ap length e ∙ g.heads_long;
            weights_long = ap length f ∙ g.weights_long;
          }
        where
          same : (p : ℕ) → get_or heads' p 0 ≡ get_or heads p 0
          same p = ap (λ (k : List ℕ). get_or k p 0) e

          all_by : (b : ℕ) → b < suc v → Found chosen labels a b → Dec (b ≡ v) → (p : ℕ) × (p < r) × (get_or heads' p 0 ≡ b)
          all_by b h x (yes q) = absurd (n (subst (λ (y : ℕ). Found chosen labels a y) q x))
          all_by b h x (no d) =
              let y = g.all b (omega arith) x in
              (y.0, y.1, same y.0 ∙ y.2)

      -- the arc to v is written behind the others
      added :
          (w : ℕ) → Found chosen labels a v → label_at labels v ≡ suc w → heads' ≡ set heads r v → weights' ≡ set weights r w → r < length heads → r < length weights →
          Wrote chosen labels a (suc v) heads₀ weights₀ heads' weights' (suc r)
      added w x l e f hh hw =
          record {
            number = one x g.number;
            ascends = λ p h. ascends_by p (ℕ_discrete (p + 1) r) h;
            found = λ p h. found_by p h (ℕ_discrete p r);
            below = λ p h. below_by p h (ℕ_discrete p r);
            weighed = λ p h. weighed_by p h (ℕ_discrete p r);
            all = λ b h y. all_by b h y (ℕ_discrete b v);
            heads_kept = λ p h. entry_kept heads heads' r v p e (λ q. omega arith) ∙ g.heads_kept p (omega arith);
            weights_kept = λ p h. entry_kept weights weights' r w p f (λ q. omega arith) ∙ g.weights_kept p (omega arith);
            heads_long = length_written heads heads' r v e ∙ g.heads_long;
            weights_long = length_written weights weights' r w f ∙ g.weights_long;
          }
        where
          old : (p : ℕ) → p ≢ r → get_or heads' p 0 ≡ get_or heads p 0
          old p n = entry_kept heads heads' r v p e n

          new : (p : ℕ) → p ≡ r → get_or heads' p 0 ≡ v
          new p q = entry_new heads heads' r v p e hh q

          ascends_by : (p : ℕ) → Dec (p + 1 ≡ r) → p + 1 < suc r → get_or heads' p 0 < get_or heads' (p + 1) 0
          ascends_by p (yes q) h = omega (arith, old p (λ z. omega arith), new (p + 1) q, g.below p (omega arith))
          ascends_by p (no n) h = omega (arith, old p (λ z. omega arith), old (p + 1) n, g.ascends p (omega arith))

          found_by : (p : ℕ) → p < suc r → Dec (p ≡ r) → Found chosen labels a (get_or heads' p 0)
          found_by p h (yes q) = subst (λ (y : ℕ). Found chosen labels a y) (sym (new p q)) x
          found_by p h (no n) = subst (λ (y : ℕ). Found chosen labels a y) (sym (old p n)) (g.found p (omega arith))

          below_by : (p : ℕ) → p < suc r → Dec (p ≡ r) → get_or heads' p 0 < suc v
          below_by p h (yes q) = omega (arith, new p q)
          below_by p h (no n) = omega (arith, old p n, g.below p (omega arith))

          weighed_by : (p : ℕ) → p < suc r → Dec (p ≡ r) → label_at labels (get_or heads' p 0) ≡ suc (get_or weights' p 0)
          weighed_by p h (yes q) = ap (λ (y : ℕ). label_at labels y) (new p q) ∙ l ∙ ap suc (sym (entry_new weights weights' r w p f hw q))
          weighed_by p h (no n) = ap (λ (y : ℕ). label_at labels y) (old p n) ∙ g.weighed p (omega arith) ∙ ap suc (sym (entry_kept weights weights' r w p f n))

          all_by : (b : ℕ) → b < suc v → Found chosen labels a b → Dec (b ≡ v) → (p : ℕ) × (p < suc r) × (get_or heads' p 0 ≡ b)
          all_by b h y (yes q) = (r, omega arith, new r refl ∙ sym q)
          all_by b h y (no n) =
              let z = g.all b (omega arith) y in
              (z.0, omega (arith, z.1), old z.0 (λ q. omega (arith, z.1)) ∙ z.2)

      pub wrote_more :
          (r' : ℕ) → WroteArc chosen labels a v r heads weights heads' weights' r' → (Found chosen labels a v → r < length heads) → length weights ≡ length heads →
          Wrote chosen labels a (v + 1) heads₀ weights₀ heads' weights' r'
      wrote_more r' (put w x l e f q) h s =
          subst (λ (k : ℕ). Wrote chosen labels a (v + 1) heads₀ weights₀ heads' weights' k) (sym q)
          (subst (λ (k : ℕ). Wrote chosen labels a k heads₀ weights₀ heads' weights' (suc r)) (sym (add-one v)) (added w x l e f (h x) (omega (arith, h x, s))))
      wrote_more r' (left n e f q) h s =
          subst (λ (k : ℕ). Wrote chosen labels a (v + 1) heads₀ weights₀ heads' weights' k) (sym q)
          (subst (λ (k : ℕ). Wrote chosen labels a k heads₀ weights₀ heads' weights' r) (sym (add-one v)) (skipped n e f))

  pub wrote_all :
      (v n : ℕ) (heads₀ weights₀ heads weights : List ℕ) (r : ℕ) → Wrote chosen labels a v heads₀ weights₀ heads weights r → v ≤ n → n ≤ v →
      Wrote chosen labels a n heads₀ weights₀ heads weights r
  wrote_all v n heads₀ weights₀ heads weights r g h l =
      let same : v ≡ n = omega arith in
      subst (λ (k : ℕ). Wrote chosen labels a k heads₀ weights₀ heads weights r) same g

  -- what was written is the row
  pub row_of :
      (G : Graph) → length chosen ≡ G.nodes → InSet chosen a → Local G chosen a labels → (heads₀ weights₀ heads weights : List ℕ) (r : ℕ) →
      Wrote chosen labels a (length chosen) heads₀ weights₀ heads weights r → RowAt G chosen a heads weights 0 r
  row_of G as_long i l heads₀ weights₀ heads weights r g =
      record {
        rises = omega arith;
        ascends = λ p _ h. g.ascends p h;
        arcs = λ p _ h. found_arc G chosen as_long a i labels l (get_or heads p 0) (get_or weights p 0) (g.found p h) (g.weighed p h);
        all = λ b x. there b x;
      }
    where
      there : (b : ℕ) → HasArc G chosen a b → (p : ℕ) × (0 ≤ p) × (p < r) × (get_or heads p 0 ≡ b)
      there b x =
          let y = g.all b (in_bytes chosen b x.head) (arc_found G chosen as_long a i labels l b x) in
          (y.0, omega arith, y.1, y.2)
