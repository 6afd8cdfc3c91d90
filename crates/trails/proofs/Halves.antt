-- A path cut at one of its nodes.
use mathlib.Core.Path.{◌≡◌, sym, ap, subst}
use mathlib.Core.Logic.{◌⊎◌, inl, inr, ⊎_elim, ◌≢◌}
use mathlib.Core.List.{List, [], ◌∷◌, reverse}
use Prim.Native.Nat.{ℕ, ◌+◌}
use native.Mathlib.Omega.{arith}
use lib.ListN.{length, length-append, length-reverse}
use Rattle.paths.specs.Graphs.{Graph, Proper, turned, IsPath}
use Rattle.paths.specs.Lists.{Mem, Different, Each}
use Rattle.paths.proofs.Lists.{mem_left, mem_right, mem_each, parts_apart, onto_mem}
use Rattle.paths.proofs.Turned.{turned_path}
use Rattle.paths.proofs.Ways.{Parts, cut_path}

-- A path cut at v: the way back from v to its first node, over the steps turned round, and the way on to its last.
pub record Halves (G : Graph) (v a : ℕ) (l : List ℕ) (b : ℕ) : Type 0 where
  pub before : List ℕ
  pub after : List ℕ
  pub weighs : ℕ
  pub weighs' : ℕ
  pub to : IsPath (turned G) v before a weighs
  pub from : IsPath G v after b weighs'
  pub apart : (x : ℕ) → Mem x (v ∷ before) → Mem x after → ⊥
  pub on : (x : ℕ) → Mem x (v ∷ before) ⊎ Mem x after → Mem x (a ∷ l)
  pub long : length before + length after + 1 ≡ length (a ∷ l)

pub halves : {G : Graph} → Proper G → {a : ℕ} {l : List ℕ} {b w : ℕ} (v : ℕ) → IsPath G a l b w → Mem v (a ∷ l) → Halves G v a l b
halves {G} g {a} {l} {b} {w} v p m = at (cut_path g v p m)
  where
    at : Parts G a l b w v → Halves G v a l b
    at c = of (turned_path g c.to)
      where
        of : (k : List ℕ) × (v ∷ k ≡ reverse (a ∷ c.at.front)) × IsPath (turned G) v k a c.at.before → Halves G v a l b
        of i =
            record {
              before = i.0;
              after = c.at.back;
              weighs = c.at.before;
              weighs' = c.at.past;
              to = i.2;
              from = c.from;
              apart = λ x h n. parts_apart x (a ∷ c.at.front) c.at.back (subst (λ (k : List ℕ). Different (a ∷ k)) c.at.whole p.different) (front_of x h) n;
              on = on_path;
              long = omega (arith, ap length i.1, length-reverse (a ∷ c.at.front), ap length c.at.whole, length-append c.at.front c.at.back);
            }
          where
            front_of : (x : ℕ) → Mem x (v ∷ i.0) → Mem x (a ∷ c.at.front)
            front_of x h = ⊎_elim (λ n. n) (λ z. absurd z) (onto_mem x (a ∷ c.at.front) [] (subst (Mem x) i.1 h))

            on_path : (x : ℕ) → Mem x (v ∷ i.0) ⊎ Mem x c.at.back → Mem x (a ∷ l)
            on_path x h =
                subst (Mem x) (sym (ap (λ (k : List ℕ). a ∷ k) c.at.whole))
                (⊎_elim (λ n. mem_left x (a ∷ c.at.front) c.at.back (front_of x n)) (mem_right x (a ∷ c.at.front) c.at.back) h)

-- what holds of each node of the path but v holds of both
pub halves_free :
    {G : Graph} {v a : ℕ} {l : List ℕ} {b : ℕ} (P : ℕ → Type 0) (c : Halves G v a l b) → ((x : ℕ) → Mem x (a ∷ l) → x ≢ v → P x) → Each P c.before × Each P c.after
halves_free P c f = (
  mem_each P c.before (λ x m. f x (c.on x (inl (inr m))) (λ e. c.to.different.0 (subst (λ (z : ℕ). Mem z c.before) e m))),
  mem_each P c.after (λ x m. f x (c.on x (inr m)) (λ e. c.from.different.0 (subst (λ (z : ℕ). Mem z c.after) e m))),
)
