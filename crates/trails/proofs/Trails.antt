-- The path under trial.
use mathlib.Core.Path.{◌≡◌, refl, sym, ap, ◌∙◌}
use mathlib.Core.Bool.{Bool, true, false, ◌||◌}
use mathlib.Core.Logic.{◌⊎◌, inl, inr}
use mathlib.Core.List.{List, [], ◌∷◌, reverse}
use Prim.Native.Nat.{ℕ}
use native.Mathlib.Omega.{arith}
use lib.Dec.{eqb}
use Rattle.std.specs.List.{list_any}
use Rattle.std.proofs.lemmas.Bool.{eqb-true, eq-eqb}
use Rattle.paths.specs.Lists.{Mem}
use Rattle.paths.proofs.Lists.{mem_onto, onto_mem}
use Rattle.road.specs.workings.Verdicts.{Tells}

abbrev pub is_in : ℕ → List ℕ → Bool
is_in v l = list_any (λ x. eqb x v) l

in_mem : (v : ℕ) (l : List ℕ) → is_in v l ≡ true → Mem v l
in_mem v (x ∷ l) e = by (eqb x v) refl e (in_mem v l)
  where
    by : (b : Bool) → eqb x v ≡ b → (b || is_in v l) ≡ true → (is_in v l ≡ true → Mem v l) → Mem v (x ∷ l)
    by true h e f = inl (sym (eqb-true x v h))
    by false h e f = inr (f e)
in_mem v [] e = let z : ◌≡◌ {A = ℕ} 0 1 = cc in absurd (omega arith)

mem_in : (v : ℕ) (l : List ℕ) → Mem v l → is_in v l ≡ true
mem_in v (x ∷ l) (inl e) = ap (λ (b : Bool). b || is_in v l) (eq-eqb x v (sym e))
mem_in v (x ∷ l) (inr m) = by (eqb x v) (mem_in v l m)
  where
    by : (b : Bool) → is_in v l ≡ true → (b || is_in v l) ≡ true
    by true e = refl
    by false e = e
mem_in v [] m = elim m [ ]

-- looked for from the back
pub found_from_back : (v : ℕ) (l : List ℕ) {b : Bool} → b ≡ is_in v (reverse l) → Tells b (Mem v l)
found_from_back v l {b = b} e =
    record {
      yes = λ h. of (onto_mem v l [] (in_mem v (reverse l) (sym e ∙ h)));
      no = λ h m. let z : ◌≡◌ {A = Bool} true false = sym (mem_in v (reverse l) (mem_onto v l [] (inl m))) ∙ sym e ∙ h in let y : ◌≡◌ {A = ℕ} 0 1 = cc in omega arith;
    }
  where
    of : Mem v l ⊎ Mem v [] → Mem v l
    of (inl m) = m
    of (inr m) = elim m [ ]
