-- Lists of faults: whether none holds, and which is the first.
use mathlib.Core.Path.{◌≡◌, ap, sym, subst, ◌∙◌}
use mathlib.Core.Logic.{◌⊎◌, inl, inr}
use mathlib.Core.List.{List, [], ◌∷◌}
use Prim.Native.Nat.{ℕ}
use Rattle.road.specs.declared.Refusal.{Refusal}
use Rattle.road.specs.Refusals.{Fault, Of, None, First, number_of}
use Rattle.road.proofs.Refusals.{told}
use Rattle.examples.specs.Claims.{RefusedBy}
use Rattle.examples.proofs.Deciding.{Decider, given, both, either, never, always, fails, same}

-- a fault that is of one refusal alone, and a test whether it holds
pub record Check (F : Fault) : Type 0 where
  pub tells : Refusal
  pub only : (s : Refusal) → F s → s ≡ tells
  pub test : Decider (F tells)

abbrev pub Checks : List Fault → Type 0
Checks [] = Unit {0}
Checks (F ∷ Fs) = Check F × Checks Fs

abbrev pub check : {P : Type 0} (r : Refusal) → Decider P → Check (Of r P)
check r d = record { tells = r; only = λ s f. f.is; test = given d told (λ f. f.holds) }

module _ (F : Fault) (c : Check F) where
  pub holds_not : (F c.tells → ⊥) → (s : Refusal) → F s → ⊥
  holds_not n s f = n (subst F (c.only s f) f)

  abbrev pub clear : Decider ((s : Refusal) → F s → ⊥)
  clear = given (fails c.test) holds_not (λ n f. n c.tells f)

abbrev pub none_of : (Fs : List Fault) → Checks Fs → Decider (None Fs)
none_of [] c = always tt
none_of (F ∷ Fs) c = both (clear F c.0) (none_of Fs c.1)

-- the first fault that holds, whichever refusal it is of
module _ (F : Fault) (Fs : List Fault) (c : Check F) where
  abbrev pub Here : Type 0
  Here = F c.tells ⊎ (((s : Refusal) → F s → ⊥) × ((r : Refusal) × First Fs r))

  pub here : Here → (r : Refusal) × First (F ∷ Fs) r
  here (inl f) = (c.tells, inl f)
  here (inr p) = (p.1.0, inr (p.0, p.1.1))

  pub of_here : (r : Refusal) × First (F ∷ Fs) r → Here
  of_here p = by p.0 p.1
    where
      by : (r : Refusal) → First (F ∷ Fs) r → Here
      by r (inl f) = inl (subst F (c.only r f) f)
      by r (inr f) = inr (f.0, (r, f.1))

abbrev pub some_first : (Fs : List Fault) → Checks Fs → Decider ((r : Refusal) × First Fs r)
some_first [] c = never (λ p. p.1)
some_first (F ∷ Fs) c = given (either c.0.test (both (clear F c.0) (some_first Fs c.1))) (here F Fs c.0) (of_here F Fs c.0)

-- the same with its number
module _ (F : Fault) (Fs : List Fault) (c : Check F) (number : ℕ) where
  abbrev pub Numbered : Type 0
  Numbered = (F c.tells × (number_of c.tells ≡ number)) ⊎ (((s : Refusal) → F s → ⊥) × RefusedBy Fs number)

  pub numbered : Numbered → RefusedBy (F ∷ Fs) number
  numbered (inl p) = record { refusal = c.tells; first = inl p.0; numbered = p.1 }
  numbered (inr p) = record { refusal = p.1.refusal; first = inr (p.0, p.1.first); numbered = p.1.numbered }

  pub of_numbered : RefusedBy (F ∷ Fs) number → Numbered
  of_numbered r = by r.refusal r.first r.numbered
    where
      by : (s : Refusal) → First (F ∷ Fs) s → number_of s ≡ number → Numbered
      by s (inl f) e = inl (subst F (c.only s f) f, ap number_of (sym (c.only s f)) ∙ e)
      by s (inr f) e = inr (f.0, record { refusal = s; first = f.1; numbered = e })

abbrev pub refused_by : (Fs : List Fault) → Checks Fs → (number : ℕ) → Decider (RefusedBy Fs number)
refused_by [] c number = never (λ r. r.first)
refused_by (F ∷ Fs) c number =
    given (either (both c.0.test (same (number_of c.0.tells) number)) (both (clear F c.0) (refused_by Fs c.1 number))) (numbered F Fs c.0 number)
    (of_numbered F Fs c.0 number)
