-- The first fault of a list: at most one is first, and either one is first or none holds.
use mathlib.Core.Path.{◌≡◌, refl, ap, sym, subst, ◌∙◌}
use mathlib.Core.Bool.{true, false}
use mathlib.Core.Logic.{◌⊎◌, inl, inr, ◌≢◌}
use mathlib.Core.List.{List, [], ◌∷◌, ◌++◌}
use Prim.Native.Nat.{ℕ, zero, suc}
use native.Mathlib.Omega.{arith}
use Rattle.road.specs.declared.Refusal.{Refusal}
use Rattle.road.specs.declared.Refusal.TheVariants.{Sizes, Starts, Arcs, K, Order, Set, Overlay, Node, Outside, Drive, Lengths, Room, Line}
use Rattle.std.specs.Prelude.{Ok, Err}
use Rattle.std.specs.Result.{IsErrAnd}
use lib.ListN.{get_or}
use Rattle.road.specs.Order.{HoldsAt, NoneTo}
use Rattle.road.specs.Refusals.{number_of, Fault, Of, None, First, Said, refusal, answer}
use Rattle.road.specs.workings.Verdicts.{Verdict, Single, Singles, Decided, Judged, Judges, Tells}

pub of_single : {r : Refusal} {P : Type 0} → Single (Of r P)
of_single = record { one = λ s t f g. f.is ∙ sym g.is }

-- at most one refusal is of the first fault
pub first_one : (Fs : List Fault) (r s : Refusal) → Singles Fs → First Fs r → First Fs s → r ≡ s
first_one (F ∷ Fs) r s o (inl f) (inl g) = o.0.one r s f g
first_one (F ∷ Fs) r s o (inl f) (inr g) = absurd (g.0 r f)
first_one (F ∷ Fs) r s o (inr f) (inl g) = absurd (f.0 s g)
first_one (F ∷ Fs) r s o (inr f) (inr g) = first_one Fs r s o.1 f.1 g.1
first_one [] r s o x3 _ = elim x3 [ ]

-- where one is first, not none holds
pub first_not_none : (Fs : List Fault) (r : Refusal) → First Fs r → None Fs → ⊥
first_not_none (F ∷ Fs) r (inl f) n = n.0 r f
first_not_none (F ∷ Fs) r (inr f) n = first_not_none Fs r f.1 n.1
first_not_none [] r x'' n = elim x'' [ ]

-- and where none is first, none holds
pub none_if_no_first : (Fs : List Fault) → ((r : Refusal) → First Fs r → ⊥) → None Fs
none_if_no_first [] n = tt
none_if_no_first (F ∷ Fs) n = let h : (s : Refusal) → F s → ⊥ = λ s f. n s (inl f) in (h, none_if_no_first Fs (λ r f. n r (inr (h, f))))

-- either one is first or none holds, where each is decided
pub first_or_none : (Fs : List Fault) → Decided Fs → ((r : Refusal) × First Fs r) ⊎ None Fs
first_or_none [] d = inr tt
first_or_none (F ∷ Fs) d = by d.0 (first_or_none Fs d.1)
  where
    by :
        ((r : Refusal) × F r) ⊎ ((s : Refusal) → F s → ⊥) → ((r : Refusal) × First Fs r) ⊎ None Fs →
        ((r : Refusal) × First (F ∷ Fs) r) ⊎ None (F ∷ Fs)
    by (inl f) rest = inl (f.0, inl f.1)
    by (inr n) (inl f) = inl (f.0, inr (n, f.1))
    by (inr n) (inr m) = inr (n, m)

-- no refusal has the number of an answer
pub number_some : (r : Refusal) → number_of r ≢ 0
number_some Sizes e = omega arith
number_some Starts e = omega arith
number_some Arcs e = omega arith
number_some K e = omega arith
number_some Order e = omega arith
number_some Set e = omega arith
number_some Overlay e = omega arith
number_some Node e = omega arith
number_some Outside e = omega arith
number_some Drive e = omega arith
number_some Lengths e = omega arith
number_some Room e = omega arith
number_some Line e = omega arith

-- no two refusals have one number: the table has each at its own
abbrev table : List Refusal
table = Sizes ∷ Sizes ∷ Starts ∷ Arcs ∷ K ∷ Order ∷ Set ∷ Overlay ∷ Node ∷ Outside ∷ Drive ∷ Lengths ∷ Room ∷ Line ∷ []

in_table : (r : Refusal) → get_or table (number_of r) Sizes ≡ r
in_table Sizes = refl
in_table Starts = refl
in_table Arcs = refl
in_table K = refl
in_table Order = refl
in_table Set = refl
in_table Overlay = refl
in_table Node = refl
in_table Outside = refl
in_table Drive = refl
in_table Lengths = refl
in_table Room = refl
in_table Line = refl

pub number_one : (r s : Refusal) → number_of r ≡ number_of s → r ≡ s
number_one r s e = sym (in_table r) ∙ ap (λ (n : ℕ). get_or table n Sizes) e ∙ in_table s

-- so what a refusal says is said of no other, and by no answer
pub refusal_one : (r s : Refusal) → refusal r ≡ refusal s → r ≡ s
refusal_one r s e = number_one r s (ap (λ (x : Said). x.number) e)

pub refusal_no_answer : (r : Refusal) (values : List ℕ) → refusal r ≡ answer values → ⊥
refusal_no_answer r values e = number_some r (ap (λ (x : Said). x.number) e)

-- where the fault at a place holds and none before it, it is the first, whatever comes after
pub first_at : (Fs : List Fault) (i : ℕ) (r : Refusal) → NoneTo Fs i → HoldsAt Fs i r → First Fs r
first_at (F ∷ Fs) zero r n h = inl h
first_at (F ∷ Fs) (suc i) r n h = inr (n.0, first_at Fs i r n.1 h)
first_at [] i r n h = elim h [ ]

pub of_number : {r : Refusal} {P : Type 0} → (s : Refusal) → Of r P s → number_of s ≡ number_of r
of_number s f = ap number_of f.is

-- a verdict is passed or refused, and not both
pub not_both : {v : Verdict} {r : Refusal} → v ≡ Ok tt → v ≡ Err r → ⊥
not_both e f = let z : ◌≡◌ {A = ℕ} 0 1 = cc in omega arith

refusal_of : {r s : Refusal} → ◌≡◌ {A = Verdict} (Err r) (Err s) → r ≡ s
refusal_of e = cc

module _ {Fs : List Fault} where
  pub judges_passed : None Fs → Judges Fs (Ok tt)
  judges_passed n = record { passed = λ e. n; refused = λ r e. absurd (not_both refl e) }

  pub judges_refused : {r : Refusal} → First Fs r → Judges Fs (Err r)
  judges_refused f = record { passed = λ e. absurd (not_both e refl); refused = λ s e. subst (First Fs) (refusal_of e) f }

  -- so two verdicts on one list are equal
  pub judges_one : Singles Fs → (v w : Verdict) → Judges Fs v → Judges Fs w → v ≡ w
  judges_one o (Ok x) (Ok y) f g = refl
  judges_one o (Ok x) (Err s) f g = absurd (first_not_none Fs s (g.refused s refl) (f.passed refl))
  judges_one o (Err r) (Ok y) f g = absurd (first_not_none Fs r (f.refused r refl) (g.passed refl))
  judges_one o (Err r) (Err s) f g = ap Err (first_one Fs r s o (f.refused r refl) (g.refused s refl))

module _ {F : Fault} where
  pub judged_passed : ((s : Refusal) → F s → ⊥) → Judged F (Ok tt)
  judged_passed n = record { passed = λ e. n; refused = λ r e. absurd (not_both refl e) }

  pub judged_refused : {r : Refusal} → F r → Judged F (Err r)
  judged_refused f = record { passed = λ e. absurd (not_both e refl); refused = λ s e. subst F (refusal_of e) f }

  -- a verdict on one fault is one on a list of it alone
  pub judged_alone : {v : Verdict} → Judged F v → Judges (F ∷ []) v
  judged_alone j = record { passed = λ e. (j.passed e, tt); refused = λ r e. inl (j.refused r e) }

-- the fault P, which refusal r tells
module _ {r : Refusal} {P : Type 0} where
  -- what does not hold is not told
  pub untold : (P → ⊥) → (s : Refusal) → Of r P s → ⊥
  untold n s f = n f.holds

  -- and what is not told does not hold
  pub unheld : ((s : Refusal) → Of r P s → ⊥) → P → ⊥
  unheld n p = n r (record { is = refl; holds = p })

  pub told : P → Of r P r
  told p = record { is = refl; holds = p }

  pub refuses : P → Judged (Of r P) (Err r)
  refuses p = judged_refused (told p)

  pub passes : (P → ⊥) → Judged (Of r P) (Ok tt)
  passes n = judged_passed (untold n)

-- a chain of checks
pub first_early : (Fs Gs : List Fault) (r : Refusal) → First Fs r → First (Fs ++ Gs) r
first_early (F ∷ Fs) Gs r (inl f) = inl f
first_early (F ∷ Fs) Gs r (inr f) = inr (f.0, first_early Fs Gs r f.1)
first_early [] Gs r x' = elim x' [ ]

pub first_late : (Fs Gs : List Fault) (r : Refusal) → None Fs → First Gs r → First (Fs ++ Gs) r
first_late [] Gs r n f = f
first_late (F ∷ Fs) Gs r n f = inr (n.0, first_late Fs Gs r n.1 f)

pub none_both : (Fs Gs : List Fault) → None Fs → None Gs → None (Fs ++ Gs)
none_both [] Gs n m = m
none_both (F ∷ Fs) Gs n m = (n.0, none_both Fs Gs n.1 m)

-- it ends with the check that refused
pub stops : (Fs Gs : List Fault) {v : Verdict} {r : Refusal} → v ≡ Err r → Judges Fs v → Judges (Fs ++ Gs) v
stops Fs Gs e j = record { passed = λ p. absurd (not_both p e); refused = λ s q. first_early Fs Gs s (j.refused s q) }

-- what `?` hands on is what the check refused by
pub handed_on : {v w : Verdict} {r : Refusal} → v ≡ Err r → IsErrAnd w (λ s. s ≡ r) → w ≡ v
handed_on {w = Ok x} e h = elim h [ ]
handed_on {w = Err s} e h = ap Err h ∙ sym e

pub hands_on : (Fs Gs : List Fault) {v w : Verdict} {r : Refusal} → v ≡ Err r → IsErrAnd w (λ s. s ≡ r) → Judges Fs v → Judges (Fs ++ Gs) w
hands_on Fs Gs {v = v} {w = w} {r = r} e h j = subst (λ (x : Verdict). Judges (Fs ++ Gs) x) (sym (handed_on {v = v} {w = w} {r = r} e h)) (stops Fs Gs e j)

pub refused_on : {F : Fault} {v w : Verdict} {r : Refusal} → v ≡ Err r → IsErrAnd w (λ s. s ≡ r) → F r → Judged F w
refused_on {F = F} {v = v} {w = w} e h f = subst (λ (x : Verdict). Judged F x) (sym (handed_on {v = v} {w = w} e h ∙ e)) (judged_refused f)

-- and goes on after one that passed
pub goes_on : (Fs Gs : List Fault) {v w : Verdict} → v ≡ Ok tt → Judges Fs v → Judges Gs w → Judges (Fs ++ Gs) w
goes_on Fs Gs e j k =
    record { passed = λ p. none_both Fs Gs (j.passed e) (k.passed p); refused = λ s q. first_late Fs Gs s (j.passed e) (k.refused s q) }

-- the first of a whole chain is the first of its beginning, or none of that holds and it is the first of the rest
pub first_split : (Fs Gs : List Fault) (r : Refusal) → First (Fs ++ Gs) r → First Fs r ⊎ (None Fs × First Gs r)
first_split [] Gs r f = inr (tt, f)
first_split (F ∷ Fs) Gs r (inl f) = inl (inl f)
first_split (F ∷ Fs) Gs r (inr f) = by (first_split Fs Gs r f.1)
  where
    by : First Fs r ⊎ (None Fs × First Gs r) → First (F ∷ Fs) r ⊎ (None (F ∷ Fs) × First Gs r)
    by (inl g) = inl (inr (f.0, g))
    by (inr g) = inr ((f.0, g.0), g.1)

-- none of a whole chain is none of its beginning
pub none_front : (Fs Gs : List Fault) → None (Fs ++ Gs) → None Fs
none_front [] Gs n = tt
none_front (F ∷ Fs) Gs n = (n.0, none_front Fs Gs n.1)

-- and of its end
pub none_back : (Fs Gs : List Fault) → None (Fs ++ Gs) → None Gs
none_back [] Gs n = n
none_back (F ∷ Fs) Gs n = none_back Fs Gs n.1

-- a bool that tells
pub tells_yes : {P : Type 0} → P → Tells true P
tells_yes p = record { yes = λ e. p; no = λ e. absurd (let z : ◌≡◌ {A = ℕ} 0 1 = cc in omega arith) }

pub tells_no : {P : Type 0} → (P → ⊥) → Tells false P
tells_no n = record { yes = λ e. absurd (let z : ◌≡◌ {A = ℕ} 0 1 = cc in omega arith); no = λ e. n }
