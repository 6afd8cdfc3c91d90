-- What each kind of line does.
use mathlib.Core.Path.{◌≡◌, refl, sym, ap, subst, ◌∙◌}
use mathlib.Core.Bool.{Bool, true, false}
use mathlib.Core.Logic.{◌⊎◌, inl, inr}
use mathlib.Core.List.{List, [], ◌∷◌, ◌++◌}
use Prim.Native.Nat.{ℕ, suc, ◌+◌, ◌-◌, ◌≤◌, ◌<◌}
use native.Mathlib.Omega.{arith}
use Rattle.std.specs.Prelude.{Option, Some}
use lib.ListN.{length, get_or, set, take}
use lib.Seq.{take-suc-set}
use Rattle.road.specs.declared.ArcCount.{ArcCount}
use Rattle.road.specs.declared.NodeCount.{NodeCount}
use Rattle.road.specs.declared.Refusal.TheVariants as R
use Rattle.hexlines.specs.Outputs.{Out}
use Rattle.hexlines.specs.declared.Writer.{Writer}
use Rattle.readings.specs.declared.Line.{Line}
use Rattle.readings.specs.declared.Line.TheVariants.{Head, Arc, Question, Drive}
use Rattle.readings.specs.Frames.{Frame, head, arc, question, drive}
use Rattle.frames.specs.declared.Areas.{Areas}
use Rattle.frames.specs.declared.Load.{Load}
use Rattle.frames.specs.workings.Held.{Refuses}
use Rattle.frames.specs.Stages.{loading_in}
use Rattle.frames.specs.workings.Judging.{Falls, Judged, Says, due, undue}
use Rattle.frames.specs.Steps.{Map, Stage, Due, Loads, begun, loading, asking, stopped, first, next, asked, driven, begins, loads, refused_by}

-- one arc more at the front of its area
grown : (l : List ℕ) (count x : ℕ) → count < length l → take (count + 1) (set l count x) ≡ take count l ++ (x ∷ [])
grown l count x h = let e : count + 1 ≡ suc count = omega arith in ap (λ (j : ℕ). take j (set l count x)) e ∙ take-suc-set l count x h

not_next :
    {n m k : ℕ} {tails heads weights : List ℕ} {t h w : ℕ} → (t < n → get_or tails (length tails - 1) 0 ≤ t → ⊥) →
    Due (loading n m k tails heads weights) (arc t h w) → ⊥
not_next f (next a b) = f a b

-- the head is read
pub begins_head :
    (line : Line) (n : NodeCount) (m : ArcCount) (k : NodeCount) → line ≡ Head n m k → (nodes : List ℕ) (ℓ : ℕ) (x : Stage) (o : List Out) →
    Loads ℓ n.0 m.0 k.0 [] [] [] x o → Judged begun (Some line) nodes ℓ x o
begins_head line n m k e nodes ℓ x o l = subst (λ (r : Line). Judged begun (Some r) nodes ℓ x o) (sym e) (due refl first (begins l))

-- an arc is read
module _
    (load : Load) (A : Areas) (line : Line) (t h w : ℕ) (i : line ≡ Arc t h w) (falls : Bool) (f : Falls falls load.n.0 t (take load.count.0 A.tails))
    (nodes : List ℕ)
  where
    as_arc : (ℓ : ℕ) (x : Stage) (o : List Out) → Judged (loading_in load A) (Some (Arc t h w)) nodes ℓ x o → Judged (loading_in load A) (Some line) nodes ℓ x o
    as_arc ℓ x o j = subst (λ (r : Line). Judged (loading_in load A) (Some r) nodes ℓ x o) (sym i) j

    pub arc_undue : (r : Writer) → falls ≡ true → Refuses (Judged (loading_in load A) (Some line) nodes) R.Line r r
    arc_undue r e =
        record {
          does = λ ℓ. as_arc ℓ stopped (refused_by R.Line ℓ) (undue (λ g q d. not_next (f.yes e) (subst (Due (loading_in load A)) q d)));
          same = refl;
        }

    pub arc_loads :
        falls ≡ false → load.count.0 < length A.tails → load.count.0 < length A.heads → load.count.0 < length A.weights → (ℓ : ℕ) (x : Stage) (o : List Out) →
        Loads ℓ load.n.0 load.m.0 load.k.0 (take (load.count.0 + 1) (set A.tails load.count.0 t)) (take (load.count.0 + 1) (set A.heads load.count.0 h))
        (take (load.count.0 + 1) (set A.weights load.count.0 w)) x o →
        Judged (loading_in load A) (Some line) nodes ℓ x o
    arc_loads e in-tails in-heads in-weights ℓ x o l =
        let g₁ = grown A.tails load.count.0 t in-tails in
        let g₂ = grown A.heads load.count.0 h in-heads in
        let g₃ = grown A.weights load.count.0 w in-weights in
        as_arc ℓ x o
        (due refl (next (f.no e).0 (f.no e).1) (loads (coe 0 1 (i. Loads ℓ load.n.0 load.m.0 load.k.0 (g₁ i) (g₂ i) (g₃ i) x o) l)))

-- which kinds of frames may come
abbrev Apt : Stage → Frame → Type 0
Apt begun (head n m k) = Unit {0}
Apt begun (arc t h w) = ⊥
Apt begun (question a b) = ⊥
Apt begun (drive l) = ⊥
Apt (loading n m k tails heads weights) (head n' m' k') = ⊥
Apt (loading n m k tails heads weights) (arc t h w) = Unit {0}
Apt (loading n m k tails heads weights) (question a b) = ⊥
Apt (loading n m k tails heads weights) (drive l) = ⊥
Apt (asking M) (head n m k) = ⊥
Apt (asking M) (arc t h w) = ⊥
Apt (asking M) (question a b) = Unit {0}
Apt (asking M) (drive l) = Unit {0}
Apt stopped f = ⊥

apt : {s : Stage} {f : Frame} → Due s f → Apt s f
apt first = tt
apt (next a b) = tt
apt asked = tt
apt driven = tt

apt_as : (s : Stage) {f : Frame} (g : Frame) → f ≡ g → Due s f → Apt s g
apt_as s g q d = subst (Apt s) q (apt d)

-- the frame that is told is of another kind
pub none_due : (s : Stage) (read : Option Line) (nodes : List ℕ) (r : Writer) → ((f : Frame) → Says read nodes f → Due s f → ⊥) → Refuses (Judged s read nodes) R.Line r r
none_due s read nodes r f = record { does = λ ℓ. undue f; same = refl }

pub not_head :
    (line : Line) (nodes : List ℕ) (r : Writer) → ((n : NodeCount) (m : ArcCount) (k : NodeCount) → line ≡ Head n m k → ⊥) →
    Refuses (Judged begun (Some line) nodes) R.Line r r
not_head line nodes r o = none_due begun (Some line) nodes r (none line o)
  where
    none : (line : Line) → ((n : NodeCount) (m : ArcCount) (k : NodeCount) → line ≡ Head n m k → ⊥) → (f : Frame) → Says (Some line) nodes f → Due begun f → ⊥
    none (Head n m k) o f q d = o n m k refl
    none (Arc t h w) o f q d = apt_as begun (arc t h w) q d
    none (Question a b) o f q d = apt_as begun (question a b) q d
    none (Drive count) o f q d = apt_as begun (drive (take count nodes)) q d

pub not_arc :
    (load : Load) (A : Areas) (line : Line) (nodes : List ℕ) (r : Writer) → ((t h w : ℕ) → line ≡ Arc t h w → ⊥) →
    Refuses (Judged (loading_in load A) (Some line) nodes) R.Line r r
not_arc load A line nodes r o = none_due (loading_in load A) (Some line) nodes r (none line o)
  where
    none : (line : Line) → ((t h w : ℕ) → line ≡ Arc t h w → ⊥) → (f : Frame) → Says (Some line) nodes f → Due (loading_in load A) f → ⊥
    none (Head n m k) o f q d = apt_as (loading_in load A) (head n.0 m.0 k.0) q d
    none (Arc t h w) o f q d = o t h w refl
    none (Question a b) o f q d = apt_as (loading_in load A) (question a b) q d
    none (Drive count) o f q d = apt_as (loading_in load A) (drive (take count nodes)) q d

pub not_asked :
    (M : Map) (line : Line) (nodes : List ℕ) (r : Writer) →
    ((n : NodeCount) × (m : ArcCount) × (k : NodeCount) × (line ≡ Head n m k)) ⊎ ((t : ℕ) × (h : ℕ) × (w : ℕ) × (line ≡ Arc t h w)) →
    Refuses (Judged (asking M) (Some line) nodes) R.Line r r
not_asked M line nodes r (inl (n, m, k, e)) =
    none_due (asking M) (Some line) nodes r
    (λ f q d. apt_as (asking M) (head n.0 m.0 k.0) (subst (λ (l : Line). Says (Some l) nodes f) e q) d)
not_asked M line nodes r (inr (t, h, w, e)) =
    none_due (asking M) (Some line) nodes r (λ f q d. apt_as (asking M) (arc t h w) (subst (λ (l : Line). Says (Some l) nodes f) e q) d)
