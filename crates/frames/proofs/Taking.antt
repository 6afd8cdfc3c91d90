-- From what is read of a line to the step.
use mathlib.Core.Path.{◌≡◌, refl, sym, ap, subst, ◌∙◌}
use mathlib.Core.Bool.{true, true≢false}
use mathlib.Core.List.{List, ◌++◌}
use Prim.Native.Nat.{ℕ}
use Rattle.std.specs.Prelude.{Option, Some, None, Result, Ok, Err, ok_or}
use lib.ListN.{length, take, drop}
use lib.Seq.{take_at}
use Rattle.road.specs.declared.Refusal.{Refusal}
use Rattle.road.specs.declared.Refusal.TheVariants as R
use Rattle.hexlines.specs.Outputs.{Out}
use Rattle.hexlines.specs.declared.Writer.{Writer}
use Rattle.readings.proofs.Unique.{read_one}
use Rattle.readings.specs.declared.Line.{Line}
use Rattle.readings.specs.declared.Line.TheVariants.{Head, Arc, Question, Drive}
use Rattle.readings.specs.Frames.{Frame, head, arc, question, drive, ReadAs, Reads, Tells}
use Rattle.frames.specs.declared.Areas.{Areas}
use Rattle.frames.specs.declared.Phase.{Phase}
use Rattle.frames.specs.declared.Phase.TheVariants.{Begun, Loading, Asking, Stopped}
use Rattle.frames.specs.workings.Held.{Leaves, Refuses}
use Rattle.frames.specs.Stages.{goes, stage_by}
use Rattle.frames.specs.workings.Judging.{Judged, Says, Takes, due, undue}
use Rattle.frames.specs.Steps.{Stage, Due, Runs, wrong, taken}
use Rattle.frames.proofs.Judging.{none_due}
use Rattle.frames.proofs.Standing.{leaves_as, refuses_as}

-- it runs
pub runs_by : (p : Phase) (A : Areas) → goes p ≡ true → Runs (stage_by p A)
runs_by Begun A e = tt
runs_by (Loading load) A e = tt
runs_by (Asking map) A e = tt
runs_by Stopped A e = absurd (true≢false (sym e))

-- what is told of a line is a frame of which its text is
module _ (bytes : List ℕ) (nodes nodes' : List ℕ) where
  abbrev Reading : Frame → Type 0
  Reading = ReadAs 64 bytes

  drive_front : (count : ℕ) (l : List ℕ) → count ≡ length l → nodes' ≡ l ++ drop (length l) nodes → take count nodes' ≡ l
  drive_front count l e f = ap (take count) f ∙ take_at l (drop (length l) nodes) count (sym e)

  told_reads : (told : Option Line) → Tells Reading told nodes nodes' → (f : Frame) → Says told nodes' f → Reading f
  told_reads (Some (Head n m k)) h f e = subst Reading (sym e) h.0
  told_reads (Some (Arc t o w)) h f e = subst Reading (sym e) h.0
  told_reads (Some (Question a b)) h f e = subst Reading (sym e) h.0
  told_reads (Some (Drive count)) h f e = subst Reading (sym (e ∙ ap drive (drive_front count h.0 h.2 h.3))) h.1
  told_reads None h f e = absurd e

  record Told (told : Option Line) : Type 0 where
    pub frame : Frame
    pub says : Says told nodes' frame
    pub reads : Reading frame

  told_frame : (told : Option Line) → Tells Reading told nodes nodes' → (f : Frame) → Reading f → Told told
  told_frame (Some (Head n m k)) h f r = record { frame = head n.0 m.0 k.0; says = refl; reads = h.0 }
  told_frame (Some (Arc t o w)) h f r = record { frame = arc t o w; says = refl; reads = h.0 }
  told_frame (Some (Question a b)) h f r = record { frame = question a b; says = refl; reads = h.0 }
  told_frame (Some (Drive count)) h f r =
      record { frame = drive h.0; says = ap drive (sym (drive_front count h.0 h.2 h.3)); reads = h.1 }
  told_frame None h f r = absurd (h.0 f r)

  judged_steps :
      (ℓ : ℕ) (s : Stage) (told : Option Line) (x : Stage) (o : List Out) → Tells Reading told nodes nodes' → Runs s →
      Judged s told nodes' ℓ x o → Takes s bytes ℓ x o
  judged_steps ℓ s told x o h r (undue f) b =
      wrong r b
      (λ g q d. let t = told_frame told h g q in f t.frame t.says (subst (Due s) (read_one 64 bytes g t.frame q t.reads) d))
  judged_steps ℓ s told x o h r (due {f = g} q d e) b = taken b (told_reads told h g q) d e

  pub judged_step :
      length nodes ≡ 64 → (s : Stage) (told : Option Line) → Reads bytes told nodes nodes' → Runs s → (ℓ : ℕ) (x : Stage) (o : List Out) →
      Judged s told nodes' ℓ x o → Takes s bytes ℓ x o
  judged_step long s told h r ℓ x o =
      judged_steps ℓ s told x o (subst (λ (room : ℕ). Tells (ReadAs room bytes) told nodes nodes') long h.tells) r

-- the refusal of a line that is read as no frame
abbrev error_of : Result Line Refusal → Refusal
error_of (Ok line) = R.Line
error_of (Err r) = r

-- the line is taken in the phase p, of which s is the stage
module _
    (bytes nodes nodes' : List ℕ) (told : Option Line) (p : Phase) (A : Areas) (go : goes p ≡ true) (reads : Reads bytes told nodes nodes')
    (long : length nodes ≡ 64)
  where
    takes : (s : Stage) → stage_by p A ≡ s → (read : Option Line) → told ≡ read → (ℓ : ℕ) (x : Stage) (o : List Out) → Judged s read nodes' ℓ x o → Takes (stage_by p A) bytes ℓ x o
    takes s e read q ℓ x o j =
        judged_step bytes nodes nodes' long (stage_by p A) told reads (runs_by p A go) ℓ x o
        (coe 0 1 (i. Judged (sym e i) (sym q i) nodes' ℓ x o) j)

    pub takes_none : told ≡ None → (r : Refusal) → Err r ≡ ok_or told R.Line → (w : Writer) → Refuses (Takes (stage_by p A) bytes) r w w
    takes_none q r e w =
        subst (λ (x : Refusal). Refuses (Takes (stage_by p A) bytes) x w w) (sym (ap error_of (e ∙ ap (λ (t : Option Line). ok_or t R.Line) q)))
        (refuses_as (Judged (stage_by p A) None nodes') (Takes (stage_by p A) bytes) R.Line w w (takes (stage_by p A) refl None q)
        (none_due (stage_by p A) None nodes' w (λ f e d. e)))

    pub takes_leaves :
        {B : Type 0} (f : B → Stage) (s : Stage) → stage_by p A ≡ s → (read : Option Line) → told ≡ read → (res : Result B Refusal) (w w' : Writer) →
        Leaves (Judged s read nodes') f res w w' → Leaves (Takes (stage_by p A) bytes) f res w w'
    takes_leaves f s e read q res w w' l =
        leaves_as (Judged s read nodes') (Takes (stage_by p A) bytes) f f res w w' (takes s e read q) (λ b. refl) l
