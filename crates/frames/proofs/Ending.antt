-- The state after each call.
use mathlib.Core.Path.{◌≡◌, sym, ap, subst, ◌∙◌}
use mathlib.Core.Bool.{true, true≢false}
use mathlib.Core.Logic.{◌⊎◌, inl, inr}
use mathlib.Core.List.{List, []}
use lib.ListN.{length}
use Prim.Native.Nat.{ℕ, min, ◌+◌, ◌≤◌, ◌<◌}
use native.Mathlib.Decide.{dec_lt}
use native.Mathlib.Omega.{arith}
use Rattle.road.specs.declared.Refusal.{Refusal}
use Rattle.road.specs.declared.Refusal.TheVariants as R
use Rattle.hexlines.proofs.Growing.{writes_none}
use Rattle.hexlines.specs.Outputs.{Out}
use Rattle.hexlines.specs.declared.Writer.{Writer}
use Rattle.frames.specs.declared.Areas.{Areas}
use Rattle.frames.specs.declared.Phase.{Phase}
use Rattle.frames.specs.declared.Phase.TheVariants.{Begun, Loading, Asking, Stopped}
use Rattle.frames.specs.declared.Load.{Load}
use Rattle.frames.specs.declared.Sizes.{Sizes}
use Rattle.frames.specs.declared.State.{State}
use Rattle.frames.specs.Stages.{Left, TookEnd, TookLine, TookUnended, goes, stage, stage_by}
use Rattle.frames.specs.Steps.{Stage, Step, line, unended, end, stopped, beyond, beyond_unended, cut_off, missing_head, missing_arc, good_end, most_lines, refused_by}
use Rattle.frames.specs.workings.Held.{Refuses}
use Rattle.frames.specs.workings.Judging.{Halted, Takes}
use Rattle.frames.proofs.Taking.{runs_by}

-- a state that has stopped
still : (s : State) → s.phase ≡ Stopped → goes s.phase ≡ true → ⊥
still s h e = true≢false (sym e ∙ ap goes h)

halted_left :
    (P : Stage → List Out → Type 0) (ℓ : ℕ) (r : Refusal) (ℓ' : ℕ) (s : State) (A : Areas) (w w' : Writer) → P stopped (refused_by r ℓ') → Halted r ℓ' s w w' →
    Left P ℓ s A w w'
halted_left P ℓ r ℓ' s A w w' p h =
    record {
      printed =
          record {
            outs = refused_by r ℓ';
            does = subst (λ (q : Phase). P (stage_by q A) (refused_by r ℓ')) (sym h.halts) p;
            wrote = h.wrote;
          };
      good = h.good;
      lines = λ e. absurd (still s h.halts e);
    }

module _ (s s' : State) (w w' : Writer) (go : goes s.phase ≡ true) where
  -- a line beyond the most
  pub line_beyond : (A A' : Areas) (bytes : List ℕ) → most_lines < s.lines + 1 → Halted R.Line 65535 s' w w' → TookLine s A bytes s' A' w w'
  line_beyond A A' bytes b h =
      halted_left (Step (s.lines + 1) (stage s A) (line bytes)) (s.lines + 1) R.Line 65535 s' A' w w' (beyond (runs_by s.phase A go) b) h

  -- bytes that no line feed ends: the number is that of the line, or the most
  pub unended_cut : (n : ℕ) → n ≡ min (s.lines + 1) 65535 → Halted R.Line n s' w w' → TookUnended s s' w w'
  unended_cut n e h = record { step = λ A bytes. by A bytes (dec_lt 65535 (s.lines + 1)) }
    where
      by : (A : Areas) (bytes : List ℕ) → Dec (65535 < s.lines + 1) → Left (Step (s.lines + 1) (stage s A) (unended bytes)) (s.lines + 1) s' A w w'
      by A bytes (yes b) =
          let q : n ≡ 65535 = omega (arith, e) in
          halted_left (Step (s.lines + 1) (stage s A) (unended bytes)) (s.lines + 1) R.Line 65535 s' A w w' (beyond_unended (runs_by s.phase A go) b)
          (subst (λ (m : ℕ). Halted R.Line m s' w w') q h)
      by A bytes (no b) =
          let q : n ≡ s.lines + 1 = omega (arith, e) in
          halted_left (Step (s.lines + 1) (stage s A) (unended bytes)) (s.lines + 1) R.Line (s.lines + 1) s' A w w'
          (cut_off (runs_by s.phase A go) (omega arith)) (subst (λ (m : ℕ). Halted R.Line m s' w w') q h)

-- a line is refused, with nothing printed before
pub line_refused :
    (s s' : State) (A A' : Areas) (bytes : List ℕ) (r : Refusal) (w w₁ w' : Writer) → s.lines + 1 ≤ most_lines → Refuses (Takes (stage s A) bytes) r w w₁ →
    Halted r (s.lines + 1) s' w₁ w' → TookLine s A bytes s' A' w w'
line_refused s s' A A' bytes r w w₁ w' few l h =
    halted_left (Step (s.lines + 1) (stage s A) (line bytes)) (s.lines + 1) r (s.lines + 1) s' A' w w' (l.does (s.lines + 1) few)
    (subst (λ (x : Writer). Halted r (s.lines + 1) s' x w') l.same h)

-- the end of the input
module _ (s s' : State) (w w' : Writer) where
  end_missing :
      ((A : Areas) → Step (s.lines + 1) (stage s A) end stopped (refused_by R.Line (s.lines + 1))) → Halted R.Line (s.lines + 1) s' w w' → TookEnd s s' w w'
  end_missing f h =
      record { step = λ A. halted_left (Step (s.lines + 1) (stage s A) end) (s.lines + 1) R.Line (s.lines + 1) s' A w w' (f A) h }

  -- while lines are missing
  pub end_early :
      (s.phase ≡ Begun) ⊎ ((load : Load) × (s.phase ≡ Loading load)) → Halted R.Line (s.lines + 1) s' w w' → TookEnd s s' w w'
  end_early (inl e) h =
      end_missing (λ A. subst (λ (p : Phase). Step (s.lines + 1) (stage_by p A) end stopped (refused_by R.Line (s.lines + 1))) (sym e) missing_head) h
  end_early (inr (load, e)) h =
      end_missing (λ A. subst (λ (p : Phase). Step (s.lines + 1) (stage_by p A) end stopped (refused_by R.Line (s.lines + 1))) (sym e) missing_arc) h

-- after the arcs
pub end_good :
    (s : State) (w : Writer) → goes s.phase ≡ true → s.lines ≤ 65535 → ((map : Sizes) × (s.phase ≡ Asking map)) ⊎ (s.phase ≡ Stopped) → w.at ≤ length w.buf.now →
    TookEnd s (record { phase = Stopped; lines = s.lines }) w w
end_good s w go few (inr e) r = absurd (still s e go)
end_good s w go few (inl (map, e)) r =
    record {
      step =
          λ A.
          record {
            printed =
                record {
                  outs = [];
                  does = subst (λ (p : Phase). Step (s.lines + 1) (stage_by p A) end stopped []) (sym e) good_end;
                  wrote = writes_none w r;
                };
            good = record { lines = few; within = tt; counted = tt };
            lines = λ z. absurd (true≢false (sym z));
          };
    }
