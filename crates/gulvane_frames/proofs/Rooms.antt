-- The room that a call leaves.
use mathlib.Core.Path.{◌≡◌, ◌∙◌}
use mathlib.Core.List.{List, []}
use Prim.Native.Nat.{ℕ, ◌≤◌}
use native.Mathlib.Omega.{arith}
use lib.ListN.{length}
use Rattle.hexlines.proofs.Growing.{writes_long}
use Rattle.hexlines.specs.Outputs.{Out, text_of}
use Rattle.hexlines.specs.declared.Writer.{Writer}
use Rattle.frames.specs.declared.Areas.{Areas}
use Rattle.frames.specs.declared.State.{State}
use Rattle.frames.specs.Stages.{Left}
use Rattle.frames.specs.Steps.{Stage}

-- some areas
pub none : Areas
none =
    record { tails = []; heads = []; weights = []; starts = []; set = []; over_starts = []; over_heads = []; over_weights = [] }

pub left_room :
    (P : Stage → List Out → Type 0) (ℓ : ℕ) (s : State) (A : Areas) (w w' : Writer) → length w.buf.now ≡ 131072 → Left P ℓ s A w w' →
    (w'.at ≤ length w'.buf.now) × (length w'.buf.now ≡ 131072)
left_room P ℓ s A w w' e l =
    let p = l.printed in
    let long = writes_long w (text_of p.outs) w' p.wrote in
    (omega (arith, long, p.wrote.wrote.room), long ∙ e)
