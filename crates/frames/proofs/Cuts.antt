-- A line may be cut after 261 characters: the step is the same.
use mathlib.Core.List.{List}
use Prim.Native.Nat.{ℕ}
use lib.ListN.{take}
use Rattle.hexlines.specs.Outputs.{Out}
use Rattle.readings.proofs.Cuts.{cut_read, read_cut}
use Rattle.frames.specs.Steps.{Stage, Step, line, beyond, wrong, taken, drive_room}

pub cut_step : (ℓ : ℕ) (bytes : List ℕ) {s s' : Stage} {outs : List Out} → Step ℓ s (line (take 261 bytes)) s' outs → Step ℓ s (line bytes) s' outs
cut_step ℓ bytes (beyond r h) = beyond r h
cut_step ℓ bytes (wrong r h f) = wrong r h (λ g q d. f g (read_cut drive_room bytes g q) d)
cut_step ℓ bytes (taken {f = f} h q d e) = taken h (cut_read drive_room bytes f q) d e
