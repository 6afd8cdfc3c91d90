-- A line is read from its first 261 characters: a longer one is the text of no frame that the program takes, and neither is what is left
-- of it.
use mathlib.Core.Path.{◌≡◌, sym, subst}
use mathlib.Core.List.{List}
use Prim.Native.Nat.{ℕ, ◌<◌}
use native.Mathlib.Decide.{dec_lt}
use native.Mathlib.Omega.{arith}
use lib.ListN.{length, take}
use lib.Seq.{length-take-le, take_all}
use Rattle.readings.specs.Frames.{Frame, ReadAs}
use Rattle.readings.proofs.Shapes.{no_text}
use Rattle.readings.proofs.Texts.{too_long}

pub long_line : (room : ℕ) (line : List ℕ) → 260 < length line → (f : Frame) → ReadAs room line f → ⊥
long_line room line h = no_text room line (too_long line h)

module _ (room : ℕ) (line : List ℕ) (f : Frame) where
  cut_by : Dec (260 < length line) → (ReadAs room (take 261 line) f → ReadAs room line f) × (ReadAs room line f → ReadAs room (take 261 line) f)
  cut_by (yes h) = (
    λ r. absurd (long_line room (take 261 line) (let z = length-take-le 261 line (omega arith) in omega arith) f r),
    λ r. absurd (long_line room line h f r),
  )
  cut_by (no h) =
      let e : take 261 line ≡ line = take_all 261 line (omega arith) in
      (subst (λ (l : List ℕ). ReadAs room l f) e, subst (λ (l : List ℕ). ReadAs room l f) (sym e))

  pub cut_read : ReadAs room (take 261 line) f → ReadAs room line f
  cut_read = (cut_by (dec_lt 260 (length line))).0

  pub read_cut : ReadAs room line f → ReadAs room (take 261 line) f
  read_cut = (cut_by (dec_lt 260 (length line))).1
