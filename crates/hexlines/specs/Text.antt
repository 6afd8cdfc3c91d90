-- Bytes as upper-case hexadecimal text.
use Rattle.std.specs.Prelude.{Bool, true, false, List, [], ◌∷◌, ◌++◌, ℕ, ◌+◌, ◌/◌, ◌%◌, ltb}

abbrev pub pick : Bool → ℕ → ℕ → ℕ
pick true x y = x
pick false x y = y

-- the character of a number below 16: `0` to `9`, then `A` to `F`
abbrev pub digit : ℕ → ℕ
digit d = pick (ltb d 10) (d + 48) (d + 55)

-- two digits a byte, the high one first
abbrev pub hex_text : List ℕ → List ℕ
hex_text [] = []
hex_text (b ∷ bs) = digit (b / 16) ∷ digit (b % 16) ∷ hex_text bs

-- a line: its bytes' digits, and the line feed
abbrev pub line_text : List ℕ → List ℕ
line_text bs = hex_text bs ++ (10 ∷ [])
