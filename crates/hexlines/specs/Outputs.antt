-- The lines that the program prints.
use Rattle.std.specs.Prelude.{List, [], ◌∷◌, ◌++◌, ℕ, ◌/◌, ◌%◌, length}
use Rattle.hexlines.specs.Text.{line_text}

-- a number in one, two, four or eight bytes, high byte first
abbrev pub one : ℕ → List ℕ
one x = x % 256 ∷ []

abbrev pub two : ℕ → List ℕ
two x = x / 256 % 256 ∷ x % 256 ∷ []

abbrev pub four : ℕ → List ℕ
four x = x / 16777216 % 256 ∷ x / 65536 % 256 ∷ x / 256 % 256 ∷ x % 256 ∷ []

abbrev pub eight : ℕ → List ℕ
eight x =
    x / 72057594037927936 % 256 ∷ x / 281474976710656 % 256 ∷ x / 1099511627776 % 256 ∷ x / 4294967296 % 256 ∷
    x / 16777216 % 256 ∷ x / 65536 % 256 ∷ x / 256 % 256 ∷ x % 256 ∷ []

-- each number of a list in one byte
abbrev pub ones : List ℕ → List ℕ
ones [] = []
ones (x ∷ l) = x % 256 ∷ ones l

-- what a line says
pub data Out : Type 0 where
  counts : (nodes arcs : ℕ) → Out
  point : (node : ℕ) → Out
  arc : (tail head weight : ℕ) → Out
  way : (from to distance : ℕ) → Out
  no_way : (from to : ℕ) → Out
  kept : (positions : List ℕ) → Out
  refused : (number line : ℕ) → Out

-- its bytes: `90` cover count(2) overlay arcs(2); `91` node(2); `92` tail(2) head(2) weight(4); `A0` from(2) to(2), then `01` and an 8-byte
-- distance, or `00` for no way; `B0` count(1) and positions(1 each); `FF` number(1) line(2)
abbrev pub out_bytes : Out → List ℕ
out_bytes (counts n m) = 144 ∷ two n ++ two m
out_bytes (point v) = 145 ∷ two v
out_bytes (arc t h w) = 146 ∷ two t ++ two h ++ four w
out_bytes (way a b d) = 160 ∷ two a ++ two b ++ (1 ∷ eight d)
out_bytes (no_way a b) = 160 ∷ two a ++ two b ++ (0 ∷ [])
out_bytes (kept ps) = 176 ∷ one (length ps) ++ ones ps
out_bytes (refused r l) = 255 ∷ r ∷ two l

-- a line, and several lines
abbrev pub out_text : Out → List ℕ
out_text o = line_text (out_bytes o)

abbrev pub text_of : List Out → List ℕ
text_of [] = []
text_of (o ∷ os) = out_text o ++ text_of os
