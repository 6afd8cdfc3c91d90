-- The lines that the program reads.
use Rattle.std.specs.Prelude.{◌≡◌, Option, Some, None, List, [], ◌∷◌, ◌++◌, ℕ, ◌≤◌, ◌<◌, ◌^◌, length, drop}
use Rattle.paths.specs.Lists.{Each}
use Rattle.hexlines.specs.Outputs.{one, two, four}
use Rattle.hexlines.specs.Text.{hex_text}
use Rattle.readings.specs.declared.Line.{Line}
use Rattle.readings.specs.declared.Line.TheVariants.{Head, Arc, Question, Drive}

-- what a line says: n, m and k; an arc's tail, head and weight; a question's two nodes; a drive's nodes
pub data Frame : Type 0 where
  head : (n m k : ℕ) → Frame
  arc : (tail to weight : ℕ) → Frame
  question : (from to : ℕ) → Frame
  drive : (nodes : List ℕ) → Frame

-- each number of a list in two bytes
abbrev pub twos : List ℕ → List ℕ
twos [] = []
twos (x ∷ l) = two x ++ twos l

-- its bytes: `10` n(2) m(2) k(1); `11` tail(2) head(2) weight(4); `20` from(2) to(2); `30` count(1) nodes(2 each)
abbrev pub bytes_of : Frame → List ℕ
bytes_of (head n m k) = 16 ∷ two n ++ two m ++ one k
bytes_of (arc t h w) = 17 ∷ two t ++ two h ++ four w
bytes_of (question a b) = 32 ∷ two a ++ two b
bytes_of (drive l) = 48 ∷ one (length l) ++ twos l

-- its numbers fit their bytes
abbrev pub Fits : Frame → Type 0
Fits (head n m k) = (n < 2 ^ 16) × (m < 2 ^ 16) × (k < 2 ^ 8)
Fits (arc t h w) = (t < 2 ^ 16) × (h < 2 ^ 16) × (w < 2 ^ 32)
Fits (question a b) = (a < 2 ^ 16) × (b < 2 ^ 16)
Fits (drive l) = (length l < 2 ^ 8) × Each (λ (v : ℕ). v < 2 ^ 16) l

-- none of them is over a limit of the program, and there is room for a drive's nodes
abbrev pub Taken : ℕ → Frame → Type 0
Taken room (head n m k) = (n ≤ 512) × (m ≤ 2048)
Taken room (arc t h w) = Unit {0}
Taken room (question a b) = Unit {0}
Taken room (drive l) = (length l ≤ 64) × (length l ≤ room)

-- the line, without its line feed, is the text of the frame
pub record ReadAs (room : ℕ) (line : List ℕ) (f : Frame) : Type 0 where
  pub text : line ≡ hex_text (bytes_of f)
  pub fits : Fits f
  pub taken : Taken room f

-- what the code tells of the frames of which P holds, and what it leaves in the slice for a drive's nodes: the frame of which P holds,
-- a drive's nodes standing at the front of the slice; or that P holds of none
abbrev pub Tells : (Frame → Type 0) → Option Line → List ℕ → List ℕ → Type 0
Tells P (Some (Head n m k)) nodes nodes' = P (head n.0 m.0 k.0) × (nodes' ≡ nodes)
Tells P (Some (Arc t h w)) nodes nodes' = P (arc t h w) × (nodes' ≡ nodes)
Tells P (Some (Question a b)) nodes nodes' = P (question a b) × (nodes' ≡ nodes)
Tells P (Some (Drive count)) nodes nodes' = (l : List ℕ) × (P (drive l)) × (count ≡ length l) × (nodes' ≡ l ++ drop (length l) nodes)
Tells P None nodes nodes' = ((f : Frame) → P f → ⊥) × (nodes' ≡ nodes)

-- what is read of a line, a slice being lent for a drive's nodes
pub record Reads (line : List ℕ) (told : Option Line) (nodes nodes' : List ℕ) : Type 0 where
  pub tells : Tells (ReadAs (length nodes) line) told nodes nodes'
