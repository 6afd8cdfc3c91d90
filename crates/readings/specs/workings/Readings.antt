-- Reading on its way: from a digit to its number, from the text to its bytes, from the bytes to the frame.
use Rattle.std.specs.Prelude.{◌≡◌, Option, Some, None, List, [], ◌∷◌, ℕ, ◌^◌, ◌*◌, ◌/◌, ◌%◌, ◌≤◌, ◌<◌, length, take, drop}
use denote.Ref.{Bor}
use Rattle.paths.specs.Lists.{Each}
use Rattle.hexlines.specs.Outputs.{two}
use Rattle.hexlines.specs.Text.{digit, hex_text}
use Rattle.readings.specs.declared.Line.{Line}
use Rattle.readings.specs.Frames.{Tells, twos, Frame, bytes_of, Fits, Taken}

-- the number of a digit, or none where the character is no digit
abbrev pub Valued : ℕ → Option ℕ → Type 0
Valued char (Some number) = (number < 16) × (char ≡ digit number)
Valued char None = (d : ℕ) → d < 16 → char ≡ digit d → ⊥

-- the two characters are the digits of byte b
pub record DigitsOf (high low b : ℕ) : Type 0 where
  pub byte : b < 256
  pub first : high ≡ digit (b / 16)
  pub second : low ≡ digit (b % 16)

abbrev pub ReadsPair : ℕ → ℕ → Option ℕ → Type 0
ReadsPair high low (Some b) = DigitsOf high low b
ReadsPair high low None = (b : ℕ) → DigitsOf high low b → ⊥

-- the line is the text of these bytes
pub record TextOf (line bytes : List ℕ) : Type 0 where
  pub text : line ≡ hex_text bytes
  pub small : Each (λ (b : ℕ). b < 256) bytes

-- the most bytes that a frame of the program has: 64 nodes of two bytes, their count and the frame's kind
abbrev pub most_bytes : ℕ
most_bytes = 130

abbrev pub TextTold : List ℕ → Option (Bor (List ℕ)) → Type 0
TextTold line (Some bytes) = TextOf line bytes.now × (length bytes.now ≤ most_bytes)
TextTold line None = (bytes : List ℕ) → length bytes ≤ most_bytes → TextOf line bytes → ⊥

pub record ReadsText (line : List ℕ) (told : Option (Bor (List ℕ))) : Type 0 where
  pub tells : TextTold line told

-- the loop over the pairs, once those before i are read into the room
pub record Reading (line room : List ℕ) (i : ℕ) : Type 0 where
  pub long : length room ≡ most_bytes
  pub within : 2 * i ≤ length line
  pub text : take (2 * i) line ≡ hex_text (take i room)
  pub small : Each (λ (b : ℕ). b < 256) (take i room)

-- the number in two bytes, high byte first
pub record TwoOf (high low number : ℕ) : Type 0 where
  pub small : number < 2 ^ 16
  pub bytes : high ∷ low ∷ [] ≡ two number

-- the bytes are those of the frame
pub record BytesAs (room : ℕ) (bytes : List ℕ) (f : Frame) : Type 0 where
  pub same : bytes ≡ bytes_of f
  pub fits : Fits f
  pub taken : Taken room f

-- the line that is told for these bytes; the slice for nodes is left as it was
pub record TellsFixed (bytes : List ℕ) (told : Option Line) : Type 0 where
  pub tells : (nodes : List ℕ) → Tells (BytesAs (length nodes) bytes) told nodes nodes

-- the line that is told for these bytes, and the slice for nodes
pub record TellsFrame (bytes : List ℕ) (told : Option Line) (nodes nodes' : List ℕ) : Type 0 where
  pub tells : Tells (BytesAs (length nodes) bytes) told nodes nodes'

-- a drive's nodes, once those of the first i pairs of bytes are in the slice
pub record NodesRead (bytes nodes : List ℕ) (i : ℕ) (nodes' : List ℕ) : Type 0 where
  pub long : length nodes' ≡ length nodes
  pub front : take (2 * i) bytes ≡ twos (take i nodes')
  pub small : Each (λ (v : ℕ). v < 2 ^ 16) (take i nodes')
  pub rest : drop i nodes' ≡ drop i nodes
