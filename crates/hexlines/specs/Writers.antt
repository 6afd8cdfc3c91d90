-- What a writer is once a byte is written, and what it and its slice are once a text is written.
use Rattle.std.specs.Prelude.{◌≡◌, List, ℕ, ◌+◌, ◌/◌, ◌%◌, ◌≤◌, length, set}
use Rattle.std.proofs.lemmas.List.Edits.{sets}
use denote.Ref.{at_last}
use Rattle.hexlines.specs.declared.Writer.{Writer}
use Rattle.hexlines.specs.Text.{digit}

-- the same borrow, with b's two digits at the writer's place, and the place after them
abbrev pub grown : Writer → ℕ → Writer
grown w b =
    record {
      buf = at_last w.buf (set (set w.buf.now w.at (digit (b / 16))) (w.at + 1) (digit (b % 16)));
      at = w.at + 2;
    }

-- the text ts is written over the list l from place i on: the list is then m, and the next place is j. `sets l i ts` is l with the
-- entries of ts one after the other from place i on.
pub record Wrote (l : List ℕ) (i : ℕ) (ts m : List ℕ) (j : ℕ) : Type 0 where
  pub next : j ≡ i + length ts
  pub room : j ≤ length l
  pub text : m ≡ sets l i ts

-- the writer w writes the text ts at its place, and is w' then, over the same slice
pub record Writes (w : Writer) (ts : List ℕ) (w' : Writer) : Type 0 where
  pub wrote : Wrote w.buf.now w.at ts w'.buf.now w'.at
  pub same : w'.buf.ghost_name ≡ w.buf.ghost_name
