-- What the program keeps within its arrays.
use Rattle.std.specs.Prelude.{◌≡◌, ◌≤◌, length}
use Rattle.hexlines.specs.declared.Writer.{Writer}
use Rattle.gulvane_frames.specs.declared.Chunk.{Chunk}
use Rattle.gulvane_frames.specs.declared.Kept.{Kept}

-- the used part of the chunk, and the filled part
pub record Filled (c : Chunk) : Type 0 where
  pub within : c.used ≤ c.filled
  pub chunk : c.filled ≤ 65536

-- the kept part of the line
pub record Fits (l : Kept) : Type 0 where
  pub line : l.len ≤ 261

-- what waits leaves room for the lines of a map
pub record Roomy (w : Writer) : Type 0 where
  pub long : length w.buf.now ≡ 131072
  pub waits : w.at ≤ 49152

-- nothing is written over: the same slice, with the same bytes
pub record Unwritten (w w' : Writer) : Type 0 where
  pub same : w'.buf.ghost_name ≡ w.buf.ghost_name
  pub bytes : w'.buf.now ≡ w.buf.now
