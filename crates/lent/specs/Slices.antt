-- A slice that is lent, as a contract sees it: what it holds when the call begins, and when it ends. A slice of bytes, of `u32` and of
-- `u64` is a list of numbers.
use Rattle.std.specs.Prelude.{List, ℕ}
use Rattle.std.specs.Borrow.{MutBor}
use denote.Triple.Both.{Both}

abbrev pub Slice : Type 0
Slice = Both (MutBor (List ℕ)) (MutBor (List ℕ))

abbrev pub before : Slice → List ℕ
before s = s.entry.now

abbrev pub after : Slice → List ℕ
after s = s.exit.now
