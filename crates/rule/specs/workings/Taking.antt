-- One node taken, of the order.
use Rattle.std.specs.Prelude.{◌≡◌, List, ℕ, set}
use Rattle.rule.specs.Rule.{Needed}

-- v was taken: it is kept because it is needed, or dropped because it is not
pub data Took (Counts : List ℕ → Type 0) (v : ℕ) (before after : List ℕ) : Type 0 where
  kept : Needed Counts before v → after ≡ before → Took Counts v before after
  dropped : (Needed Counts before v → ⊥) → after ≡ set before v 0 → Took Counts v before after
