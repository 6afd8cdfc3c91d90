use mathlib.Core.Path.{sym}
use Rattle.distance.proofs.Telling.{told_at}
use Rattle.distance.proofs.Searches.{row_any}
use Rattle.distance.proofs.asking.ask_overlay.Goals as goal

pub returns-clause-told : goal.returns-clause-told
returns-clause-told c = told_at _ _ (row_any _ _ _ _ _ _ _ c.search.ensures.leaves.searchable _ _ (rw c.search.ensures.leaves.blocked c.search.ensures.row) _ c.requires.to) (sym c.shown-found.ensures)
