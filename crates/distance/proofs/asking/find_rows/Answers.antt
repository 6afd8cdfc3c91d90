use mathlib.Core.Path.{sym, ◌∙◌}
use Rattle.distance.proofs.Asked.{asks_back, rows_found}
use Rattle.distance.proofs.asking.find_rows.Goals as goal

pub search-requires-2 : goal.search-requires-2
search-requires-2 c = rw c.lent.ensures.starts (rw c.lent.ensures.heads (rw c.lent.ensures.weights
    (asks_back _ _ _ _ _ _ _ _ _ _ _ _ _ c.requires _ _ _ c.turn.ensures.turned (c.turn.ensures.still_roomy.ends_long ∙ sym c.requires.starts_long) _ _ c.search.ensures.unchanged.0 c.search.ensures.unchanged.1)))

pub returns-clause-rows_found : goal.returns-clause-rows_found
returns-clause-rows_found c = rows_found _ _ _ _ _ _ _ _ _ _ _ _ _ c.requires _ _ _ c.turn.ensures.turned (c.turn.ensures.still_roomy.ends_long ∙ sym c.requires.starts_long) _ _ c.search.ensures.row
    (rw c.lent.ensures.weights at (rw c.lent.ensures.heads at (rw c.lent.ensures.starts at c.search-2.ensures.row)))
