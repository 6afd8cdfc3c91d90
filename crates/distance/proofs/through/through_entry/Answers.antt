use native.Mathlib.Omega.{arith}
use mathlib.Core.Path.{refl}
use Rattle.distance.proofs.Searches.{row_small, row_any}
use Rattle.distance.proofs.Telling.{through_none, through_exits_lem, gate_modest}
use Rattle.distance.proofs.through.through_entry.Goals as goal

pub returns-in_err-first-clause-told : goal.returns-in_err-first-clause-told
returns-in_err-first-clause-told c = rw c.from_residual.ensures (through_none _ _ _ _ _ _ _ _ (rw c.in_err-first.was at c.gate.ensures) refl)

pub through_exits-requires-clause-small : goal.through_exits-requires-clause-small
through_exits-requires-clause-small c = row_small _ _ _ _ _ _ c.requires.searchable.sound c.search.ensures.row

pub through_exits-requires-clause-modest : goal.through_exits-requires-clause-modest
through_exits-requires-clause-modest c = gate_modest _ _ _ _ _ (rw c.in_ok-first.was at c.gate.ensures) c.requires.rows.outward_small

pub returns-clause-told : goal.returns-clause-told
returns-clause-told c = through_exits_lem _ _ _ _ _ _ _ _ _ (rw c.in_ok-first.was at c.gate.ensures) (λ x h. row_any _ _ _ _ _ _ _ c.requires.searchable _ _ c.search.ensures.row x (omega (arith, h, c.requires.rows.bytes))) _ c.through_exits.ensures
