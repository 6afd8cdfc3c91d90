use native.Mathlib.Omega.{arith}
use Rattle.distance.proofs.Asked.{pair_answer}
use Rattle.distance.proofs.asking.ask_pair.Goals as goal

pub returns-clause-told : goal.returns-clause-told
returns-clause-told c = pair_answer _ _ _ _ _ _ _ _ _ _ c.requires _ _ c.find_rows.ensures.rows_found _ _ _ (omega (arith, c.shown-direct.ensures)) c.through_overlay-through.ensures.told c.lesser.ensures
