use mathlib.Core.Path.{refl}
use native.Mathlib.Omega.{arith}
use lib.ListN.{drop}
use Rattle.readings.proofs.Shapes.{drive_none, nodes_more}
use Rattle.readings.proofs.Texts.{after_first, pair_at}
use Rattle.readings.proofs.bytes.read_drive.Goals as goal

pub returns-in_default-as_chunks : goal.returns-in_default-as_chunks
returns-in_default-as_chunks c =
    record { tells = (drive_none _ c.args.rest.now (λ l d. omega (arith, c.as_chunks.ensures.back_len)), refl) }

pub returns-then-pairs-count : goal.returns-then-pairs-count
returns-then-pairs-count c =
    record { tells = (drive_none _ c.args.rest.now (λ l d. omega (arith, c.as_chunks.ensures.front_len)), refl) }

pub loop-i-preserved : goal.loop-i-preserved
loop-i-preserved c =
    let rest = c.args.rest.now in
    nodes_more (drop 1 rest) _ _ _ c.loop-i.invariant _ _
    (pair_at _ _ _ _ _ (after_first rest) c.as_chunks.ensures.front c.as_chunks.ensures.front_len c.loop-i-test.true) (omega arith) c.two.ensures
