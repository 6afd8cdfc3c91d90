use Rattle.readings.proofs.Texts.{odd, pair_at, reading_more, reading_stop, too_long}
use mathlib.Core.Path.{refl}
use native.Mathlib.Omega.{arith}
use Rattle.readings.proofs.characters.read_text.Goals as goal

pub returns-in_default : goal.returns-in_default
returns-in_default c = record { tells = odd c.args.line.now (omega (arith, c.as_chunks.ensures.back_len)) }

pub returns-then-pairs-gt130 : goal.returns-then-pairs-gt130
returns-then-pairs-gt130 c = record { tells = too_long c.args.line.now (omega (arith, c.as_chunks.ensures.front_len)) }

pub returns-in_err-room : goal.returns-in_err-room
returns-in_err-room c =
    rw c.from_residual.ensures
    (record {
      tells = reading_stop c.args.line.now _ _ c.loop-i.invariant _
          (pair_at _ c.args.line.now _ _ _ refl c.as_chunks.ensures.front c.as_chunks.ensures.front_len c.loop-i-test.true) c.in_err-room.ensures;
    })

pub loop-i-preserved : goal.loop-i-preserved
loop-i-preserved c =
    reading_more c.args.line.now _ _ c.loop-i.invariant _
    (pair_at _ c.args.line.now _ _ _ refl c.as_chunks.ensures.front c.as_chunks.ensures.front_len c.loop-i-test.true) _ (omega arith) c.in_ok-room.ensures
