use native.Mathlib.Omega.{arith}
use Rattle.overlay.proofs.Locals.{room_left}
use Rattle.overlay.proofs.Written.{wrote_none, wrote_more}
use borrow.Author.Rules.{rules}
use Rattle.overlay.proofs.Row.write.Goals as goal

pub loop-v-init : goal.loop-v-init
loop-v-init c = wrote_none _ _ _ _ _

pub write_arc-count-requires : goal.write_arc-count-requires
write_arc-count-requires c =
    record {
      node = search rules;
      few = c.requires.set_len_bound;
      labelled = c.args.self.now.labelled;
      fits = c.requires.fits;
      free = λ f. omega (arith, room_left _ _ _ _ _ _ c.requires.row_room c.loop-v-test.true c.loop-v.invariant.number f, c.loop-v.invariant.heads_long);
      alike = omega (arith, c.loop-v.invariant.heads_long, c.loop-v.invariant.weights_long, c.requires.weights_len);
    }

pub loop-v-preserved : goal.loop-v-preserved
loop-v-preserved c =
    wrote_more _ _ _ _ _ _ _ _ _ c.loop-v.invariant _ _ _ c.write_arc-count.ensures
    (λ f. omega (arith, room_left _ _ _ _ _ _ c.requires.row_room c.loop-v-test.true c.loop-v.invariant.number f, c.loop-v.invariant.heads_long))
    (omega (arith, c.loop-v.invariant.heads_long, c.loop-v.invariant.weights_long, c.requires.weights_len))
