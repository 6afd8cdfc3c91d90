use Rattle.hexlines.proofs.Growing.{writes_room, writes_more}
use Rattle.hexlines.proofs.Writer.bytes.Goals as goal

pub byte-requires : goal.byte-requires
byte-requires c = writes_room _ c.args.bytes.now _ _ c.requires c.loop-b-test.true c.loop-b.invariant

pub loop-b-preserved : goal.loop-b-preserved
loop-b-preserved c = writes_more _ c.args.bytes.now _ _ _ c.requires c.loop-b-test.true c.loop-b.invariant c.byte.ensures
