use Rattle.hexlines.proofs.Growing.{writes_end, writes_then}
use Rattle.hexlines.proofs.Writer.line.Goals as goal

pub feed-requires : goal.feed-requires
feed-requires c = writes_end _ c.args.bytes.now _ c.requires c.bytes.ensures

pub returns : goal.returns
returns c = writes_then _ _ _ _ _ c.bytes.ensures c.feed.ensures
