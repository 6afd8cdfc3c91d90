use Rattle.frames.proofs.Ending.{unended_cut}
use Rattle.frames.proofs.steps.take_unended.Goals as goal

pub returns : goal.returns
returns c = unended_cut c.args.s _ _ _ c.requires.goes.going _ c.min.ensures c.stop.ensures
