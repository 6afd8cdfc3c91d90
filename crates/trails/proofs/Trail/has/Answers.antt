use Rattle.std.proofs.Common.{rules, take}
use Rattle.std.proofs.Math.Dec.{eqb}
use Rattle.std.proofs.lemmas.Iterator.Adapters.{YieldsList-from_rev_slice}
use Rattle.std.proofs.lemmas.Iterator.Search.{any_from_yields_List}
use Rattle.trails.proofs.Trails.{found_from_back}
use Rattle.trails.proofs.Trail.has.Goals as goal

pub returns : goal.returns
returns c = found_from_back c.args.v _ (any_from_yields_List (λ x. eqb x c.args.v) _ _ c.any.result c.any.ensures.ran (YieldsList-from_rev_slice (take c.args.self.count.0 c.args.self.nodes) (search rules)) (λ x b q k. search rules))
