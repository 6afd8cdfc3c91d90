use mathlib.Core.Path.{◌≡◌, sym, ◌∙◌}
use lib.Dec.{eqb}
use borrow.Author.Rules.{rules}
use Rattle.std.specs.List.{count_by}
use Rattle.cover.proofs.Counted.{times_counted}
use Rattle.cover.proofs.calls.count_ones.Goals as goal

pub returns : goal.returns
returns c = let e : c.count.result ≡ count_by (λ x. eqb x 1) c.args.s.now = search rules in e ∙ sym (times_counted 1 c.args.s.now)
