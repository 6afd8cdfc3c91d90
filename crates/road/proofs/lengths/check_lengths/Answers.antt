use mathlib.Core.Logic.{◌≢◌}
use mathlib.Core.Path.{◌≡◌}
use Rattle.std.proofs.Common.{rules, tests}
use Rattle.std.proofs.lemmas.Bool.{MatchBool-at_false, MatchBool-at_true}
use Rattle.std.proofs.lemmas.Iterator.{cases_from_any, YieldsList-from_slice}
use native.Mathlib.Omega.{arith}
use Rattle.road.proofs.Faults.{unlike_at, none_unlike}
use Rattle.road.proofs.Refusals.{refuses, passes}
use Rattle.road.proofs.lengths.check_lengths.Goals as goal

pub returns-then-any : goal.returns-then-any
returns-then-any c =
    let apart = MatchBool-at_true _ _ c.if-any.true (cases_from_any _ _ c.any.result (λ p. p.0 ≢ p.1) (λ p. p.0 ≡ p.1) c.any.ensures.ran (YieldsList-from_slice c.args.lengths.now cc) (λ x q k. search (rules, tests)) (λ x q k. search (rules, tests))) in
    refuses (unlike_at _ apart.0 apart.1 (apart.2 (0, 0)))

pub returns : goal.returns
returns c =
    let alike = MatchBool-at_false _ _ c.if-any.false (cases_from_any _ _ c.any.result (λ p. p.0 ≢ p.1) (λ p. p.0 ≡ p.1) c.any.ensures.ran (YieldsList-from_slice c.args.lengths.now cc) (λ x q k. search (rules, tests)) (λ x q k. search (rules, tests))) in
    passes (none_unlike _ (λ i h. alike i (0, 0) (omega arith) h))
