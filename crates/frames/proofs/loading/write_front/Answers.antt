use lib.ListN.{length, take}
use lib.Seq.{length-take-le}
use mathlib.Core.Path.{◌≡◌, ap, ◌∙◌}
use Prim.Native.Nat.{suc, ◌+◌, ◌≤◌}
use native.Mathlib.Omega.{arith}
use Rattle.maps.specs.Lists.{belows}
use Rattle.frames.proofs.Fitting.{front_back}
use Rattle.frames.proofs.loading.write_front.Goals as goal

pub returns : goal.returns
returns c =
    let room : c.args.n.0 + 1 ≤ length c.args.starts.now = omega (arith, c.told-starts, c.requires.limits) in
    let few : length (take (c.args.n.0 + 1) c.args.starts.now) ≡ suc c.args.n.0 = omega (arith, length-take-le (c.args.n.0 + 1) c.args.starts.now room) in
    front_back _ c.args.starts.now _ _ room c.write_starts.auto.starts ∙ c.write_starts.ensures ∙ ap (belows c.args.tails.now 0) few
