use mathlib.Core.List.{List}
use mathlib.Core.Path.{ap}
use Prim.Native.Nat.{ℕ}
use native.Mathlib.Omega.{arith}
use lib.ListN.{get_or}
use Rattle.hexlines.proofs.Growing.{kept_fits, kept_room, ones_room, ones_more, writes_kept}
use Rattle.hexlines.proofs.Writer.kept.Goals as goal

pub byte-requires : goal.byte-requires
byte-requires c =
    let ns = c.args.positions.now in
    ones_room _ ns (kept_fits _ ns c.requires _ _ c.bytes.ensures) _ _ c.loop-p-test.true c.loop-p.invariant

pub loop-p-preserved : goal.loop-p-preserved
loop-p-preserved c =
    let ns = c.args.positions.now in
    ones_more _ ns (kept_fits _ ns c.requires _ _ c.bytes.ensures) _ _ c.loop-p-test.true c.loop-p.invariant _ _
    (ap (λ (l : List ℕ). get_or l 3 0) c.to_be_bytes-in-loop-p.ensures) c.byte.ensures

pub feed-requires : goal.feed-requires
feed-requires c =
    kept_room _ c.args.positions.now c.requires _ _ c.bytes.ensures _ (omega arith) _ c.loop-p.invariant

pub returns : goal.returns
returns c =
    writes_kept _ c.args.positions.now c.requires _ _ c.bytes.ensures _ (omega arith) _ c.loop-p.invariant _
    (ap (λ (l : List ℕ). get_or l 7 0) c.to_be_bytes.ensures) c.feed.ensures
