use native.Mathlib.Omega.{arith}
use mathlib.Core.Path.{refl}
use Rattle.maps.proofs.Founds.{cover_found, front_long, front_numbers}
use Rattle.maps.proofs.calls.find_cover.Goals as goal

pub returns : goal.returns
returns c =
    let few = c.requires.graph.nodes in
    let n = c.node_count-n.ensures in
    cover_found _ _ _ _ _ _ _ _ (front_numbers _ _ 512 _ (omega (arith, few, n)) n c.count_up.ensures) (
      c.requires.bytes,
      (
        front_long _ 513 _ (omega (arith, few, c.requires.graph.some, n)) (omega (arith, n)),
        (
          front_long _ 2048 _ c.requires.graph.arcs refl,
          (
            front_long _ 2048 _ c.requires.graph.arcs refl,
            (
              front_long _ 512 _ (omega (arith, few, n)) n,
              (
                front_long _ 512 _ (omega (arith, few, n)) n,
                (
                  front_long _ 512 _ (omega (arith, few, n)) n,
                  tt,
                ),
              ),
            ),
          ),
        ),
      ),
    )
    c.cover.ensures.outcome
