use native.Mathlib.Omega.{arith}
use mathlib.Core.Path.{refl}
use Rattle.maps.proofs.Founds.{pair_found, front_long}
use Rattle.maps.proofs.calls.find_distance.Goals as goal

pub returns : goal.returns
returns c =
    let few = c.requires.nodes in
    let n = c.node_count-n.ensures in
    pair_found _ _ _ _ _ _ _ _ _ _ _ _ (
      front_long _ 513 _ (omega (arith, few, c.requires.some, n)) (omega (arith, n)),
      (
        front_long _ 2048 _ c.requires.arcs refl,
        (
          front_long _ 2048 _ c.requires.arcs refl,
          (
            front_long _ 512 _ (omega (arith, few, n)) n,
            (
              front_long _ 512 _ (omega (arith, few, n)) n,
              (
                front_long _ 512 _ (omega (arith, few, n)) n,
                (
                  front_long _ 1024 _ (omega (arith, few, n)) (omega (arith, n)),
                  (
                    front_long _ 512 _ (omega (arith, few, n)) n,
                    (
                      front_long _ 512 _ (omega (arith, few, n)) n,
                      (
                        front_long _ 512 _ (omega (arith, few, n)) n,
                        tt,
                      ),
                    ),
                  ),
                ),
              ),
            ),
          ),
        ),
      ),
    )
    c.any_pair.ensures.outcome
