use native.Mathlib.Omega.{arith}
use Rattle.maps.proofs.Founds.{overlay_found, front_long}
use Rattle.maps.proofs.calls.find_overlay.Goals as goal

pub returns-clause-found : goal.returns-clause-found
returns-clause-found c =
    let few = c.requires.graph.nodes in
    let n = c.node_count-n.ensures in
    overlay_found _ _ _ _ _ _ _ (
      c.requires.starts_long,
      (
        c.requires.rooms,
        (
          front_long _ 512 _ (omega (arith, few, n)) n,
          (
            front_long _ 1024 _ (omega (arith, few, n)) (omega (arith, n)),
            (
              front_long _ 512 _ (omega (arith, few, n)) n,
              (
                front_long _ 512 _ (omega (arith, few, n)) n,
                tt,
              ),
            ),
          ),
        ),
      ),
    )
    c.overlay.ensures.outcome
