use Rattle.pieces.proofs.Bounding.{drop_spreads, drop_keeps}
use Rattle.cover.proofs.pruning.drop_node.Goals as goal

pub spread-requires-clause-spreads : goal.spread-requires-clause-spreads
spread-requires-clause-spreads c = drop_spreads _ _ _ _ _ _ _ c.args.sizes.now c.requires.prunable c.args.pieces.now _ c.requires.kept _ _ c.requires.fits c.requires.v_in_bounds

pub returns-clause-still_kept : goal.returns-clause-still_kept
returns-clause-still_kept c = drop_keeps _ _ _ _ _ _ _ c.args.sizes.now c.requires.prunable c.args.pieces.now _ c.requires.kept _ _ c.requires.fits c.requires.v_in_bounds c.spread.ensures c.spread.auto.sizes c.spread.auto.pieces
