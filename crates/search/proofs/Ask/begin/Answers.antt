use lib.ListN.{length-set}
use native.Mathlib.Omega.{arith}
use Rattle.std.proofs.Common.{rules}
use Rattle.search.proofs.States.{queue_empty, places_long, going_first}
use Rattle.search.proofs.Ask.begin.Goals as goal

pub add-requires-clause-heap : goal.add-requires-clause-heap
add-requires-clause-heap c =
    record {
      is_heap = queue_empty _ _ _ _ _ _ _ _ c.requires;
      labelled = omega (arith, length-set c.fill.new.self c.args.self.now.source 1, c.fill.ensures.len, c.requires.room, places_long _ _ _ _ _ _ _ _ c.requires);
    }

pub returns-clause-going : goal.returns-clause-going
returns-clause-going c = going_first _ _ _ _ _ _ _ _ c.requires c.fill.new.self _ _ _ (search rules) c.add.ensures.still_heap c.add.ensures.with
