-- The limits of document 01's table.
use Rattle.std.specs.Prelude.{ℕ}
use Rattle.road.specs.declared.Limits.{Limits}

abbrev pub most_nodes : ℕ
most_nodes = 4096

abbrev pub most_k : ℕ
most_k = 32

abbrev pub most_drive : ℕ
most_drive = 4096

abbrev pub road_limits : Limits
road_limits = record { arcs = record { 0 = 16384 }; weight = 1000000 }

abbrev pub overlay_limits : Limits
overlay_limits = record { arcs = record { 0 = 65536 }; weight = 4095000000 }
