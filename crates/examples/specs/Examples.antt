-- P1 to P12 of document 01.
use Rattle.std.specs.Prelude.{List, [], ◌∷◌, ℕ}
use Rattle.road.specs.Refusals.{Said, answer}
use Rattle.examples.specs.Graphs.{Lent, one_node, line, both_ways, ring, wedge, no_arc}
use Rattle.examples.specs.Claims.{Claim, cover, overlay, distance, refused_drive, Holds}

-- a graph and what is claimed of it
pub record Example : Type 0 where
  pub graph : Lent
  pub claims : List Claim

-- each claim of the list holds of the graph
abbrev pub HoldAll : Lent → List Claim → Type 0
HoldAll g [] = Unit {0}
HoldAll g (c ∷ cs) = Holds g c × HoldAll g cs

-- each example is right
abbrev pub AllRight : List Example → Type 0
AllRight [] = Unit {0}
AllRight (e ∷ es) = HoldAll e.graph e.claims × AllRight es

abbrev pub way : ℕ → Said
way d = answer (1 ∷ d ∷ [])

abbrev pub no_way : Said
no_way = answer (0 ∷ [])

-- the nodes of Line in ascending order
abbrev pub ascending : List ℕ
ascending = 0 ∷ 1 ∷ 2 ∷ 3 ∷ 4 ∷ []

-- the set {2} of three nodes. A set, like a cover, is a byte for each node.
abbrev pub only_two : List ℕ
only_two = 0 ∷ 0 ∷ 1 ∷ []

abbrev pub p1 : Example
p1 = record { graph = one_node; claims = cover 1 (0 ∷ []) (1 ∷ []) 1 ∷ [] }

abbrev pub p2 : Example
p2 = record { graph = one_node; claims = cover 2 (0 ∷ []) (0 ∷ []) 0 ∷ [] }

abbrev pub p3 : Example
p3 = record { graph = line; claims = cover 2 ascending (0 ∷ 1 ∷ 0 ∷ 1 ∷ 0 ∷ []) 2 ∷ [] }

abbrev pub p4 : Example
p4 = record { graph = line; claims = cover 2 (1 ∷ 3 ∷ 0 ∷ 2 ∷ 4 ∷ []) (1 ∷ 0 ∷ 1 ∷ 0 ∷ 1 ∷ []) 3 ∷ [] }

abbrev pub p5 : Example
p5 = record { graph = line; claims = cover 3 ascending (0 ∷ 0 ∷ 1 ∷ 0 ∷ 0 ∷ []) 1 ∷ [] }

abbrev pub p6 : Example
p6 = record { graph = line; claims = cover 5 ascending (0 ∷ 0 ∷ 0 ∷ 0 ∷ 1 ∷ []) 1 ∷ [] }

abbrev pub p7 : Example
p7 = record { graph = line; claims = cover 6 ascending (0 ∷ 0 ∷ 0 ∷ 0 ∷ 0 ∷ []) 0 ∷ [] }

abbrev pub p8 : Example
p8 = record { graph = both_ways; claims = cover 3 (0 ∷ 1 ∷ []) (0 ∷ 0 ∷ []) 0 ∷ [] }

abbrev pub p9 : Example
p9 = record { graph = ring; claims = cover 3 (0 ∷ 1 ∷ 2 ∷ []) only_two 1 ∷ overlay only_two no_arc ∷ [] }

abbrev pub p10 : Example
p10 = record { graph = ring; claims = distance only_two no_arc 1 0 (way 6) ∷ [] }

abbrev pub p11 : Example
p11 = record { graph = wedge; claims = distance only_two no_arc 0 1 (way 7) ∷ distance only_two no_arc 1 0 no_way ∷ [] }

abbrev pub p12 : Example
p12 = record { graph = ring; claims = refused_drive only_two (2 ∷ 1 ∷ []) 10 ∷ [] }

abbrev pub examples : List Example
examples = p1 ∷ p2 ∷ p3 ∷ p4 ∷ p5 ∷ p6 ∷ p7 ∷ p8 ∷ p9 ∷ p10 ∷ p11 ∷ p12 ∷ []
