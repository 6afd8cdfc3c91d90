-- The sizes of the pieces that the dropped nodes make, by which a node is dropped without a search.
use Rattle.std.specs.Prelude.{◌≡◌, ◌⊎◌, ◌≢◌, List, ◌∷◌, ℕ, ◌+◌, ◌≤◌, ◌<◌, length, get_or, set}
use Rattle.paths.specs.Graphs.{Graph, turned, IsPath}
use Rattle.paths.specs.Lists.{Mem, Each}
use Rattle.road.specs.Counting.{under}
use Rattle.road.specs.Drives.{Joined}
use Rattle.rule.specs.Rule.{Dropped}

-- two dropped nodes that a step joins have one size
pub record Even (G : Graph) (cover sizes : List ℕ) : Type 0 where
  pub even : (u v w : ℕ) → G.Step u v w → Dropped cover u → Dropped cover v → get_or sizes u 0 ≡ get_or sizes v 0

-- The size of a dropped node: where it is below k, no path of dropped nodes with that node on it has more nodes. All nodes of such a
-- path have one size, so it is enough to say this of its first.
pub record Pieced (G : Graph) (k : ℕ) (cover sizes : List ℕ) : Type 0 where
  pub alike : Even G cover sizes
  pub bound : {a : ℕ} {l : List ℕ} {b w : ℕ} → IsPath G a l b w → Each (Dropped cover) (a ∷ l) → get_or sizes a 0 < k → length (a ∷ l) ≤ get_or sizes a 0
  pub small : (x : ℕ) → Dropped cover x → get_or sizes x 0 ≤ k

-- the same, with the work as long as the bytes
pub record Kept (G : Graph) (k : ℕ) (cover sizes pieces : List ℕ) : Type 0 where
  pub pieced : Pieced G k cover sizes
  pub sizes_long : length sizes ≡ length cover
  pub pieces_long : length pieces ≡ length cover

-- each dropped node to which a step leads from v is of size r or less
pub record Near (G : Graph) (cover sizes : List ℕ) (v r : ℕ) : Type 0 where
  pub near : (x w : ℕ) → G.Step v x w → Dropped cover x → get_or sizes x 0 ≤ r

-- r is a size for v, if it is dropped: where r is below k, no path with v and otherwise only dropped nodes has more nodes
pub record Fits (G : Graph) (k : ℕ) (cover sizes : List ℕ) (v r : ℕ) : Type 0 where
  pub most : r ≤ k
  pub forth : Near G cover sizes v r
  pub back : Near (turned G) cover sizes v r
  pub short :
      r < k → {a : ℕ} {l : List ℕ} {b w : ℕ} → IsPath G a l b w → Mem v (a ∷ l) → ((x : ℕ) → Mem x (a ∷ l) → x ≢ v → Dropped cover x) → length (a ∷ l) ≤ r

-- P holds of each node to which an arc leads from v
pub record Row (starts heads : List ℕ) (v : ℕ) (P : ℕ → Type 0) : Type 0 where
  pub each : (x : ℕ) → Joined starts heads v x → P x

-- of a dropped node other than `but`: its size is r or less
pub record Below (cover sizes : List ℕ) (but r x : ℕ) : Type 0 where
  pub below : Dropped cover x → x ≢ but → get_or sizes x 0 ≤ r

-- of a dropped node: its size is r or more
pub record Raised (cover sizes : List ℕ) (r x : ℕ) : Type 0 where
  pub raised : Dropped cover x → r ≤ get_or sizes x 0

-- Some sizes below r are raised to r, and each node whose size was raised is put behind those that wait.
pub data Raises (r : ℕ) (sizes pieces : List ℕ) (count : ℕ) : List ℕ → List ℕ → ℕ → Type 0 where
  none : Raises r sizes pieces count sizes pieces count
  more :
      {sizes' pieces' : List ℕ} {count' : ℕ} → Raises r sizes pieces count sizes' pieces' count' → (y : ℕ) → y < length sizes' → get_or sizes' y 0 < r →
      Raises r sizes pieces count (set sizes' y r) (set pieces' count' y) (count' + 1)

-- u stands at a place from i up to, but not including, `count`
pub record Waits (pieces : List ℕ) (i count u : ℕ) : Type 0 where
  pub place : ℕ
  pub from : i ≤ place
  pub below : place < count
  pub is : get_or pieces place 0 ≡ u

-- a step between dropped nodes leads to no smaller size, unless the node that it leads from waits
pub record Level (G : Graph) (cover sizes pieces : List ℕ) (i count : ℕ) : Type 0 where
  pub level : (u v w : ℕ) → G.Step u v w → Dropped cover u → Dropped cover v → (get_or sizes u 0 ≤ get_or sizes v 0) ⊎ Waits pieces i count u

-- The size r spreads: the nodes at places below `count` were raised to it, those at places below i have passed it on.
pub record Spreads (G : Graph) (cover : List ℕ) (r : ℕ) (sizes pieces : List ℕ) (i count : ℕ) : Type 0 where
  pub met : i ≤ count
  pub forth : Level G cover sizes pieces i count
  pub back : Level (turned G) cover sizes pieces i count
  pub node : (j : ℕ) → j < count → get_or pieces j 0 < length cover
  pub low : (j : ℕ) → j < count → get_or sizes (get_or pieces j 0) 0 ≤ r
  pub room : count + under r sizes ≤ length pieces
  pub sizes_long : length sizes ≡ length cover
  pub pieces_long : length pieces ≡ length cover

-- sizes only rise, and those that do rise to r
pub record Grown (r : ℕ) (sizes sizes' : List ℕ) : Type 0 where
  pub rises : (x : ℕ) → get_or sizes x 0 ≤ get_or sizes' x 0
  pub raised : (x : ℕ) → (get_or sizes' x 0 ≡ get_or sizes x 0) ⊎ (get_or sizes' x 0 ≡ r)

-- the size r has spread
pub record Spread (G : Graph) (cover : List ℕ) (r : ℕ) (sizes sizes' : List ℕ) : Type 0 where
  pub alike : Even G cover sizes'
  pub grown : Grown r sizes sizes'
