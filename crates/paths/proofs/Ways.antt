-- Ways joined and cut, and walks cut down to paths.
use mathlib.Core.Path.{◌≡◌, refl, sym, ap, subst}
use mathlib.Core.Logic.{◌⊎◌, inl, inr}
use mathlib.Core.List.{List, [], ◌∷◌, ◌++◌}
use Prim.Native.Nat.{ℕ, ◌+◌, ◌≤◌, ◌<◌}
use native.Mathlib.Omega.{arith}
use Rattle.paths.specs.Lists.{Mem, Different, Inside}
use Rattle.paths.specs.Graphs.{Graph, Proper, Along, stop, step, IsPath, Reaches, Walks}
use Rattle.paths.proofs.Lists.{mem?, different_front, inside_back, inside_cons}

-- a way cut at a node c of it: its list l is front and then back
pub record Cut (G : Graph) (a : ℕ) (l : List ℕ) (b w c : ℕ) : Type 0 where
  pub front : List ℕ
  pub back : List ℕ
  pub before : ℕ
  pub past : ℕ
  pub whole : l ≡ front ++ back
  pub to : Along G a front c before
  pub from : Along G c back b past
  pub weight : w ≡ before + past

-- a path's two parts where it is cut
pub record Parts (G : Graph) (a : ℕ) (l : List ℕ) (b w c : ℕ) : Type 0 where
  pub at : Cut G a l b w c
  pub to : IsPath G a at.front c at.before
  pub from : IsPath G c at.back b at.past

-- a path that stands for a walk of weight w: it weighs no more, and has P inside as the walk has
record Simple (G : Graph) (P : ℕ → Type 0) (a b w : ℕ) : Type 0 where
  after : List ℕ
  weight : ℕ
  along : Along G a after b weight
  different : Different (a ∷ after)
  inner : Inside P after
  lighter : weight ≤ w

module _ {G : Graph} where
  -- a way's weight, put right by an equation
  pub weighing : {a : ℕ} {l : List ℕ} {b w d : ℕ} → w ≡ d → Along G a l b w → Along G a l b d
  weighing {a} {l} {b} e r = subst (λ (x : ℕ). Along G a l b x) e r

  -- two ways that meet
  pub joined : {a : ℕ} {l : List ℕ} {c v : ℕ} {m : List ℕ} {b w : ℕ} → Along G a l c v → Along G c m b w → Along G a (l ++ m) b (v + w)
  joined stop r = weighing (omega arith) r
  joined (step s q) r = weighing (omega arith) (step s (joined q r))

  -- what holds inside both, and where they meet, holds inside the whole
  pub inside_joined : (P : ℕ → Type 0) {a : ℕ} {l : List ℕ} {c v : ℕ} (m : List ℕ) → Along G a l c v → Inside P l → P c → Inside P m → Inside P (l ++ m)
  inside_joined P m stop i p j = j
  inside_joined P [] (step s stop) i p j = tt
  inside_joined P (y ∷ m) (step s stop) i p j = (p, j)
  inside_joined P m (step s (step t q)) i p j = (i.0, inside_joined P m (step t q) i.1 p j)

  pub walks_joined : {P : ℕ → Type 0} {a c b v w : ℕ} → Walks G P a c v → P c → Walks G P c b w → Walks G P a b (v + w)
  walks_joined {P} f p g =
      record {
        after = f.after ++ g.after;
        along = joined f.along g.along;
        inner = inside_joined P g.after f.along f.inner p g.inner;
      }

  -- a path is a walk
  pub walk_of : {P : ℕ → Type 0} {a b w : ℕ} → Reaches G P a b w → Walks G P a b w
  walk_of r = record { after = r.after; along = r.path.along; inner = r.inner }

  -- at its beginning
  abbrev pub cut_here : {a : ℕ} {l : List ℕ} {b w c : ℕ} → Along G a l b w → c ≡ a → Cut G a l b w c
  cut_here {a} {l} {b} {w} r e =
      record {
        front = [];
        back = l;
        before = 0;
        past = w;
        whole = refl;
        to = subst (λ (x : ℕ). Along G a [] x 0) (sym e) stop;
        from = subst (λ (x : ℕ). Along G x l b w) (sym e) r;
        weight = omega arith;
      }

  -- and one step further
  abbrev pub cut_further : {a x : ℕ} {l : List ℕ} {b d c : ℕ} (w : ℕ) → G.Step a x w → Cut G x l b d c → Cut G a (x ∷ l) b (w + d) c
  cut_further {x = x} w s k =
      record {
        front = x ∷ k.front;
        back = k.back;
        before = w + k.before;
        past = k.past;
        whole = ap (λ (m : List ℕ). x ∷ m) k.whole;
        to = step s k.to;
        from = k.from;
        weight = omega (arith, k.weight);
      }

  -- a way is cut at any node of it
  pub cut : {a : ℕ} {l : List ℕ} {b w : ℕ} (c : ℕ) → Along G a l b w → Mem c (a ∷ l) → Cut G a l b w c
  cut c stop (inl e) = cut_here stop e
  cut c stop (inr h) = absurd h
  cut c (step s r) (inl e) = cut_here (step s r) e
  cut c (step {w = w} s r) (inr h) = cut_further w s (cut c r h)

  -- of different nodes, those from the cut on are different
  different_from : {x : ℕ} {front : List ℕ} {c v : ℕ} (back : List ℕ) → Along G x front c v → Different (x ∷ (front ++ back)) → Different (c ∷ back)
  different_from back stop d = d
  different_from back (step s r) d = different_from back r d.1

  -- a node where a way ends is a node of the graph
  pub end_node : Proper G → {a : ℕ} {l : List ℕ} {b w : ℕ} → a < G.nodes → Along G a l b w → b < G.nodes
  end_node g h stop = h
  end_node g h (step s r) = end_node g (g.head s) r

  -- the last node of a way that goes anywhere stands in its list
  pub end_in : {s t w y : ℕ} {l : List ℕ} → Along G s (y ∷ l) t w → Mem t (y ∷ l)
  end_in (step x stop) = inl refl
  end_in (step x (step y r)) = inr (end_in (step y r))

  -- a path is cut into two paths
  pub cut_path : Proper G → {a : ℕ} {l : List ℕ} {b w : ℕ} (c : ℕ) → IsPath G a l b w → Mem c (a ∷ l) → Parts G a l b w c
  cut_path g {a} {l} {b} {w} c p h = parted (cut c p.along h)
    where
      parted : Cut G a l b w c → Parts G a l b w c
      parted k =
          let d : Different (a ∷ (k.front ++ k.back)) = subst (λ (m : List ℕ). Different (a ∷ m)) k.whole p.different in
          record {
            at = k;
            to = record { node = p.node; along = k.to; different = different_front (a ∷ k.front) k.back d };
            from = record { node = end_node g p.node k.to; along = k.from; different = different_from k.back k.to d };
          }

  module _ (P : ℕ → Type 0) where
    -- where the walk comes back to a, all before that is left out
    shorten : {a x b d w : ℕ} → (s : Simple G P x b d) → Mem a (x ∷ s.after) → d ≤ w → Simple G P a b w
    shorten {a} {x} {b} {d} {w} s h le = from_here (cut a s.along h)
      where
        from_here : Cut G x s.after b s.weight a → Simple G P a b w
        from_here k =
            record {
              after = k.back;
              weight = k.past;
              along = k.from;
              different = different_from k.back k.to (subst (λ (m : List ℕ). Different (x ∷ m)) k.whole s.different);
              inner = inside_back P k.front k.back (subst (λ (m : List ℕ). Inside P m) k.whole s.inner);
              lighter = omega (arith, k.weight, s.lighter);
            }

    lengthen : {a x b d : ℕ} (w : ℕ) → G.Step a x w → (s : Simple G P x b d) → (Mem a (x ∷ s.after) → ⊥) → Inside P (x ∷ s.after) → Simple G P a b (w + d)
    lengthen {x = x} w t s n i =
        record {
          after = x ∷ s.after;
          weight = w + s.weight;
          along = step t s.along;
          different = (n, s.different);
          inner = i;
          lighter = omega (arith, s.lighter);
        }

    onward : {a x b d : ℕ} (w : ℕ) → G.Step a x w → (s : Simple G P x b d) → Inside P (x ∷ s.after) → Simple G P a b (w + d)
    onward {a} {x} {b} {d} w t s i = by (mem? a (x ∷ s.after))
      where
        by : Mem a (x ∷ s.after) ⊎ (Mem a (x ∷ s.after) → ⊥) → Simple G P a b (w + d)
        by (inl h) = shorten s h (omega arith)
        by (inr n) = lengthen w t s n i

    still : (a : ℕ) → Simple G P a a 0
    still a = record { after = []; weight = 0; along = stop; different = ((λ h. h), tt); inner = tt; lighter = omega arith }

    simple : {a : ℕ} {l : List ℕ} {b w : ℕ} → Along G a l b w → Inside P l → Simple G P a b w
    unfolding still
    simple (stop {a = a}) i = still a
    simple (step {x = x} {w = w} s stop) i = onward w s (still x) tt
    simple (step {x = x} {w = w} s (step t r)) i = let q = simple (step t r) i.1 in onward w s q (inside_cons P x q.after i.0 q.inner)

  -- a walk can be cut to a path with the same ends, no more weight and no new node inside
  pub path_within : {P : ℕ → Type 0} {a b w : ℕ} → a < G.nodes → Walks G P a b w → (d : ℕ) × Reaches G P a b d × (d ≤ w)
  path_within {P} {a} {b} {w} h k = of (simple P k.along k.inner)
    where
      of : Simple G P a b w → (d : ℕ) × Reaches G P a b d × (d ≤ w)
      of s = (
        s.weight,
        record { after = s.after; path = record { node = h; along = s.along; different = s.different }; inner = s.inner },
        s.lighter,
      )
