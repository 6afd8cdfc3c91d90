-- The pruning rule: it yields one cover, which covers and is tight.
use mathlib.Core.Path.{◌≡◌, refl, sym, ap, subst, subst₂, ◌∙◌}
use mathlib.Core.Logic.{◌⊎◌, inl, inr, ⊎_elim, ◌≢◌}
use mathlib.Core.List.{List, [], ◌∷◌}
use Prim.Native.Nat.{ℕ, suc, ◌+◌, ◌≤◌, ◌<◌}
use native.Mathlib.Decide.{dec_lt, ℕ_discrete}
use native.Mathlib.Numerals.{add-one}
use native.Mathlib.Omega.{arith}
use lib.ListN
use lib.ListN.{length, get_or, set, replicate, length-set, length-replicate, get_or-replicate, get_or-eq_default, drop_of_length-le}
use lib.Seq.{get_or-set_same, get_or-set_other, drop-cons, ext_get_or}
use Rattle.paths.specs.Lists.{Mem}
use Rattle.road.specs.Faults.{Permutation, InSet}
use Rattle.road.proofs.Filled.{zeros_at}
use Rattle.rule.specs.Rule.{Dropped, Needed, Prunes, done, keep, drop, Pruned}
use Rattle.rule.specs.workings.Taking.{Took, kept, dropped}
use Rattle.rule.specs.Promise.{Covers, Alone, Tight}

-- each byte is 0 or 1
pub record Bits (cover : List ℕ) : Type 0 where
  pub bit : (v : ℕ) → (get_or cover v 0 ≡ 0) ⊎ (get_or cover v 0 ≡ 1)

dropped_now : (cover : List ℕ) (v x : ℕ) → (x ≡ v) ⊎ Dropped cover x → Dropped (set cover v 0) x
dropped_now cover v x h = by h (ℕ_discrete x v) (dec_lt v (length cover))
  where
    by : (x ≡ v) ⊎ Dropped cover x → Dec (x ≡ v) → Dec (v < length cover) → Dropped (set cover v 0) x
    by g (yes e) (yes l) = ap (λ (y : ℕ). get_or (set cover v 0) y 0) e ∙ get_or-set_same cover v 0 0 l
    by g (yes e) (no l) = get_or-eq_default (set cover v 0) 0 {n = x} (omega (arith, length-set cover v 0, l))
    by (inl e) (no n) l = absurd (n e)
    by (inr d) (no n) l = get_or-set_other cover v x 0 0 n ∙ d

bits_now : (cover : List ℕ) (v : ℕ) → Bits cover → Bits (set cover v 0)
bits_now cover v b = record { bit = λ x. by x (ℕ_discrete x v) (b.bit x) }
  where
    by : (x : ℕ) → Dec (x ≡ v) → (get_or cover x 0 ≡ 0) ⊎ (get_or cover x 0 ≡ 1) → (get_or (set cover v 0) x 0 ≡ 0) ⊎ (get_or (set cover v 0) x 0 ≡ 1)
    by x (yes e) h = inl (dropped_now cover v x (inl e))
    by x (no n) (inl z) = inl (get_or-set_other cover v x 0 0 n ∙ z)
    by x (no n) (inr z) = inr (get_or-set_other cover v x 0 0 n ∙ z)

-- of a list's nodes but v, either all are dropped or one is a point
other_point :
    (cover : List ℕ) → Bits cover → (v : ℕ) (l : List ℕ) → ((x : ℕ) → Mem x l → x ≢ v → Dropped cover x) ⊎ ((x : ℕ) × Mem x l × InSet cover x × (x ≢ v))
other_point cover b v [] = inl (λ x h n. absurd h)
other_point cover b v (y ∷ l) = by (ℕ_discrete y v) (b.bit y) (other_point cover b v l)
  where
    by :
        Dec (y ≡ v) → (get_or cover y 0 ≡ 0) ⊎ (get_or cover y 0 ≡ 1) → ((x : ℕ) → Mem x l → x ≢ v → Dropped cover x) ⊎ ((x : ℕ) × Mem x l × InSet cover x × (x ≢ v)) →
        ((x : ℕ) → Mem x (y ∷ l) → x ≢ v → Dropped cover x) ⊎ ((x : ℕ) × Mem x (y ∷ l) × InSet cover x × (x ≢ v))
    by d z (inr r) = inr (r.0, inr r.1, r.2, r.3)
    by (yes e) z (inl f) = inl (λ x h n. ⊎_elim (λ q. absurd (n (q ∙ e))) (λ m. f x m n) h)
    by (no n) (inr o) (inl f) = inr (y, inl refl, o, n)
    by (no n) (inl o) (inl f) = inl (λ x h m. ⊎_elim (λ q. ap (λ (w : ℕ). get_or cover w 0) q ∙ o) (λ k. f x k m) h)

pub all_bits : (n : ℕ) → Bits (replicate n 1)
all_bits n = record { bit = λ v. by v (dec_lt v n) }
  where
    by : (v : ℕ) → Dec (v < n) → (◌≡◌ {A = ℕ} (get_or (replicate n 1) v 0) 0) ⊎ (◌≡◌ {A = ℕ} (get_or (replicate n 1) v 0) 1)
    by v (yes h) = inr (get_or-replicate n v 1 0 h)
    by v (no h) = inl (get_or-eq_default (replicate n 1) 0 {n = v} (omega (arith, length-replicate {A = ℕ} n 1, h)))

module _ {Counts : List ℕ → Type 0} where
  -- two covers that the rule yields are equal
  pub prunes_one : {order cover left other : List ℕ} → Prunes Counts order cover left → Prunes Counts order cover other → left ≡ other
  prunes_one done done = refl
  prunes_one (keep n p) (keep m q) = prunes_one p q
  prunes_one (keep n p) (drop m q) = absurd (m n)
  prunes_one (drop n p) (keep m q) = absurd (n m)
  prunes_one (drop n p) (drop m q) = prunes_one p q

  -- what is dropped stays dropped
  pub stays : {order cover left : List ℕ} → Prunes Counts order cover left → (x : ℕ) → Dropped cover x → Dropped left x
  stays done x d = d
  stays (keep n p) x d = stays p x d
  stays (drop {v = v} {cover = cover} n p) x d = stays p x (dropped_now cover v x (inr d))

  pub as_long : {order cover left : List ℕ} → Prunes Counts order cover left → length left ≡ length cover
  as_long done = refl
  as_long (keep n p) = as_long p
  as_long (drop {v = v} {cover = cover} n p) = as_long p ∙ length-set cover v 0

  pub still_bits : {order cover left : List ℕ} → Prunes Counts order cover left → Bits cover → Bits left
  still_bits done b = b
  still_bits (keep n p) b = still_bits p b
  still_bits (drop {v = v} {cover = cover} n p) b = still_bits p (bits_now cover v b)

  -- dropping a node that is not needed leaves every path that counts with a point
  still_meets : (cover : List ℕ) (v : ℕ) → Bits cover → (Needed Counts cover v → ⊥) → Covers Counts cover → Covers Counts (set cover v 0)
  still_meets cover v b n c = record { meets = λ l h. by l h (c.meets l h) (other_point cover b v l) }
    where
      found : (l : List ℕ) (x : ℕ) → Mem x l → InSet cover x → x ≢ v → (w : ℕ) × Mem w l × InSet (set cover v 0) w
      found l x m i d = (x, m, get_or-set_other cover v x 0 0 d ∙ i)

      by :
          (l : List ℕ) → Counts l → (w : ℕ) × Mem w l × InSet cover w → ((x : ℕ) → Mem x l → x ≢ v → Dropped cover x) ⊎ ((x : ℕ) × Mem x l × InSet cover x × (x ≢ v)) →
          (w : ℕ) × Mem w l × InSet (set cover v 0) w
      by l h p (inr o) = found l o.0 o.1 o.2 o.3
      by l h p (inl f) = at (ℕ_discrete p.0 v)
        where
          at : Dec (p.0 ≡ v) → (w : ℕ) × Mem w l × InSet (set cover v 0) w
          at (yes e) = absurd (n (record { path = l; counts = h; on = subst (λ (y : ℕ). Mem y l) e p.1; others = f }))
          at (no d) = found l p.0 p.1 p.2 d

  still_covers : {order cover left : List ℕ} → Prunes Counts order cover left → Bits cover → Covers Counts cover → Covers Counts left
  still_covers done b c = c
  still_covers (keep n p) b c = still_covers p b c
  still_covers (drop {v = v} {cover = cover} n p) b c = still_covers p (bits_now cover v b) (still_meets cover v b n c)

  -- a node that was taken and is left has a path to itself
  left_alone : {order cover left : List ℕ} → Prunes Counts order cover left → (v : ℕ) → Mem v order → InSet left v → Alone Counts left v
  left_alone (keep {v = v} {cover = cover} {left = left} n p) x (inl e) i =
      record {
        path = n.path;
        counts = n.counts;
        on = subst (λ (y : ℕ). Mem y n.path) (sym e) n.on;
        only = λ y h o. by y h o (ℕ_discrete y v);
      }
    where
      by : (y : ℕ) → Mem y n.path → InSet left y → Dec (y ≡ v) → y ≡ x
      by y h o (yes q) = q ∙ sym e
      by y h o (no d) = absurd (omega (arith, o, stays p y (n.others y h d)))
  left_alone (keep n p) x (inr h) i = left_alone p x h i
  left_alone (drop {v = v} {cover = cover} n p) x (inl e) i = absurd (omega (arith, i, stays p x (dropped_now cover v x (inl e))))
  left_alone (drop n p) x (inr h) i = left_alone p x h i
  left_alone (done {cover = cover}) x x10 i = elim x10 [ ]

-- every path that counts has a node below n on it
pub record Nodes (Counts : List ℕ → Type 0) (n : ℕ) : Type 0 where
  pub node : (path : List ℕ) → Counts path → (v : ℕ) × Mem v path × (v < n)

module _ {Counts : List ℕ → Type 0} {n : ℕ} {order cover : List ℕ} (p : Pruned Counts n order cover) where
  -- the first half of demand 2
  pub covers : Nodes Counts n → Covers Counts cover
  covers f =
      still_covers p (all_bits n)
      (record { meets = λ l h. let v = f.node l h in (v.0, v.1, get_or-replicate n v.0 1 0 v.2) })

  pub node_of_point : (v : ℕ) → InSet cover v → v < n
  node_of_point v i = by (dec_lt v n)
    where
      by : Dec (v < n) → v < n
      by (yes h) = h
      by (no h) = absurd (omega (arith, i, get_or-eq_default cover 0 {n = v} (omega (arith, as_long p, length-replicate {A = ℕ} n 1, h))))

  -- the second half
  pub tight : Permutation n order → Tight Counts cover
  tight q = record { alone = λ v i. left_alone p v (q.all v (node_of_point v i)) i }

-- the same paths count: the same cover
pub same_paths :
    {Counts Others : List ℕ → Type 0} → ((l : List ℕ) → Counts l → Others l) → ((l : List ℕ) → Others l → Counts l) → {order cover left : List ℕ} →
    Prunes Counts order cover left → Prunes Others order cover left
same_paths f g done = done
same_paths f g (keep n p) = keep (record { path = n.path; counts = f n.path n.counts; on = n.on; others = n.others }) (same_paths f g p)
same_paths f g (drop n p) =
    drop (λ m. n (record { path = m.path; counts = g m.path m.counts; on = m.on; others = m.others })) (same_paths f g p)

-- where each node by itself counts, all stay
pub all_stay : {Counts : List ℕ → Type 0} {order cover left : List ℕ} → ((v : ℕ) → Mem v order → Counts (v ∷ [])) → Prunes Counts order cover left → left ≡ cover
all_stay f done = refl
all_stay f (keep n p) = all_stay (λ v h. f v (inr h)) p
all_stay f (drop {v = v} n p) = absurd (n (record { path = v ∷ []; counts = f v (inl refl); on = inl refl; others = λ x h d. absurd (⊎_elim d (λ z. z) h) }))

-- where no path counts, all are dropped
all_dropped : {Counts : List ℕ → Type 0} {order cover left : List ℕ} → ((l : List ℕ) → Counts l → ⊥) → Prunes Counts order cover left → (v : ℕ) → Mem v order → Dropped left v
all_dropped f (keep n p) v h = absurd (f n.path n.counts)
all_dropped f (drop {v = v} {cover = cover} n p) x (inl e) = stays p x (dropped_now cover v x (inl e))
all_dropped f (drop n p) x (inr h) = all_dropped f p x h
all_dropped {Counts = Counts} f (done {cover = cover}) v h = elim h [ ]

pub all_drop : {Counts : List ℕ → Type 0} {n : ℕ} {order cover : List ℕ} → ((l : List ℕ) → Counts l → ⊥) → Permutation n order → Pruned Counts n order cover → cover ≡ replicate n 0
all_drop {n = n} {cover = cover} f q p =
    ext_get_or 0 cover (replicate n 0) (as_long p ∙ length-replicate {A = ℕ} n 1 ∙ sym (length-replicate {A = ℕ} n 0))
    (λ v h. all_dropped f p v (q.all v (omega (arith, as_long p, length-replicate {A = ℕ} n 1))) ∙ sym (zeros_at n v))

-- Pruning on its way: whatever cover the rule yields from here, it yields from the start.
pub record Going (Counts : List ℕ → Type 0) (order cover₀ : List ℕ) (i : ℕ) (cover : List ℕ) : Type 0 where
  pub left : (end : List ℕ) → Prunes Counts (ListN.drop i order) cover end → Prunes Counts order cover₀ end
  pub long : length cover ≡ length cover₀

module _ {Counts : List ℕ → Type 0} (order cover₀ : List ℕ) where
  pub going_start : Going Counts order cover₀ 0 cover₀
  going_start = record { left = λ end p. p; long = refl }

  pub going_on : (i : ℕ) (cover after : List ℕ) → Going Counts order cover₀ i cover → i < length order → Took Counts (get_or order i 0) cover after → Going Counts order cover₀ (i + 1) after
  going_on i cover after g h (kept n e) = record { left = λ end p. g.left end (back end (keep n (now end p))); long = ap length e ∙ g.long }
    where
      now : (end : List ℕ) → Prunes Counts (ListN.drop (i + 1) order) after end → Prunes Counts (ListN.drop (suc i) order) cover end
      now end p = subst₂ (λ (o c : List ℕ). Prunes Counts o c end) (ap (λ (j : ℕ). ListN.drop j order) (add-one i)) e p

      back : (end : List ℕ) → Prunes Counts (get_or order i 0 ∷ ListN.drop (suc i) order) cover end → Prunes Counts (ListN.drop i order) cover end
      back end p = subst (λ (o : List ℕ). Prunes Counts o cover end) (sym (drop-cons order i 0 h)) p
  going_on i cover after g h (dropped n e) = record { left = λ end p. g.left end (back end (drop n (now end p))); long = ap length e ∙ length-set cover (get_or order i 0) 0 ∙ g.long }
    where
      now : (end : List ℕ) → Prunes Counts (ListN.drop (i + 1) order) after end → Prunes Counts (ListN.drop (suc i) order) (set cover (get_or order i 0) 0) end
      now end p = subst₂ (λ (o c : List ℕ). Prunes Counts o c end) (ap (λ (j : ℕ). ListN.drop j order) (add-one i)) e p

      back : (end : List ℕ) → Prunes Counts (get_or order i 0 ∷ ListN.drop (suc i) order) cover end → Prunes Counts (ListN.drop i order) cover end
      back end p = subst (λ (o : List ℕ). Prunes Counts o cover end) (sym (drop-cons order i 0 h)) p

  pub going_end : (i : ℕ) (cover : List ℕ) → Going Counts order cover₀ i cover → length order ≤ i → Prunes Counts order cover₀ cover
  going_end i cover g h = g.left cover (subst (λ (o : List ℕ). Prunes Counts o cover cover) (sym (drop_of_length-le order {i = i} h)) done)
