-- What the search finds is a path: the path under trial can be completed exactly if the node is needed.
use mathlib.Core.Path.{◌≡◌, refl, sym, ap, subst, ◌∙◌}
use mathlib.Core.Bool.{Bool}
use mathlib.Core.Logic.{◌⊎◌, inl, inr, ⊎_elim, ◌≢◌}
use mathlib.Core.List.{List, [], ◌∷◌, ◌++◌, append_assoc, append-nil}
use Prim.Native.Nat.{ℕ, suc, ◌+◌, ◌-◌, ◌≤◌, ◌<◌}
use native.Mathlib.Omega.{arith}
use lib.ListN.{length, get_or, length-reverse_aux}
use Rattle.paths.specs.Graphs.{Graph, turned, Along, stop, step}
use Rattle.paths.specs.Lists.{Mem, Different, Each}
use Rattle.paths.proofs.Lists.{mem_left, mem_right, mem_cases, each_mem, mem_onto, onto_mem}
use Rattle.paths.proofs.Turned.{Back, back_onto, different_onto, turned_proper}
use Rattle.paths.proofs.Ways.{end_node}
use Rattle.road.specs.declared.Limits.{Limits}
use Rattle.road.specs.Drives.{Joined}
use Rattle.road.specs.workings.Verdicts.{Tells}
use Rattle.road.specs.Roads.{nodes_of, Arc, road}
use Rattle.road.specs.workings.Sound.{Sound, TurnedRound}
use Rattle.road.proofs.Faults.{road_proper}
use Rattle.rule.specs.Rule.{Dropped, Needed, PathOf}
use Rattle.trails.proofs.Halves.{Halves, halves, halves_free}
use Rattle.trails.specs.workings.Search.{Completes, ends, longer, NoneMissing, OutwardFrom, Outward, Inward}

-- each joined to the next
abbrev Chain : (ℕ → ℕ → Type 0) → ℕ → List ℕ → Type 0
Chain Next a [] = Unit {0}
Chain Next a (x ∷ l) = Next a x × Chain Next x l

-- the nodes by which a path is completed at one end, and what is left at that end
record Runs (Next : ℕ → ℕ → Type 0) (Free : ℕ → Type 0) (End : List ℕ → ℕ → Type 0) (on : List ℕ) (a m : ℕ) : Type 0 where
  after : List ℕ
  left : ℕ
  chain : Chain Next a after
  free : Each Free after
  different : Different after
  new : (x : ℕ) → Mem x after → Mem x on → ⊥
  long : length after + left ≡ m
  end : End (on ++ after) left

module _ {Next : ℕ → ℕ → Type 0} {Free : ℕ → Type 0} {End : List ℕ → ℕ → Type 0} where
  runs : {on : List ℕ} {a m : ℕ} → Completes Next Free End on a m → Runs Next Free End on a m
  runs (ends {on = on} {m = m} e) =
      record {
        after = [];
        left = m;
        chain = tt;
        free = tt;
        different = tt;
        new = λ x h. absurd h;
        long = omega arith;
        end = subst (λ (l : List ℕ). End l m) (sym (append-nil on)) e;
      }
  runs (longer {on = on} {a = a} {m = m} x n f w c) = more (runs c)
    where
      more : Runs Next Free End (on ++ (x ∷ [])) x m → Runs Next Free End on a (suc m)
      more r =
          record {
            after = x ∷ r.after;
            left = r.left;
            chain = (n, r.chain);
            free = (f, r.free);
            different = ((λ h. r.new x h (mem_right x on (x ∷ []) (inl refl))), r.different);
            new = λ y h g. ⊎_elim (λ e. w (subst (λ (z : ℕ). Mem z on) e g)) (λ k. r.new y k (mem_left y on (x ∷ []) g)) h;
            long = omega (arith, r.long);
            end = subst (λ (l : List ℕ). End l r.left) (append_assoc on (x ∷ []) r.after) r.end;
          }

  completes :
      (on : List ℕ) (a : ℕ) (after : List ℕ) (left : ℕ) → Chain Next a after → Each Free after → Different after → ((x : ℕ) → Mem x after → Mem x on → ⊥) →
      End (on ++ after) left → Completes Next Free End on a (length after + left)
  completes on a [] left c f d n e =
      subst (Completes Next Free End on a) (omega arith) (ends (subst (λ (l : List ℕ). End l left) (append-nil on) e))
  completes on a (x ∷ after) left c f d n e =
      let rest = completes (on ++ (x ∷ [])) x after left c.1 f.1 d.1 new (subst (λ (l : List ℕ). End l left) (sym (append_assoc on (x ∷ []) after)) e) in
      subst (Completes Next Free End on a) (omega arith) (longer x c.0 f.0 (λ h. n x (inl refl) h) rest)
    where
      new : (y : ℕ) → Mem y after → Mem y (on ++ (x ∷ [])) → ⊥
      new y h g = ⊎_elim (n y (inr h)) (⊎_elim (λ q. d.0 (subst (λ (z : ℕ). Mem z after) q h)) (λ z. z)) (mem_cases y on (x ∷ []) g)

-- An arc, whatever it weighs.
arc_of : (starts heads weights : List ℕ) (u v : ℕ) → Joined starts heads u v → (w : ℕ) × Arc starts heads weights u v w
arc_of starts heads weights u v j =
    (get_or weights j.place 0, record { place = j.place; listed = j.listed; owned = j.owned; head = j.head; weight = refl })

pub joined_of : {starts heads weights : List ℕ} {u v w : ℕ} → Arc starts heads weights u v w → Joined starts heads u v
joined_of a = record { place = a.place; listed = a.listed; owned = a.owned; head = a.head }

-- A chain is a way, and a way a chain.
chain_way : (G : Graph) (Next : ℕ → ℕ → Type 0) → ((u v : ℕ) → Next u v → (w : ℕ) × G.Step u v w) → (a : ℕ) (l : List ℕ) → Chain Next a l → (b : ℕ) × (w : ℕ) × Along G a l b w
chain_way G Next f a [] c = (a, 0, stop)
chain_way G Next f a (x ∷ l) c =
    let s = f a x c.0 in
    let r = chain_way G Next f x l c.1 in
    (r.0, s.0 + r.1, step s.1 r.2)

way_chain : (G : Graph) (Next : ℕ → ℕ → Type 0) → ((u v w : ℕ) → G.Step u v w → Next u v) → {a : ℕ} {l : List ℕ} {b w : ℕ} → Along G a l b w → Chain Next a l
way_chain G Next f stop = tt
way_chain G Next f (step {a = a} {x = x} {w = w} s r) = (f a x w s, way_chain G Next f r)

module _ (L : Limits) (starts heads weights starts' heads' weights' : List ℕ) (g : Sound L starts heads weights)
    (t : TurnedRound starts heads weights starts' heads' weights') where
  abbrev G : Graph
  G = road starts heads weights

  forth : (u v : ℕ) → Joined starts heads u v → (w : ℕ) × Arc starts heads weights u v w
  forth u v j = arc_of starts heads weights u v j

  back : (u v : ℕ) → Joined starts' heads' u v → (w : ℕ) × Arc starts heads weights v u w
  back u v j = let a = arc_of starts' heads' weights' u v j in (a.0, t.comes v u a.0 a.1)

  module _ (cover : List ℕ) (v k : ℕ) (node : v < nodes_of starts) (some : 1 ≤ k) where
    -- both ends of the path, once it is complete
    record Both : Type 0 where
      before : List ℕ
      after : List ℕ
      inward : Chain (Joined starts' heads') v before
      outward : Chain (Joined starts heads) v after
      free_before : Each (Dropped cover) before
      free_after : Each (Dropped cover) after
      different_before : Different (v ∷ before)
      different_after : Different after
      apart : (x : ℕ) → Mem x (v ∷ before) → Mem x after → ⊥
      long : length before + length after + 1 ≡ k

    both : Inward starts heads starts' heads' cover v (v ∷ []) v (k - 1) → Both
    both c = of (runs c)
      where
        of : Runs (Joined starts' heads') (Dropped cover) (OutwardFrom starts heads cover v) (v ∷ []) v (k - 1) → Both
        of r = and (runs r.end.outward)
          where
            and : Runs (Joined starts heads) (Dropped cover) NoneMissing ((v ∷ []) ++ r.after) v r.left → Both
            and s =
                record {
                  before = r.after;
                  after = s.after;
                  inward = r.chain;
                  outward = s.chain;
                  free_before = r.free;
                  free_after = s.free;
                  different_before = ((λ h. r.new v h (inl refl)), r.different);
                  different_after = s.different;
                  apart = λ x h m. s.new x m h;
                  long = omega (arith, r.long, s.long, s.end.none);
                }

    inward_of : Both → Inward starts heads starts' heads' cover v (v ∷ []) v (k - 1)
    inward_of b =
        let out : Outward starts heads cover ((v ∷ []) ++ b.before) v (length b.after + 0) =
        completes ((v ∷ []) ++ b.before) v b.after 0 b.outward b.free_after b.different_after (λ x h m. b.apart x m h) (record { none = refl }) in
        let in' : Inward starts heads starts' heads' cover v (v ∷ []) v (length b.before + (length b.after + 0)) =
        completes (v ∷ []) v b.before (length b.after + 0) b.inward b.free_before b.different_before.1 new (record { outward = out }) in
        subst (Inward starts heads starts' heads' cover v (v ∷ []) v) (omega (arith, b.long)) in'
      where
        new : (x : ℕ) → Mem x b.before → Mem x (v ∷ []) → ⊥
        new x h m = ⊎_elim (λ e. b.different_before.0 (subst (λ (y : ℕ). Mem y b.before) e h)) (λ z. z) m

    -- a complete path shows that v is needed
    needed_of : Both → Needed (PathOf G k) cover v
    needed_of b = by (chain_way (turned (road starts heads weights)) (Joined starts' heads') back v b.before b.inward) (chain_way (road starts heads weights) (Joined starts heads) forth v b.after b.outward)
      where
        by :
            (e : ℕ) × (w : ℕ) × Along (turned (road starts heads weights)) v b.before e w → (e : ℕ) × (w : ℕ) × Along (road starts heads weights) v b.after e w →
            Needed (PathOf (road starts heads weights) k) cover v
        by i o = of (back_onto {G = turned (road starts heads weights)} b.after o.0 o.1 i.2 o.2)
          where
            of : Back (turned (road starts heads weights)) v b.before b.after i.0 o.0 (i.1 + o.1) → Needed (PathOf (road starts heads weights) k) cover v
            of p =
                record {
                  path = i.0 ∷ p.after;
                  counts =
                      record {
                        first = i.0;
                        after = p.after;
                        last = o.0;
                        weight = i.1 + o.1;
                        whole = refl;
                        path =
                            record {
                              node = end_node (turned_proper (road_proper L starts heads weights g)) node i.2;
                              along = p.along;
                              different = subst Different (sym p.list) (different_onto (v ∷ b.before) b.after b.different_before b.different_after b.apart);
                            };
                        nodes = ap length p.list ∙ length-reverse_aux (v ∷ b.before) b.after ∙ omega (arith, b.long);
                      };
                  on = subst (Mem v) (sym p.list) (mem_onto v (v ∷ b.before) b.after (inl (inl refl)));
                  others = λ x h n. free x n (onto_mem x (v ∷ b.before) b.after (subst (Mem x) p.list h));
                }
              where
                free : (x : ℕ) → x ≢ v → Mem x (v ∷ b.before) ⊎ Mem x b.after → Dropped cover x
                free x n (inl (inl e)) = absurd (n e)
                free x n (inl (inr h)) = each_mem (Dropped cover) x b.before b.free_before h
                free x n (inr h) = each_mem (Dropped cover) x b.after b.free_after h

    -- and where v is needed, the path can be completed
    both_of : Needed (PathOf G k) cover v → Both
    both_of d = of (halves (road_proper L starts heads weights g) v d.counts.path (subst (Mem v) d.counts.whole d.on))
      where
        of : Halves (road starts heads weights) v d.counts.first d.counts.after d.counts.last → Both
        of c =
            let free = halves_free (Dropped cover) c (λ x h n. d.others x (subst (Mem x) (sym d.counts.whole) h) n) in
            record {
              before = c.before;
              after = c.after;
              inward = way_chain (turned (road starts heads weights)) (Joined starts' heads') (λ u w x a. joined_of (t.turns w u x a)) c.to.along;
              outward = way_chain (road starts heads weights) (Joined starts heads) (λ u w x a. joined_of a) c.from.along;
              free_before = free.0;
              free_after = free.1;
              different_before = c.to.different;
              different_after = c.from.different.1;
              apart = c.apart;
              long = omega (arith, c.long, ap length d.counts.whole, d.counts.nodes);
            }

    pub needed_told : {b : Bool} → Tells b (Inward starts heads starts' heads' cover v (v ∷ []) v (k - 1)) → Tells b (Needed (PathOf (road starts heads weights) k) cover v)
    needed_told t = record { yes = λ e. needed_of (both (t.yes e)); no = λ e d. t.no e (inward_of (both_of d)) }
