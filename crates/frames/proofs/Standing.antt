-- The stage that the phase and the areas stand for, after each function.
use mathlib.Core.Path.{◌≡◌, ap, subst}
use mathlib.Core.List.{List, []}
use Prim.Native.Nat.{ℕ, suc, ◌+◌, ◌≤◌, ◌<◌}
use native.Mathlib.Omega.{arith}
use Rattle.std.specs.Prelude.{Result, Ok, Err}
use lib.ListN.{length, take}
use lib.Seq.{length-take-le}
use Rattle.road.specs.declared.ArcCount.{ArcCount}
use Rattle.road.specs.declared.Refusal.{Refusal}
use Rattle.road.specs.Roads.{nodes_of}
use Rattle.hexlines.proofs.Growing.{writes_none}
use Rattle.hexlines.specs.Outputs.{Out}
use Rattle.hexlines.specs.declared.Writer.{Writer}
use Rattle.maps.specs.Lists.{starts_of}
use Rattle.frames.specs.declared.Areas.{Areas}
use Rattle.frames.specs.declared.Load.{Load}
use Rattle.frames.specs.workings.Held.{Leaves, Prints, Refuses, builds_in, loads_in, map_front}
use Rattle.frames.specs.Stages.{loading_in, map_of}
use Rattle.frames.specs.Steps.{Stage, Builds, asking, stopped, more, complete, refused_by}
use Rattle.frames.proofs.Fitting.{belows_long}

-- what P allows, Q allows, in stages that are the same
pub leaves_as :
    {A : Type 0} (P Q : ℕ → Stage → List Out → Type 0) (f g : A → Stage) (res : Result A Refusal) (w w' : Writer) →
    ((ℓ : ℕ) (x : Stage) (o : List Out) → P ℓ x o → Q ℓ x o) → ((a : A) → f a ≡ g a) → Leaves P f res w w' → Leaves Q g res w w'
leaves_as P Q f g (Ok a) w w' t e l =
    record { outs = l.outs; does = λ ℓ. subst (λ (x : Stage). Q ℓ x l.outs) (e a) (t ℓ (f a) l.outs (l.does ℓ)); wrote = l.wrote }
leaves_as P Q f g (Err r) w w' t e l = record { does = λ ℓ. t ℓ stopped (refused_by r ℓ) (l.does ℓ); same = l.same }

pub refuses_as :
    (P Q : ℕ → Stage → List Out → Type 0) (r : Refusal) (w w' : Writer) → ((ℓ : ℕ) (x : Stage) (o : List Out) → P ℓ x o → Q ℓ x o) → Refuses P r w w' →
    Refuses Q r w w'
refuses_as P Q r w w' t l = record { does = λ ℓ. t ℓ stopped (refused_by r ℓ) (l.does ℓ); same = l.same }

-- the graph is complete
module _ (load : Load) (A : Areas) (starts : List ℕ) (e : take (load.n.0 + 1) starts ≡ starts_of load.n.0 (take load.m.0 A.tails)) where
  size : length (take (load.n.0 + 1) starts) ≡ load.n.0 + 1
  size = omega (arith, ap length e, belows_long (take load.m.0 A.tails) 0 (suc load.n.0))

  module _ (w w' : Writer) where
    abbrev Here : ℕ → Stage → List Out → Type 0
    Here ℓ = Builds ℓ (take (load.n.0 + 1) starts) (take load.m.0 A.heads) (take load.m.0 A.weights) load.k.0

    here_builds : (ℓ : ℕ) (x : Stage) (o : List Out) → Here ℓ x o → builds_in load A ℓ x o
    here_builds ℓ x o =
        subst (λ (l : List ℕ). Builds ℓ l (take load.m.0 A.heads) (take load.m.0 A.weights) load.k.0 x o) e

    pub completed_refused : (r : Refusal) → Refuses Here r w w' → Refuses (builds_in load A) r w w'
    completed_refused r l = refuses_as Here (builds_in load A) r w w' here_builds l

    pub completed :
        (c s' h' w'' : List ℕ) (over : ArcCount) →
        Prints Here
        (asking
        (map_front
        (record {
          starts = take (load.n.0 + 1) starts;
          heads = take load.m.0 A.heads;
          weights = take load.m.0 A.weights;
          chosen = c;
          over_starts = s';
          over_heads = h';
          over_weights = w'';
        })
        over))
        w w' →
        Prints (builds_in load A) (asking (map_of load.n.0 load.m.0 over.0 starts A.heads A.weights c s' h' w'')) w w'
    completed c s' h' w'' over p =
        let n : nodes_of (take (load.n.0 + 1) starts) ≡ load.n.0 = let s = size in omega arith in
        record {
          outs = p.outs;
          does =
              λ ℓ.
              here_builds ℓ (asking (map_of load.n.0 load.m.0 over.0 starts A.heads A.weights c s' h' w'')) p.outs
              (coe 0 1
              (i.
              Here ℓ
              (asking
              (record {
                starts = take (load.n.0 + 1) starts;
                heads = take load.m.0 A.heads;
                weights = take load.m.0 A.weights;
                chosen = take (n i) c;
                over_starts = take (size i) s';
                over_heads = take over.0 h';
                over_weights = take over.0 w'';
              }))
              p.outs)
              (p.does ℓ));
          wrote = p.wrote;
        }

-- the head or an arc is read
module _ (load : Load) (A : Areas) (arcs : load.count.0 ≤ load.m.0) (few : load.m.0 ≤ 2048) (long : length A.tails ≡ 2048) where
  read : length (take load.count.0 A.tails) ≡ load.count.0
  read = length-take-le load.count.0 A.tails (omega arith)

  pub loads_more : (w : Writer) → load.count.0 < load.m.0 → w.at ≤ length w.buf.now → Prints (loads_in load A) (loading_in load A) w w
  loads_more w h r = let e = read in record { outs = []; does = λ ℓ. more (omega arith); wrote = writes_none w r }

  pub loads_complete : load.m.0 ≤ load.count.0 → (ℓ : ℕ) (x : Stage) (o : List Out) → builds_in load A ℓ x o → loads_in load A ℓ x o
  loads_complete h ℓ x o l =
      let e = read in
      let q : load.m.0 ≡ load.count.0 = omega arith in
      complete (omega arith)
      (coe 0 1 (i. Builds ℓ (starts_of load.n.0 (take (q i) A.tails)) (take (q i) A.heads) (take (q i) A.weights) load.k.0 x o) l)
