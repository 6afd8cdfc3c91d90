-- The lines after the arcs.
use mathlib.Core.Path.{◌≡◌, refl, sym, ap, subst, ◌∙◌}
use mathlib.Core.List.{List}
use Prim.Native.Nat.{ℕ, ◌+◌}
use Rattle.std.specs.Prelude.{Some, Result}
use native.Mathlib.Omega.{arith}
use lib.ListN.{length, take}
use lib.Seq.{length-take-le}
use Rattle.road.specs.declared.Refusal.{Refusal}
use Rattle.hexlines.specs.declared.Writer.{Writer}
use Rattle.maps.specs.workings.Calls.{GraphFits}
use Rattle.readings.specs.declared.Line.{Line}
use Rattle.readings.specs.declared.Line.TheVariants.{Question, Drive}
use Rattle.frames.specs.declared.Areas.{Areas}
use Rattle.frames.specs.declared.Lent.{Lent}
use Rattle.frames.specs.declared.Sizes.{Sizes}
use Rattle.frames.specs.Held.{MapFits}
use Rattle.frames.specs.workings.Held.{Answered, Leaves, Thinned, lists_of}
use Rattle.frames.specs.workings.Judging.{Judged, due}
use Rattle.frames.specs.Stages.{map_in}
use Rattle.frames.specs.Steps.{Map, asking, asked, driven, answers, thins}
use Rattle.frames.proofs.Standing.{leaves_as}

-- the map that is lent is that of the areas
module _
    (map : Sizes) (A : Areas) (lent : Lent) (e : lists_of lent ≡ map_in map A) (line : Line) (nodes : List ℕ) (w w' : Writer)
    (answer : Result (Unit {0}) Refusal)
  where
    abbrev Left : Type 0
    Left = Leaves (Judged (asking (map_in map A)) (Some line) nodes) (λ u. asking (map_in map A)) answer w w'

    pub asks_question : (a b : ℕ) → line ≡ Question a b → Answered (lists_of lent) a b answer w w' → Left
    asks_question a b q l =
        leaves_as _ _ _ _ answer w w'
        (λ ℓ x o y. subst (λ (r : Line). Judged (asking (map_in map A)) (Some r) nodes ℓ x o) (sym q) (due refl asked (answers y))) (λ u. refl)
        (subst (λ (N : Map). Answered N a b answer w w') e l)

    pub asks_drive : (count : ℕ) → line ≡ Drive count → Thinned (lists_of lent) (take count nodes) answer w w' → Left
    asks_drive count q l =
        leaves_as _ _ _ _ answer w w'
        (λ ℓ x o y. subst (λ (r : Line). Judged (asking (map_in map A)) (Some r) nodes ℓ x o) (sym q) (due refl driven (thins y))) (λ u. refl)
        (subst (λ (N : Map). Thinned N (take count nodes) answer w w') e l)

-- and it is within the limits of the calls
pub graph_fits :
    (map : Sizes) (A : Areas) (lent : Lent) → lists_of lent ≡ map_in map A → MapFits map → length A.starts ≡ 513 → length A.heads ≡ 2048 →
    GraphFits lent.graph.starts.now lent.graph.heads.now
graph_fits map A lent e f s h =
    let starts = ap (λ (M : Map). length M.starts) e ∙ length-take-le (map.n.0 + 1) A.starts (omega (arith, f.nodes)) in
    let heads = ap (λ (M : Map). length M.heads) e ∙ length-take-le map.m.0 A.heads (omega (arith, f.arcs)) in
    record { some = omega (arith, starts); nodes = omega (arith, starts, f.nodes); arcs = omega (arith, heads, f.arcs) }
