-- A step is one: of the state, the line's number and what comes, the state after it and the lines printed are determined.
use mathlib.Core.Path.{◌≡◌, refl, sym, ap, subst, ◌∙◌}
use mathlib.Core.Logic.{◌⊎◌, inl, inr}
use mathlib.Core.List.{List, [], ◌∷◌, ◌++◌}
use Prim.Native.Nat.{ℕ}
use native.Mathlib.Omega.{arith}
use lib.ListN.{length}
use Rattle.paths.proofs.Least.{least_one}
use Rattle.road.specs.declared.Refusal.{Refusal}
use Rattle.road.specs.declared.Refusal.TheVariants.{Room}
use Rattle.road.specs.Chains.{cover_faults, road_and_set_faults, drive_faults}
use Rattle.road.specs.Counting.{times}
use Rattle.road.specs.Faults.{node_fault}
use Rattle.road.specs.Refusals.{First, None, Fault}
use Rattle.road.specs.workings.Verdicts.{Singles}
use Rattle.road.specs.Roads.{nodes_of, road}
use Rattle.road.proofs.Refusals.{first_one, first_not_none, of_single}
use Rattle.road.proofs.Verdicts.{cover_singles, road_and_set_singles, drive_singles, singles_both}
use Rattle.rule.specs.Rule.{PathOf, Pruned}
use Rattle.rule.proofs.Rules.{prunes_one}
use Rattle.overlay.specs.Calls.{TooMany}
use Rattle.overlay.specs.Lent.{overlay_fault}
use Rattle.overlay.specs.Overlays.{OverlayOf}
use Rattle.road.proofs.Left.{road_and_set_left}
use Rattle.overlay.proofs.Unique as Unique
use Rattle.distance.specs.Calls.{pair_input}
use Rattle.drive.proofs.Unique.{thinned_one}
use Rattle.hexlines.specs.Outputs.{Out, counts, way, kept}
use Rattle.readings.specs.Frames.{Frame}
use Rattle.readings.proofs.Unique.{read_one}
use Rattle.maps.specs.Lists.{numbers, starts_of, point_lines, arc_lines}
use Rattle.frames.specs.Steps.{Input, Map, Stage, asking, stopped, Builds, no_cover, no_overlay, no_room, built, Loads, more, complete, Answers, not_asked, a_way, none, Thins, no_drive, thinned, Does, begins, loads, answers, thins, Step, beyond, beyond_unended, cut_off, wrong, taken, missing_head, missing_arc, good_end, refused_by, over_room, drive_room}

-- two states and what was printed before them
abbrev pub Same : Stage → List Out → Stage → List Out → Type 0
Same s os t ps = (s ≡ t) × (os ≡ ps)

-- two refusals of one list of faults
refusals_one : (ℓ : ℕ) (Fs : List Fault) → Singles Fs → (r q : Refusal) → First Fs r → First Fs q → Same stopped (refused_by r ℓ) stopped (refused_by q ℓ)
refusals_one ℓ Fs s r q f g = (refl, ap (λ (x : Refusal). refused_by x ℓ) (first_one Fs r q s f g))

-- the moment of building
module _ (ℓ : ℕ) (starts heads weights : List ℕ) (k : ℕ) where
  abbrev cover_list : List Fault
  cover_list = cover_faults starts heads weights k (numbers 0 (nodes_of starts))

  abbrev built_as : List ℕ → List ℕ → List ℕ → List ℕ → Stage
  built_as cover starts' heads' weights' =
      asking
      (record {
        starts = starts;
        heads = heads;
        weights = weights;
        chosen = cover;
        over_starts = starts';
        over_heads = heads';
        over_weights = weights';
      })

  abbrev printed : List ℕ → List ℕ → List ℕ → List ℕ → List Out
  printed cover starts' heads' weights' =
      counts (times 1 cover) (length heads') ∷ point_lines 0 cover ++ arc_lines starts' heads' weights' (nodes_of starts)

  -- once the cover is there
  data Lays (cover : List ℕ) : Stage → List Out → Type 0 where
    bad : {r : Refusal} → First (road_and_set_faults starts heads weights cover) r → Lays cover stopped (refused_by r ℓ)
    full : None (road_and_set_faults starts heads weights cover) → TooMany (road starts heads weights) cover over_room → Lays cover stopped (refused_by Room ℓ)
    laid :
        {starts' heads' weights' : List ℕ} → None (road_and_set_faults starts heads weights cover) → (TooMany (road starts heads weights) cover over_room → ⊥) →
        OverlayOf (road starts heads weights) cover starts' heads' weights' → Lays cover (built_as cover starts' heads' weights') (printed cover starts' heads' weights')

  lays_one : (cover : List ℕ) {s t : Stage} {os ps : List Out} → Lays cover s os → Lays cover t ps → Same s os t ps
  lays_one c (bad {r = r} f) (bad {r = q} g) = refusals_one ℓ (road_and_set_faults starts heads weights c) (road_and_set_singles starts heads weights c) r q f g
  lays_one c (bad {r = r} f) (full n m) = absurd (first_not_none (road_and_set_faults starts heads weights c) r f n)
  lays_one c (bad {r = r} f) (laid n m o) = absurd (first_not_none (road_and_set_faults starts heads weights c) r f n)
  lays_one c (full n m) (bad {r = r} f) = absurd (first_not_none (road_and_set_faults starts heads weights c) r f n)
  lays_one c (full n m) (full i j) = (refl, refl)
  lays_one c (full n m) (laid i j o) = absurd (j m)
  lays_one c (laid n m o) (bad {r = r} f) = absurd (first_not_none (road_and_set_faults starts heads weights c) r f n)
  lays_one c (laid n m o) (full i j) = absurd (m j)
  lays_one c (laid {starts' = s} {heads' = h} {weights' = w} n m o) (laid {starts' = s'} {heads' = h'} {weights' = w'} i j p) =
      let e = (road_and_set_left starts heads weights c n).set_right.bytes in
      let x = Unique.starts_one (road starts heads weights) c e s h w s' h' w' o p in
      let y = Unique.heads_one (road starts heads weights) c e s h w s' h' w' o p in
      let z = Unique.weights_one (road starts heads weights) c e s h w s' h' w' o p in
      ((λ a. built_as c (x a) (y a) (z a)), λ a. printed c (x a) (y a) (z a))

  record Covered (s : Stage) (os : List Out) : Type 0 where
    pub cover : List ℕ
    pub sound : None cover_list
    pub pruned : Pruned (PathOf (road starts heads weights) k) (nodes_of starts) (numbers 0 (nodes_of starts)) cover
    pub lays : Lays cover s os

  record Uncovered (s : Stage) (os : List Out) : Type 0 where
    pub refusal : Refusal
    pub first : First cover_list refusal
    pub stage : s ≡ stopped
    pub outs : os ≡ refused_by refusal ℓ

  cases : {s : Stage} {os : List Out} → Builds ℓ starts heads weights k s os → Uncovered s os ⊎ Covered s os
  cases (no_cover {r = r} f) = inl (record { refusal = r; first = f; stage = refl; outs = refl })
  cases (no_overlay {cover = c} n p f) = inr (record { cover = c; sound = n; pruned = p; lays = bad f })
  cases (no_room {cover = c} n p m t) = inr (record { cover = c; sound = n; pruned = p; lays = full m t })
  cases (built {cover = c} n p m t o) = inr (record { cover = c; sound = n; pruned = p; lays = laid m t o })

  cases_one : {s t : Stage} {os ps : List Out} → Uncovered s os ⊎ Covered s os → Uncovered t ps ⊎ Covered t ps → Same s os t ps
  cases_one (inl x) (inl y) =
      let e = first_one cover_list x.refusal y.refusal (cover_singles starts heads weights k (numbers 0 (nodes_of starts))) x.first y.first in
      (x.stage ∙ sym y.stage, x.outs ∙ ap (λ (r : Refusal). refused_by r ℓ) e ∙ sym y.outs)
  cases_one (inl x) (inr y) = absurd (first_not_none cover_list x.refusal x.first y.sound)
  cases_one (inr x) (inl y) = absurd (first_not_none cover_list y.refusal y.first x.sound)
  cases_one {s = s} {os = os} (inr x) (inr y) =
      lays_one y.cover (subst (λ (c : List ℕ). Lays c s os) (prunes_one x.pruned y.pruned) x.lays) y.lays

  pub builds_one : {s t : Stage} {os ps : List Out} → Builds ℓ starts heads weights k s os → Builds ℓ starts heads weights k t ps → Same s os t ps
  builds_one a b = cases_one (cases a) (cases b)

loads_one :
    {ℓ n m k : ℕ} {tails heads weights : List ℕ} {s t : Stage} {os ps : List Out} → Loads ℓ n m k tails heads weights s os →
    Loads ℓ n m k tails heads weights t ps → Same s os t ps
loads_one (more h) (more g) = (refl, refl)
loads_one (more h) (complete g b) = absurd (omega arith)
loads_one (complete g b) (more h) = absurd (omega arith)
loads_one {ℓ = ℓ} {n = n} {k = k} {tails = tails} {heads = heads} {weights = weights} (complete h a) (complete g b) =
    builds_one ℓ (starts_of n tails) heads weights k a b

-- a question
module _ (ℓ : ℕ) (M : Map) (a b : ℕ) where
  abbrev asked : List Fault
  asked = pair_input M.starts M.heads M.weights M.chosen M.over_starts M.over_heads M.over_weights a b

  asked_singles : Singles asked
  asked_singles =
      singles_both (road_and_set_faults M.starts M.heads M.weights M.chosen)
      (overlay_fault M.chosen M.over_starts M.over_heads M.over_weights ∷ node_fault (nodes_of M.starts) a b ∷ [])
      (road_and_set_singles M.starts M.heads M.weights M.chosen) (of_single, (of_single, tt))

  pub answers_one : {s t : Stage} {os ps : List Out} → Answers ℓ M a b s os → Answers ℓ M a b t ps → Same s os t ps
  answers_one (not_asked {r = r} f) (not_asked {r = q} g) = refusals_one ℓ asked asked_singles r q f g
  answers_one (not_asked {r = r} f) (a_way n d) = absurd (first_not_none asked r f n)
  answers_one (not_asked {r = r} f) (none n e) = absurd (first_not_none asked r f n)
  answers_one (a_way n d) (not_asked {r = r} f) = absurd (first_not_none asked r f n)
  answers_one (a_way n d) (a_way m e) = (refl, ap (λ (x : ℕ). way a b x ∷ []) (least_one d e))
  answers_one (a_way {d = x} n d) (none m e) = absurd (e.none x d.is)
  answers_one (none n e) (not_asked {r = r} f) = absurd (first_not_none asked r f n)
  answers_one (none n e) (a_way {d = x} m d) = absurd (e.none x d.is)
  answers_one (none n e) (none m f) = (refl, refl)

-- a drive
module _ (ℓ : ℕ) (M : Map) (nodes : List ℕ) where
  abbrev driven : List Fault
  driven = drive_faults M.starts M.heads M.weights M.chosen nodes

  pub thins_one : {s t : Stage} {os ps : List Out} → Thins ℓ M nodes s os → Thins ℓ M nodes t ps → Same s os t ps
  thins_one (no_drive {r = r} f) (no_drive {r = q} g) =
      refusals_one ℓ driven (drive_singles M.starts M.heads M.weights M.chosen nodes) r q f g
  thins_one (no_drive {r = r} f) (thinned n p) = absurd (first_not_none driven r f n)
  thins_one (thinned n p) (no_drive {r = r} f) = absurd (first_not_none driven r f n)
  thins_one (thinned {positions = l} n p) (thinned {positions = m} o q) =
      (refl, ap (λ (x : List ℕ). kept x ∷ []) (thinned_one M.chosen nodes l m p q))

does_one : {ℓ : ℕ} {s : Stage} {f : Frame} {t u : Stage} {os ps : List Out} → Does ℓ s f t os → Does ℓ s f u ps → Same t os u ps
does_one (begins a) (begins b) = loads_one a b
does_one (loads a) (loads b) = loads_one a b
does_one {ℓ = ℓ} (answers {M = M} {a = x} {b = y} a) (answers b) = answers_one ℓ M x y a b
does_one {ℓ = ℓ} (thins {M = M} {nodes = nodes} a) (thins b) = thins_one ℓ M nodes a b

-- two steps from one state, at one line's number, on the same input are equal
pub step_one : {ℓ : ℕ} {s : Stage} {i : Input} {t u : Stage} {os ps : List Out} → Step ℓ s i t os → Step ℓ s i u ps → Same t os u ps
step_one (beyond r h) (beyond q g) = (refl, refl)
step_one (beyond r h) (wrong q g n) = absurd (omega arith)
step_one (beyond r h) (taken g a d o) = absurd (omega arith)
step_one (wrong q g n) (beyond r h) = absurd (omega arith)
step_one (wrong q g n) (wrong r h m) = (refl, refl)
step_one (wrong q g n) (taken {f = f} h a d o) = absurd (n f a d)
step_one (taken g a d o) (beyond r h) = absurd (omega arith)
step_one (taken {f = f} g a d o) (wrong r h n) = absurd (n f a d)
step_one {ℓ = ℓ} {s = s} {u = u} {ps = ps} (taken {bytes = bytes} {f = f} g a d o) (taken {f = f'} h b e p) =
    does_one o (subst (λ (x : Frame). Does ℓ s x u ps) (read_one drive_room bytes f' f b a) p)
step_one (beyond_unended r h) (beyond_unended q g) = (refl, refl)
step_one (beyond_unended r h) (cut_off q g) = absurd (omega arith)
step_one (cut_off q g) (beyond_unended r h) = absurd (omega arith)
step_one (cut_off q g) (cut_off r h) = (refl, refl)
step_one missing_head missing_head = (refl, refl)
step_one missing_arc missing_arc = (refl, refl)
step_one good_end good_end = (refl, refl)
