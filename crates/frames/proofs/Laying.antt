-- The moment of building.
use mathlib.Core.Path.{◌≡◌, refl, sym, ap, subst, ◌∙◌}
use mathlib.Core.Bool.{Bool, true, false}
use Rattle.std.specs.Prelude.{Result, Ok, Err}
use mathlib.Core.List.{List, [], ◌∷◌, ◌++◌}
use Prim.Native.Nat.{ℕ, suc, ◌+◌, ◌*◌, ◌≤◌, ◌<◌}
use native.Mathlib.Decide.{dec_lt}
use native.Mathlib.Omega.{arith}
use mathlib.Core.Logic.{inl}
use Rattle.road.proofs.Left.{road_and_set_left}
use Rattle.overlay.proofs.Unique.{written_count}
use lib.Dec.{eqb}
use lib.ListN.{length, get_or, take, drop, length-append}
use lib.Seq.{take-append_seam}
use Rattle.road.specs.declared.Refusal.{Refusal}
use Rattle.road.specs.Chains.{cover_faults, road_and_set_faults}
use Rattle.road.specs.declared.ArcCount.{ArcCount}
use Rattle.road.specs.Counting.{times}
use Rattle.road.specs.Refusals.{None, Said, refusal, answer}
use Rattle.road.specs.Roads.{nodes_of, road}
use Rattle.rule.specs.Rule.{PathOf, Pruned}
use Rattle.overlay.specs.Calls.{TooMany}
use Rattle.overlay.specs.Overlays.{OverlayOf}
use Rattle.hexlines.proofs.Growing.{writes_then, writes_long}
use Rattle.hexlines.specs.Outputs.{counts, refused, out_text, text_of}
use Rattle.hexlines.specs.Writers.{Writes}
use Rattle.hexlines.specs.declared.Writer.{Writer}
use Rattle.maps.proofs.Printed.{lines_then, text_append}
use Rattle.maps.specs.workings.Calls.{CoverFound, OverlayFound}
use Rattle.maps.specs.Lists.{arc_lines, numbers, point_if, point_lines}
use Rattle.maps.specs.workings.Printing.{RowsFit}
use Rattle.frames.specs.workings.Held.{Built, Laid, LayFits, Prints, Refuses, map_over}
use Rattle.frames.specs.Steps.{Map, asking, stopped, Builds, refused_by, no_cover, no_overlay, no_room, built, over_room}
use Rattle.frames.proofs.Saids.{size}

if_short : (b : Bool) (v : ℕ) → length (text_of (point_if b v)) ≤ 7
if_short true v = omega arith
if_short false v = omega arith

points_short : (v : ℕ) (l : List ℕ) → length (text_of (point_lines v l)) ≤ 7 * length l
points_short v [] = omega arith
points_short v (b ∷ l) =
    let t = points_short (suc v) l in
    let a = ap length (text_append (point_if (eqb b 1) v) (point_lines (suc v) l)) in
    let c = length-append (text_of (point_if (eqb b 1) v)) (text_of (point_lines (suc v) l)) in
    let d = if_short (eqb b 1) v in omega arith

-- the three writings of the map
module _ (w : Writer) (p c : ℕ) (bytes starts heads weights : List ℕ) (n : ℕ) (w₁ : Writer) (x : Writes w (out_text (counts p c)) w₁) where
  pub points_fit : w.at + 11 + 7 * length bytes ≤ length w.buf.now → w₁.at + 7 * length bytes ≤ length w₁.buf.now
  points_fit h = omega (arith, x.wrote.next, writes_long w (out_text (counts p c)) w₁ x)

  module _ (w₂ : Writer) (y : Writes w₁ (text_of (point_lines 0 bytes)) w₂) where
    pub arcs_fit :
        RowsFit starts heads weights n (w.at + 11 + 7 * length bytes) (length w.buf.now) → RowsFit starts heads weights n w₂.at (length w₂.buf.now)
    arcs_fit f =
        record {
          rise = f.rise;
          begins = f.begins;
          ends = f.ends;
          alike = f.alike;
          long = f.long;
          space =
              omega
              (arith, f.space, x.wrote.next, y.wrote.next, points_short 0 bytes, writes_long w (out_text (counts p c)) w₁ x, writes_long w₁ (text_of (point_lines 0 bytes)) w₂ y);
        }

    pub map_wrote :
        (w₃ : Writer) → Writes w₂ (text_of (arc_lines starts heads weights n)) w₃ →
        Writes w (text_of (counts p c ∷ point_lines 0 bytes ++ arc_lines starts heads weights n)) w₃
    map_wrote w₃ z =
        lines_then w (counts p c ∷ point_lines 0 bytes) w₂ (arc_lines starts heads weights n) w₃
        (writes_then w (out_text (counts p c)) w₁ (text_of (point_lines 0 bytes)) w₂ x y) z

-- the overlay
module _ (starts heads weights chosen b₁ b₂ b₃ : List ℕ) (full : length b₂ ≡ 4096) where
  abbrev Found : Said → List ℕ → List ℕ → List ℕ → Type 0
  Found = OverlayFound starts heads weights chosen b₁ b₂ b₃

  abbrev Ready : ℕ → Type 0
  Ready k = None (cover_faults starts heads weights k (numbers 0 (nodes_of starts)))

  abbrev Covers : ℕ → Type 0
  Covers k = Pruned (PathOf (road starts heads weights) k) (nodes_of starts) (numbers 0 (nodes_of starts)) chosen

  over_refused :
      (said : Said) (a₁ a₂ a₃ : List ℕ) (r : Refusal) → said ≡ refusal r → Found said a₁ a₂ a₃ → (k : ℕ) → Ready k → Covers k → (ℓ : ℕ) →
      Builds ℓ starts heads weights k stopped (refused_by r ℓ)
  over_refused said a₁ a₂ a₃ r e (OverlayFound.refused f) k n p ℓ =
      subst (λ (x : ℕ). Builds ℓ starts heads weights k stopped (refused x ℓ ∷ [])) (ap (λ (s : Said). s.number) e) (no_overlay n p f)
  over_refused said a₁ a₂ a₃ r e (OverlayFound.full m t) k n p ℓ =
      subst (λ (x : ℕ). Builds ℓ starts heads weights k stopped (refused x ℓ ∷ [])) (ap (λ (s : Said). s.number) e)
      (no_room n p m (subst (TooMany (road starts heads weights) chosen) full t))
  over_refused said a₁ a₂ a₃ r e (OverlayFound.built m t o) k n p ℓ = let z = ap size e in absurd (omega arith)

  pub record Over (c : ℕ) (a₁ a₂ a₃ : List ℕ) : Type 0 where
    pub hs : List ℕ
    pub ws : List ℕ
    pub sound : None (road_and_set_faults starts heads weights chosen)
    pub fits : TooMany (road starts heads weights) chosen over_room → ⊥
    pub is : OverlayOf (road starts heads weights) chosen a₁ hs ws
    pub count : length hs ≡ c
    pub whole_heads : a₂ ≡ hs ++ drop (length hs) b₂
    pub whole_weights : a₃ ≡ ws ++ drop (length ws) b₃

  over_built : (said : Said) (a₁ a₂ a₃ : List ℕ) (c : ℕ) → said ≡ answer (c ∷ []) → Found said a₁ a₂ a₃ → Over c a₁ a₂ a₃
  over_built said a₁ a₂ a₃ c e (OverlayFound.refused f) = let z = ap size e in absurd (omega arith)
  over_built said a₁ a₂ a₃ c e (OverlayFound.full m t) = let z = ap size e in absurd (omega arith)
  over_built said a₁ a₂ a₃ c e (OverlayFound.built {heads' = hs} {weights' = ws} m t o) =
      record {
        hs = hs;
        ws = ws;
        sound = m;
        fits = λ u. t (subst (TooMany (road starts heads weights) chosen) (sym full) u);
        is = o;
        count = ap (λ (s : Said). get_or s.values 0 0) e;
        whole_heads = refl;
        whole_weights = refl;
      }

  abbrev map_with : List ℕ → List ℕ → List ℕ → Map
  map_with a₁ a₂ a₃ =
      record {
        starts = starts;
        heads = heads;
        weights = weights;
        chosen = chosen;
        over_starts = a₁;
        over_heads = a₂;
        over_weights = a₃;
      }

  pub laid_refused :
      (points : ℕ) (a₁ a₂ a₃ : List ℕ) (r : Refusal) (w : Writer) → Found (refusal r) a₁ a₂ a₃ → Laid points (map_with a₁ a₂ a₃) (Err r) w w
  laid_refused points a₁ a₂ a₃ r w f =
      record { does = λ ℓ k n p q. over_refused (refusal r) a₁ a₂ a₃ r refl f k n p ℓ; same = refl }

  module _ (c : ArcCount) (a₁ a₂ a₃ : List ℕ) (f : Found (answer (c.0 ∷ [])) a₁ a₂ a₃) where
    made : Over c.0 a₁ a₂ a₃
    made = over_built (answer (c.0 ∷ [])) a₁ a₂ a₃ c.0 refl f

    few : length made.hs ≤ 4096
    few = by (dec_lt 4096 (length made.hs))
      where
        by : Dec (4096 < length made.hs) → length made.hs ≤ 4096
        by (no h) = omega arith
        by (yes h) =
            let m = made in
            let bytes = (road_and_set_left starts heads weights chosen m.sound).set_right.bytes in
            absurd
            (m.fits
            (record {
              count = length m.hs;
              counted = written_count (road starts heads weights) chosen a₁ m.hs m.ws m.is bytes;
              over = inl h;
            }))

    pub made_few : (c.0 ≤ length a₂) × (c.0 ≤ length a₃) × (c.0 ≤ 4096)
    made_few =
        let m = made in
        let x = ap length m.whole_heads in
        let y = length-append m.hs (drop (length m.hs) b₂) in
        let u = ap length m.whole_weights in
        let v = length-append m.ws (drop (length m.ws) b₃) in
        let z = m.count in
        let q = m.is.alike in
        let f = few in
        (omega arith, omega arith, omega arith)

    front_heads : take c.0 a₂ ≡ made.hs
    front_heads =
        let m = made in
        ap (λ (j : ℕ). take j a₂) (sym m.count) ∙ ap (take (length m.hs)) m.whole_heads ∙ take-append_seam m.hs (drop (length m.hs) b₂)

    front_weights : take c.0 a₃ ≡ made.ws
    front_weights =
        let m = made in
        ap (λ (j : ℕ). take j a₃) (sym m.count ∙ m.is.alike) ∙ ap (take (length m.ws)) m.whole_weights ∙ take-append_seam m.ws (drop (length m.ws) b₃)

    rows_of :
        (w : Writer) → c.0 ≤ 4096 → LayFits starts heads chosen b₁ b₂ b₃ w →
        RowsFit a₁ made.hs made.ws (nodes_of starts) (w.at + 11 + 7 * length chosen) (length w.buf.now)
    rows_of w few g =
        let m = made in
        let o = m.is in
        record {
          rise = λ u h. subst (λ (x : ℕ). get_or a₁ u 0 ≤ get_or a₁ x 0) (omega arith) (o.rows u h).rises;
          begins = o.begins;
          ends = omega (arith, o.ends);
          alike = o.alike;
          long = o.long;
          space = omega (arith, o.ends, m.count, few, g.space, g.bytes, g.nodes);
        }

    same_nodes : (l₁ : List ℕ) → l₁ ≡ a₁ → nodes_of l₁ ≡ nodes_of starts
    same_nodes l₁ e₁ = omega (arith, ap length e₁, made.is.long)

    -- what is lent to be printed is what the room holds
    pub print_fits :
        (w : Writer) → LayFits starts heads chosen b₁ b₂ b₃ w →
        (l₁ l₂ l₃ : List ℕ) → l₁ ≡ a₁ → l₂ ≡ a₂ → l₃ ≡ a₃ →
        RowsFit l₁ (take c.0 l₂) (take c.0 l₃) (nodes_of l₁) (w.at + 11 + 7 * length chosen) (length w.buf.now)
    print_fits w g l₁ l₂ l₃ e₁ e₂ e₃ =
        let h : made.hs ≡ take c.0 l₂ = sym front_heads ∙ ap (take c.0) (sym e₂) in
        let v : made.ws ≡ take c.0 l₃ = sym front_weights ∙ ap (take c.0) (sym e₃) in
        coe 0 1 (i. RowsFit (sym e₁ i) (h i) (v i) (sym (same_nodes l₁ e₁) i) (w.at + 11 + 7 * length chosen) (length w.buf.now)) (rows_of w made_few.2 g)

    pub laid_built :
        (points : ℕ) (w w' : Writer) (l₁ l₂ l₃ : List ℕ) → l₁ ≡ a₁ → l₂ ≡ a₂ → l₃ ≡ a₃ →
        Writes w (text_of (counts points (length (take c.0 l₂)) ∷ point_lines 0 chosen ++ arc_lines l₁ (take c.0 l₂) (take c.0 l₃) (nodes_of l₁))) w' →
        Laid points (map_with a₁ a₂ a₃) (Ok c) w w'
    laid_built points w w' l₁ l₂ l₃ e₁ e₂ e₃ t =
        let m = made in
        record {
          outs = counts points (length (take c.0 a₂)) ∷ point_lines 0 chosen ++ arc_lines a₁ (take c.0 a₂) (take c.0 a₃) (nodes_of starts);
          does =
              λ ℓ k n p q.
              subst
              (λ (x : ℕ).
              Builds ℓ starts heads weights k (asking (map_over (map_with a₁ a₂ a₃) c))
              (counts x (length (take c.0 a₂)) ∷ point_lines 0 chosen ++ arc_lines a₁ (take c.0 a₂) (take c.0 a₃) (nodes_of starts)))
              (sym q)
              (built n p m.sound m.fits
              (subst (λ (x : List ℕ). OverlayOf (road starts heads weights) chosen a₁ x (take c.0 a₃)) (sym front_heads)
              (subst (λ (x : List ℕ). OverlayOf (road starts heads weights) chosen a₁ m.hs x) (sym front_weights) m.is)));
          wrote =
              coe 0 1
              (i.
              Writes w
              (text_of
              (counts points (length (take c.0 (e₂ i))) ∷ point_lines 0 chosen ++ arc_lines (e₁ i) (take c.0 (e₂ i)) (take c.0 (e₃ i)) (same_nodes l₁ e₁ i)))
              w')
              t;
        }

-- the cover
module _ (starts heads weights : List ℕ) (k : ℕ) (b : List ℕ) where
  cover_refused :
      (ℓ : ℕ) (said : Said) (a : List ℕ) (r : Refusal) → said ≡ refusal r → CoverFound starts heads weights k b said a →
      Builds ℓ starts heads weights k stopped (refused_by r ℓ)
  cover_refused ℓ said a r e (CoverFound.refused f) =
      subst (λ (x : ℕ). Builds ℓ starts heads weights k stopped (refused x ℓ ∷ [])) (ap (λ (s : Said). s.number) e) (no_cover f)
  cover_refused ℓ said a r e (CoverFound.covered n p) = let z = ap size e in absurd (omega arith)

  record Covered (c : ℕ) (a : List ℕ) : Type 0 where
    pub sound : None (cover_faults starts heads weights k (numbers 0 (nodes_of starts)))
    pub pruned : Pruned (PathOf (road starts heads weights) k) (nodes_of starts) (numbers 0 (nodes_of starts)) a
    pub count : c ≡ times 1 a

  cover_made : (said : Said) (a : List ℕ) (c : ℕ) → said ≡ answer (c ∷ []) → CoverFound starts heads weights k b said a → Covered c a
  cover_made said a c e (CoverFound.refused f) = let z = ap size e in absurd (omega arith)
  cover_made said a c e (CoverFound.covered n p) = record { sound = n; pruned = p; count = sym (ap (λ (s : Said). get_or s.values 0 0) e) }

  pub built_refused :
      (a : List ℕ) (r : Refusal) (w : Writer) → CoverFound starts heads weights k b (refusal r) a → Refuses (λ ℓ. Builds ℓ starts heads weights k) r w w
  built_refused a r w f = record { does = λ ℓ. cover_refused ℓ (refusal r) a r refl f; same = refl }

  -- the cover and the overlay's starts stand at the front of their slices
  module _ (a c o₁ o₂ o₃ l₁ : List ℕ) (e₁ : take (nodes_of starts) c ≡ a) (e₂ : take (length starts) o₁ ≡ l₁) where
    pub built_laid :
        (points : ℕ) (res : Result ArcCount Refusal) (w w' : Writer) → CoverFound starts heads weights k b (answer (points ∷ [])) a →
        Laid points
        (record { starts = starts; heads = heads; weights = weights; chosen = take (nodes_of starts) c; over_starts = l₁; over_heads = o₂; over_weights = o₃ })
        res w w' →
        Built k (record { starts = starts; heads = heads; weights = weights; chosen = c; over_starts = o₁; over_heads = o₂; over_weights = o₃ }) res w w'
    built_laid points (Err r) w w' f l =
        let m = cover_made (answer (points ∷ [])) (take (nodes_of starts) c) points refl (subst (CoverFound starts heads weights k b (answer (points ∷ []))) (sym e₁) f) in
        record { does = λ ℓ. l.does ℓ k m.sound m.pruned m.count; same = l.same }
    built_laid points (Ok o) w w' f l =
        let m = cover_made (answer (points ∷ [])) (take (nodes_of starts) c) points refl (subst (CoverFound starts heads weights k b (answer (points ∷ []))) (sym e₁) f) in
        coe 0 1
        (i.
        Prints (λ ℓ. Builds ℓ starts heads weights k)
        (asking
        (record {
          starts = starts;
          heads = heads;
          weights = weights;
          chosen = take (nodes_of starts) c;
          over_starts = sym e₂ i;
          over_heads = take o.0 o₂;
          over_weights = take o.0 o₃;
        }))
        w w')
        (record { outs = l.outs; does = λ ℓ. l.does ℓ k m.sound m.pruned m.count; wrote = l.wrote })
