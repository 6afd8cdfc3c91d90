-- The lines of a map, written one after the other.
use mathlib.Core.Path.{◌≡◌, refl, sym, ap, subst, ◌∙◌}
use mathlib.Core.Bool.{Bool, true, false}
use mathlib.Core.List.{List, [], ◌∷◌, ◌++◌, append_assoc, append-nil}
use Prim.Native.Nat.{ℕ, zero, suc, ◌+◌, ◌-◌, ◌*◌, ◌≤◌, ◌<◌}
use native.Mathlib.Decide.{dec_lt}
use native.Mathlib.Omega.{arith}
use lib.Dec.{eqb}
use Rattle.std.proofs.lemmas.Bool.{ne_eqb}
use lib.ListN.{length, get_or, take, length-append}
use lib.Seq.{take-suc, take-length, length-take-le}
use Rattle.hexlines.proofs.Growing.{writes_none, writes_then, writes_long}
use Rattle.hexlines.specs.declared.Writer.{Writer}
use Rattle.hexlines.specs.Outputs.{Out, arc, point, out_text, text_of}
use Rattle.hexlines.specs.Writers.{Writes}
use Rattle.maps.specs.Lists.{arc_lines, point_if, point_lines, row_lines}
use Rattle.maps.specs.workings.Printing.{RowsFit}

pub text_append : (a b : List Out) → text_of (a ++ b) ≡ text_of a ++ text_of b
text_append [] b = refl
text_append (o ∷ a) b = ap (λ (t : List ℕ). out_text o ++ t) (text_append a b) ∙ sym (append_assoc (out_text o) (text_of a) (text_of b))

pub text_one : (o : Out) → text_of (o ∷ []) ≡ out_text o
text_one o = append-nil (out_text o)

-- lines and then lines
pub lines_then :
    (w : Writer) (a : List Out) (v : Writer) (b : List Out) (u : Writer) → Writes w (text_of a) v → Writes v (text_of b) u → Writes w (text_of (a ++ b)) u
lines_then w a v b u x y =
    subst (λ (t : List ℕ). Writes w t u) (sym (text_append a b)) (writes_then w (text_of a) v (text_of b) u x y)

pub line_one : (w : Writer) (o : Out) (v : Writer) → Writes w (out_text o) v → Writes w (text_of (o ∷ [])) v
line_one w o v a = subst (λ (t : List ℕ). Writes w t v) (sym (text_one o)) a

-- a node's line
point_yes : (w : Writer) (b v : ℕ) (u : Writer) → b ≡ 1 → Writes w (out_text (point v)) u → Writes w (text_of (point_if (eqb b 1) v)) u
point_yes w b v u e a =
    subst (λ (x : ℕ). Writes w (text_of (point_if (eqb x 1) v)) u) (sym e) (line_one w (point v) u a)

point_no : (w : Writer) (b v : ℕ) → w.at ≤ length w.buf.now → (b ≡ 1 → ⊥) → Writes w (text_of (point_if (eqb b 1) v)) w
point_no w b v h e = subst (λ (x : Bool). Writes w (text_of (point_if x v)) w) (sym (ne_eqb b 1 e)) (writes_none w h)

points_last : (w : ℕ) (l : List ℕ) (b : ℕ) → point_lines w (l ++ (b ∷ [])) ≡ point_lines w l ++ point_if (eqb b 1) (w + length l)
points_last w [] b = let e : w ≡ w + 0 = omega arith in append-nil (point_if (eqb b 1) w) ∙ ap (point_if (eqb b 1)) e
points_last w (x ∷ l) b =
    let e : suc w + length l ≡ w + suc (length l) = omega arith in
    ap (λ (t : List Out). point_if (eqb x 1) w ++ t) (points_last (suc w) l b ∙ ap (λ (y : ℕ). point_lines (suc w) l ++ point_if (eqb b 1) y) e) ∙
    sym (append_assoc (point_if (eqb x 1) w) (point_lines (suc w) l) (point_if (eqb b 1) (w + suc (length l))))

if_short : (b : Bool) (v : ℕ) → length (text_of (point_if b v)) ≤ 7
if_short true v = omega arith
if_short false v = omega arith

-- the loop over the nodes
pub record Points (w : Writer) (bytes : List ℕ) (v : ℕ) (u : Writer) : Type 0 where
  pub within : v ≤ length bytes
  pub short : u.at ≤ w.at + 7 * v
  pub wrote : Writes w (text_of (point_lines 0 (take v bytes))) u

module _ (w : Writer) (bytes : List ℕ) (h : w.at + 7 * length bytes ≤ length w.buf.now) where
  pub points_none : Points w bytes 0 w
  points_none = record { within = omega arith; short = omega arith; wrote = writes_none w (omega arith) }

  module _ (v : ℕ) (u : Writer) (p : Points w bytes v u) (k : v < length bytes) where
    pub points_room : u.at + 7 ≤ length u.buf.now
    points_room = omega (arith, writes_long w (text_of (point_lines 0 (take v bytes))) u p.wrote, p.short)

    points_more : (u' : Writer) → Writes u (text_of (point_if (eqb (get_or bytes v 0) 1) v)) u' → Points w bytes (v + 1) u'
    points_more u' a =
        let next : suc v ≡ v + 1 = omega arith in
        let size : 0 + length (take v bytes) ≡ v = omega (arith, length-take-le v bytes (omega arith)) in
        let lines : point_lines 0 (take (v + 1) bytes) ≡ point_lines 0 (take v bytes) ++ point_if (eqb (get_or bytes v 0) 1) v =
        ap (λ (x : ℕ). point_lines 0 (take x bytes)) (sym next) ∙ ap (point_lines 0) (take-suc bytes v 0 k) ∙ points_last 0 (take v bytes) (get_or bytes v 0) ∙
        ap (λ (x : ℕ). point_lines 0 (take v bytes) ++ point_if (eqb (get_or bytes v 0) 1) x) size in
        record {
          within = omega arith;
          short = omega (arith, p.short, a.wrote.next, if_short (eqb (get_or bytes v 0) 1) v);
          wrote =
              subst (λ (x : List Out). Writes w (text_of x) u') (sym lines)
              (lines_then w (point_lines 0 (take v bytes)) u (point_if (eqb (get_or bytes v 0) 1) v) u' p.wrote a);
        }

    pub points_in : (u' : Writer) → get_or bytes v 0 ≡ 1 → Writes u (out_text (point v)) u' → Points w bytes (v + 1) u'
    points_in u' e a = points_more u' (point_yes u (get_or bytes v 0) v u' e a)

    pub points_out : (get_or bytes v 0 ≡ 1 → ⊥) → Points w bytes (v + 1) u
    points_out e = points_more u (point_no u (get_or bytes v 0) v (omega (arith, points_room)) e)

  pub points_end : (v : ℕ) (u : Writer) → length bytes ≤ v → Points w bytes v u → Writes w (text_of (point_lines 0 bytes)) u
  points_end v u k p =
      let e : v ≡ length bytes = omega (arith, p.within) in
      subst (λ (x : List ℕ). Writes w (text_of (point_lines 0 x)) u) (ap (λ (y : ℕ). take y bytes) e ∙ take-length bytes) p.wrote

-- one tail's row
row_last : (heads weights : List ℕ) (u p c : ℕ) → row_lines heads weights u p (suc c) ≡ row_lines heads weights u p c ++ (arc u (get_or heads (p + c) 0) (get_or weights (p + c) 0) ∷ [])
row_last heads weights u p zero =
    let e : p ≡ p + 0 = omega arith in ap (λ (x : ℕ). arc u (get_or heads x 0) (get_or weights x 0) ∷ []) e
row_last heads weights u p (suc c) =
    let e : suc p + c ≡ p + suc c = omega arith in
    ap (λ (t : List Out). arc u (get_or heads p 0) (get_or weights p 0) ∷ t)
    (row_last heads weights u (suc p) c ∙ ap (λ (x : ℕ). row_lines heads weights u (suc p) c ++ (arc u (get_or heads x 0) (get_or weights x 0) ∷ [])) e)

row_long : (heads weights : List ℕ) (u p c : ℕ) → length (text_of (row_lines heads weights u p c)) ≡ 19 * c
row_long heads weights u p zero = refl
row_long heads weights u p (suc c) =
    let t = row_long heads weights u (suc p) c in
    let o = length-append (out_text (arc u (get_or heads p 0) (get_or weights p 0))) (text_of (row_lines heads weights u (suc p) c)) in omega arith

pub record Row (w : Writer) (heads weights : List ℕ) (u from p : ℕ) (w' : Writer) : Type 0 where
  pub begins : from ≤ p
  pub wrote : Writes w (text_of (row_lines heads weights u from (p - from))) w'

module _ (w : Writer) (heads weights : List ℕ) (u from : ℕ) where
  pub row_none : w.at ≤ length w.buf.now → Row w heads weights u from from w
  row_none h =
      let e : 0 ≡ from - from = omega arith in
      record {
        begins = omega arith;
        wrote = subst (λ (c : ℕ). Writes w (text_of (row_lines heads weights u from c)) w) e (writes_none w h);
      }

  module _ (p : ℕ) (v : Writer) (r : Row w heads weights u from p v) where
    pub row_room : (to : ℕ) → w.at + 19 * (to - from) ≤ length w.buf.now → p < to → v.at + 19 ≤ length v.buf.now
    row_room to h k =
        let b = r.begins in
        let n = r.wrote.wrote.next in
        omega (arith, writes_long w (text_of (row_lines heads weights u from (p - from))) v r.wrote, row_long heads weights u from (p - from))

    pub row_more : (v' : Writer) → Writes v (out_text (arc u (get_or heads p 0) (get_or weights p 0))) v' → Row w heads weights u from (p + 1) v'
    row_more v' a =
        let b = r.begins in
        let e : suc (p - from) ≡ p + 1 - from = omega arith in
        let f : from + (p - from) ≡ p = omega arith in
        let lines : row_lines heads weights u from (p + 1 - from) ≡ row_lines heads weights u from (p - from) ++ (arc u (get_or heads p 0) (get_or weights p 0) ∷ []) =
        ap (row_lines heads weights u from) (sym e) ∙ row_last heads weights u from (p - from) ∙
        ap (λ (x : ℕ). row_lines heads weights u from (p - from) ++ (arc u (get_or heads x 0) (get_or weights x 0) ∷ [])) f in
        record {
          begins = omega arith;
          wrote =
              subst (λ (x : List Out). Writes w (text_of x) v') (sym lines)
              (lines_then w (row_lines heads weights u from (p - from)) v (arc u (get_or heads p 0) (get_or weights p 0) ∷ []) v' r.wrote
              (line_one v (arc u (get_or heads p 0) (get_or weights p 0)) v' a));
        }

    pub row_end : (to : ℕ) → to ≤ p → p ≤ to → Writes w (text_of (row_lines heads weights u from (to - from))) v
    row_end to a b =
        let e : p ≡ to = omega arith in subst (λ (x : ℕ). Writes w (text_of (row_lines heads weights u from (x - from))) v) e r.wrote

-- all rows
pub record Rows (w : Writer) (starts heads weights : List ℕ) (u : ℕ) (v : Writer) : Type 0 where
  pub place : v.at ≡ w.at + 19 * get_or starts u 0
  pub wrote : Writes w (text_of (arc_lines starts heads weights u)) v

module _ (w : Writer) (starts heads weights : List ℕ) (n : ℕ) (f : RowsFit starts heads weights n w.at (length w.buf.now)) where
  rises : (u v : ℕ) → u ≤ v → v ≤ n → get_or starts u 0 ≤ get_or starts v 0
  rises u zero a b = let e : u ≡ 0 = omega arith in subst (λ (x : ℕ). get_or starts x 0 ≤ get_or starts 0 0) (sym e) (omega arith)
  rises u (suc v) a b = by (dec_lt v u) (λ q. rises u v q (omega arith))
    where
      by : Dec (v < u) → (u ≤ v → get_or starts u 0 ≤ get_or starts v 0) → get_or starts u 0 ≤ get_or starts (suc v) 0
      by (yes q) g = let e : u ≡ suc v = omega arith in subst (λ (x : ℕ). get_or starts x 0 ≤ get_or starts (suc v) 0) (sym e) (omega arith)
      by (no q) g = omega (arith, g (omega arith), f.rise v (omega arith))

  pub rows_none : Rows w starts heads weights 0 w
  rows_none = record { place = omega (arith, f.begins); wrote = writes_none w (omega (arith, f.space)) }

  module _ (u : ℕ) (v : Writer) (r : Rows w starts heads weights u v) (h : u < n) where
    same : get_or starts (suc u) 0 ≡ get_or starts (u + 1) 0
    same = let next : suc u ≡ u + 1 = omega arith in ap (λ (x : ℕ). get_or starts x 0) next

    module _ (from to : ℕ) (a : from ≡ get_or starts u 0) (b : to ≡ get_or starts (u + 1) 0) where
      pub rows_ask : (from ≤ to) × (to ≤ length heads) × (to ≤ length weights) × (v.at + 19 * (to - from) ≤ length v.buf.now)
      rows_ask =
          let next = same in
          let one = f.rise u h in
          let rest = rises (suc u) n (omega arith) (omega arith) in
          let g = f.ends in
          let k = f.alike in
          let s = f.space in
          let p = r.place in
          let long = writes_long w (text_of (arc_lines starts heads weights u)) v r.wrote in
          (omega arith, omega arith, omega arith, omega arith)

      pub rows_more : (v' : Writer) → Writes v (text_of (row_lines heads weights u from (to - from))) v' → Rows w starts heads weights (u + 1) v'
      rows_more v' q =
          let next : suc u ≡ u + 1 = omega arith in
          let one = f.rise u h in
          let lines : arc_lines starts heads weights (u + 1) ≡ arc_lines starts heads weights u ++ row_lines heads weights u from (to - from) =
          ap (arc_lines starts heads weights) (sym next) ∙
          (λ k. arc_lines starts heads weights u ++ row_lines heads weights u (sym a k) (sym (b ∙ sym same) k - sym a k)) in
          record {
            place = omega (arith, r.place, q.wrote.next, row_long heads weights u from (to - from), same);
            wrote =
                subst (λ (x : List Out). Writes w (text_of x) v') (sym lines)
                (lines_then w (arc_lines starts heads weights u) v (row_lines heads weights u from (to - from)) v' r.wrote q);
          }
