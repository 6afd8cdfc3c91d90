-- A line is the text of one frame at most. So what is told of it is determined.
use mathlib.Core.Path.{◌≡◌, refl, sym, ap, ◌∙◌}
use mathlib.Core.Logic.{◌⊎◌, inl, inr}
use mathlib.Core.List.{List, [], ◌∷◌, ◌++◌}
use Prim.Native.Nat.{ℕ, ◌/◌, ◌%◌, ◌<◌}
use native.Mathlib.Omega.{arith}
use lib.ListN.{length, get_or, drop}
use Rattle.std.specs.Prelude.{Option, Some, None}
use Rattle.paths.specs.Lists.{Each}
use Rattle.readings.specs.declared.Line.{Line}
use Rattle.readings.specs.declared.Line.TheVariants.{Head, Arc, Question, Drive}
use Rattle.readings.specs.Frames.{Frame, head, arc, question, drive, bytes_of, twos, Fits, ReadAs, Reads, Tells}
use Rattle.readings.proofs.Shapes.{small_bytes}
use Rattle.readings.proofs.Texts.{text_one}

-- entry p of two equal lists
at : (p : ℕ) {l m : List ℕ} → l ≡ m → get_or l p 0 ≡ get_or m p 0
at p e = ap (λ (k : List ℕ). get_or k p 0) e

-- numbers of which two bytes, or four, are the same
two_one : (x y : ℕ) → x < 65536 → y < 65536 → x / 256 % 256 ≡ y / 256 % 256 → x % 256 ≡ y % 256 → x ≡ y
two_one x y a b p q = omega arith

halves : (x : ℕ) → (x / 16777216 ≡ x / 65536 / 256) × (x / 256 % 256 ≡ x % 65536 / 256 % 256) × (x % 256 ≡ x % 65536 % 256)
halves x = (omega arith, omega arith, omega arith)

joins : (x y : ℕ) → x / 65536 ≡ y / 65536 → x % 65536 ≡ y % 65536 → x ≡ y
joins x y p q = omega arith

four_one :
    (x y : ℕ) → x < 4294967296 → y < 4294967296 → x / 16777216 % 256 ≡ y / 16777216 % 256 → x / 65536 % 256 ≡ y / 65536 % 256 →
    x / 256 % 256 ≡ y / 256 % 256 → x % 256 ≡ y % 256 → x ≡ y
four_one x y a b p q r s =
    let high = two_one (x / 65536) (y / 65536) (omega arith) (omega arith) (ap (λ (k : ℕ). k % 256) (sym (halves x).0) ∙ p ∙ ap (λ (k : ℕ). k % 256) (halves y).0) q in
    let low = two_one (x % 65536) (y % 65536) (omega arith) (omega arith) (sym (halves x).1 ∙ r ∙ (halves y).1) (sym (halves x).2 ∙ s ∙ (halves y).2) in
    joins x y high low

twos_one : (l m : List ℕ) → Each (λ (v : ℕ). v < 65536) l → Each (λ (v : ℕ). v < 65536) m → twos l ≡ twos m → l ≡ m
twos_one [] [] a b e = refl
twos_one [] (y ∷ m) a b e = absurd (omega (arith, ap length e))
twos_one (x ∷ l) [] a b e = absurd (omega (arith, ap length e))
twos_one (x ∷ l) (y ∷ m) a b e =
    let first : x ≡ y = omega (arith, at 0 e, at 1 e, a.0, b.0) in
    let rest = twos_one l m a.1 b.1 (ap (λ (k : List ℕ). drop 2 k) e) in
    λ i. first i ∷ rest i

-- two frames with the same bytes are one
frame_one : (f g : Frame) → Fits f → Fits g → bytes_of f ≡ bytes_of g → f ≡ g
frame_one (head n m k) (head n' m' k') a b e =
    let p : n ≡ n' = omega (arith, at 1 e, at 2 e, a.0, b.0) in
    let q : m ≡ m' = omega (arith, at 3 e, at 4 e, a.1, b.1) in
    let r : k ≡ k' = omega (arith, at 5 e, a.2, b.2) in
    λ i. head (p i) (q i) (r i)
frame_one (head n m k) (arc t h w) a b e = absurd (omega (arith, at 0 e))
frame_one (head n m k) (question x y) a b e = absurd (omega (arith, at 0 e))
frame_one (head n m k) (drive l) a b e = absurd (omega (arith, at 0 e))
frame_one (arc t h w) (head n m k) a b e = absurd (omega (arith, at 0 e))
frame_one (arc t h w) (arc t' h' w') a b e =
    let p : t ≡ t' = omega (arith, at 1 e, at 2 e, a.0, b.0) in
    let q : h ≡ h' = omega (arith, at 3 e, at 4 e, a.1, b.1) in
    let r : w ≡ w' = four_one w w' a.2 b.2 (at 5 e) (at 6 e) (at 7 e) (at 8 e) in
    λ i. arc (p i) (q i) (r i)
frame_one (arc t h w) (question x y) a b e = absurd (omega (arith, at 0 e))
frame_one (arc t h w) (drive l) a b e = absurd (omega (arith, at 0 e))
frame_one (question x y) (head n m k) a b e = absurd (omega (arith, at 0 e))
frame_one (question x y) (arc t h w) a b e = absurd (omega (arith, at 0 e))
frame_one (question x y) (question x' y') a b e =
    let p : x ≡ x' = omega (arith, at 1 e, at 2 e, a.0, b.0) in
    let q : y ≡ y' = omega (arith, at 3 e, at 4 e, a.1, b.1) in
    λ i. question (p i) (q i)
frame_one (question x y) (drive l) a b e = absurd (omega (arith, at 0 e))
frame_one (drive l) (head n m k) a b e = absurd (omega (arith, at 0 e))
frame_one (drive l) (arc t h w) a b e = absurd (omega (arith, at 0 e))
frame_one (drive l) (question x y) a b e = absurd (omega (arith, at 0 e))
frame_one (drive l) (drive m) a b e = ap drive (twos_one l m a.1 b.1 (ap (λ (k : List ℕ). drop 2 k) e))

-- a line is the text of one frame at most
pub read_one : (room : ℕ) (line : List ℕ) (f g : Frame) → ReadAs room line f → ReadAs room line g → f ≡ g
read_one room line f g a b =
    frame_one f g a.fits b.fits (text_one (bytes_of f) (bytes_of g) (small_bytes f) (small_bytes g) (sym a.text ∙ b.text))

-- what is told of a frame, and what it leaves in the slice for a drive's nodes
abbrev line_of : Frame → Line
line_of (head n m k) = Head (record { 0 = n }) (record { 0 = m }) (record { 0 = k })
line_of (arc t h w) = Arc t h w
line_of (question a b) = Question a b
line_of (drive l) = Drive (length l)

abbrev leaves : Frame → List ℕ → List ℕ
leaves (head n m k) nodes = nodes
leaves (arc t h w) nodes = nodes
leaves (question a b) nodes = nodes
leaves (drive l) nodes = l ++ drop (length l) nodes

record ToldFrame (P : Frame → Type 0) (told : Option Line) (nodes nodes' : List ℕ) : Type 0 where
  pub frame : Frame
  pub holds : P frame
  pub line : told ≡ Some (line_of frame)
  pub left : nodes' ≡ leaves frame nodes

record ToldNone (P : Frame → Type 0) (told : Option Line) (nodes nodes' : List ℕ) : Type 0 where
  pub none : (f : Frame) → P f → ⊥
  pub line : told ≡ None
  pub left : nodes' ≡ nodes

module _ {P : Frame → Type 0} {nodes : List ℕ} where
  either : (told : Option Line) (nodes' : List ℕ) → Tells P told nodes nodes' → ToldFrame P told nodes nodes' ⊎ ToldNone P told nodes nodes'
  either (Some (Head n m k)) nodes' t = inl (record { frame = head n.0 m.0 k.0; holds = t.0; line = refl; left = t.1 })
  either (Some (Arc a h w)) nodes' t = inl (record { frame = arc a h w; holds = t.0; line = refl; left = t.1 })
  either (Some (Question a b)) nodes' t = inl (record { frame = question a b; holds = t.0; line = refl; left = t.1 })
  either (Some (Drive c)) nodes' t = inl (record { frame = drive t.0; holds = t.1; line = ap (λ (n : ℕ). Some (Drive n)) t.2; left = t.3 })
  either None nodes' t = inr (record { none = t.0; line = refl; left = t.1 })

  told_one :
      (one : (f g : Frame) → P f → P g → f ≡ g) {told told' : Option Line} {a b : List ℕ} → ToldFrame P told nodes a ⊎ ToldNone P told nodes a →
      ToldFrame P told' nodes b ⊎ ToldNone P told' nodes b → (told ≡ told') × (a ≡ b)
  told_one one (inl x) (inl y) =
      let e = one x.frame y.frame x.holds y.holds in
      (x.line ∙ ap (λ (f : Frame). Some (line_of f)) e ∙ sym y.line, x.left ∙ ap (λ (f : Frame). leaves f nodes) e ∙ sym y.left)
  told_one one (inl x) (inr y) = absurd (y.none x.frame x.holds)
  told_one one (inr x) (inl y) = absurd (x.none y.frame y.holds)
  told_one one (inr x) (inr y) = (x.line ∙ sym y.line, x.left ∙ sym y.left)

-- two readings of one line are equal: what is told, and what the slice then holds
pub reads_one : (line : List ℕ) (told told' : Option Line) (nodes a b : List ℕ) → Reads line told nodes a → Reads line told' nodes b → (told ≡ told') × (a ≡ b)
reads_one line told told' nodes a b r s = told_one (read_one (length nodes) line) (either told a r.tells) (either told' b s.tells)
