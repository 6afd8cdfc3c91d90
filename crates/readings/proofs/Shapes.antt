-- The bytes of each frame.
use mathlib.Core.Path.{◌≡◌, refl, sym, ap, subst, ◌∙◌}
use mathlib.Core.List.{List, [], ◌∷◌, ◌++◌}
use Prim.Native.Nat.{ℕ, suc, ◌+◌, ◌*◌, ◌/◌, ◌%◌, ◌^◌, ◌≤◌, ◌<◌}
use native.Mathlib.Omega.{arith}
use lib.ListN.{length, get_or, take, drop, set, length-set}
use lib.Seq.{take-suc-set, drop-set-lt, drop-drop}
use denote.Ref.{Bor}
use Rattle.std.specs.Prelude.{Option, Some, None}
use Rattle.paths.specs.Lists.{Each}
use Rattle.hexlines.specs.Outputs.{two}
use Rattle.hexlines.specs.Text.{hex_text}
use Rattle.readings.specs.declared.Line.{Line}
use Rattle.readings.specs.declared.Line.TheVariants.{Head, Arc, Question, Drive}
use Rattle.readings.specs.Frames.{Frame, head, arc, question, drive, bytes_of, twos, ReadAs, Reads, Taken, Tells}
use Rattle.readings.specs.workings.Readings.{BytesAs, NodesRead, ReadsText, TellsFrame, TextOf, TwoOf, most_bytes}
use Rattle.readings.proofs.Texts.{PairAt, each_more, text_one, two_more}

twos_length : (l : List ℕ) → length (twos l) ≡ 2 * length l
twos_length [] = refl
twos_length (x ∷ l) = let t = twos_length l in omega arith

twos_more : (l : List ℕ) (x : ℕ) → twos (l ++ (x ∷ [])) ≡ twos l ++ two x
twos_more [] x = refl
twos_more (y ∷ l) x = ap (λ (r : List ℕ). y / 256 % 256 ∷ y % 256 ∷ r) (twos_more l x)

-- what bytes that begin with 48 say of their drive
pub record DriveIs (room : ℕ) (rest l : List ℕ) : Type 0 where
  pub count : get_or rest 0 0 ≡ length l
  pub listed : length rest ≡ 1 + 2 * length l
  pub few : length l ≤ 64
  pub fits : length l ≤ room

module _ (room : ℕ) (rest : List ℕ) where
  drive_is : (l : List ℕ) → BytesAs room (48 ∷ rest) (drive l) → DriveIs room rest l
  drive_is l s =
      let first = ap (λ (b : List ℕ). get_or b 1 0) s.same in
      let taken = s.taken in
      record {
        count = omega arith;
        listed = omega (arith, ap length s.same, twos_length l);
        few = taken.0;
        fits = taken.1;
      }

  pub drive_none : ((l : List ℕ) → DriveIs room rest l → ⊥) → (f : Frame) → BytesAs room (48 ∷ rest) f → ⊥
  drive_none h (head n m k) s = omega (arith, ap (λ (b : List ℕ). get_or b 0 0) s.same)
  drive_none h (arc t o w) s = omega (arith, ap (λ (b : List ℕ). get_or b 0 0) s.same)
  drive_none h (question a o) s = omega (arith, ap (λ (b : List ℕ). get_or b 0 0) s.same)
  drive_none h (drive l) s = h l (drive_is l s)

-- a drive's nodes, one pair more
module _ (b nodes : List ℕ) (i : ℕ) (nodes' : List ℕ) (r : NodesRead b nodes i nodes') where
  pub nodes_more :
      (pair : List ℕ) (x : ℕ) → PairAt b i pair → i < length nodes → TwoOf (get_or pair 0 0) (get_or pair 1 0) x → NodesRead b nodes (i + 1) (set nodes' i x)
  nodes_more pair x a k p =
      let next : suc i ≡ i + 1 = omega arith in
      let twice : 2 * i + 2 ≡ 2 * (i + 1) = omega arith in
      let fits : i < length nodes' = omega (arith, r.long) in
      let taken : take (i + 1) (set nodes' i x) ≡ take i nodes' ++ (x ∷ []) = ap (λ (j : ℕ). take j (set nodes' i x)) (sym next) ∙ take-suc-set nodes' i x fits in
      let high = sym a.high ∙ ap (λ (l : List ℕ). get_or l 0 0) p.bytes in
      let low = sym a.low ∙ ap (λ (l : List ℕ). get_or l 1 0) p.bytes in
      record {
        long = length-set nodes' i x ∙ r.long;
        front =
            ap (λ (j : ℕ). take j b) (sym twice) ∙ two_more b (2 * i) a.within ∙ (λ j. r.front j ++ (high j ∷ low j ∷ [])) ∙
            sym (ap twos taken ∙ twos_more (take i nodes') x);
        small = subst (Each (λ (v : ℕ). v < 2 ^ 16)) (sym taken) (each_more (λ (v : ℕ). v < 2 ^ 16) (take i nodes') x r.small p.small);
        rest =
            drop-set-lt (i + 1) nodes' i x (omega arith) ∙ sym (drop-drop 1 i nodes') ∙ ap (λ (l : List ℕ). drop 1 l) r.rest ∙ drop-drop 1 i nodes;
      }

-- each byte of a frame is below 256
small_twos : (l : List ℕ) → Each (λ (x : ℕ). x < 256) (twos l)
small_twos [] = tt
small_twos (x ∷ l) = (omega arith, (omega arith, small_twos l))

pub small_bytes : (f : Frame) → Each (λ (x : ℕ). x < 256) (bytes_of f)
small_bytes (head n m k) = (omega arith, (omega arith, (omega arith, (omega arith, (omega arith, (omega arith, tt))))))
small_bytes (arc t h w) =
    (omega arith, (omega arith, (omega arith, (omega arith, (omega arith, (omega arith, (omega arith, (omega arith, (omega arith, tt)))))))))
small_bytes (question a b) = (omega arith, (omega arith, (omega arith, (omega arith, (omega arith, tt)))))
small_bytes (drive l) = (omega arith, (omega arith, small_twos l))

-- and no frame that is taken has too many
few_bytes : (room : ℕ) (f : Frame) → Taken room f → length (bytes_of f) ≤ most_bytes
few_bytes room (head n m k) t = omega arith
few_bytes room (arc t h w) t' = omega arith
few_bytes room (question a b) t = omega arith
few_bytes room (drive l) t = omega (arith, twos_length l, t.0)

text_of : (room : ℕ) (line : List ℕ) (f : Frame) → ReadAs room line f → TextOf line (bytes_of f)
text_of room line f r = record { text = r.text; small = small_bytes f }

pub no_text : (room : ℕ) (line : List ℕ) → ((bytes : List ℕ) → length bytes ≤ most_bytes → TextOf line bytes → ⊥) → (f : Frame) → ReadAs room line f → ⊥
no_text room line h f r = h (bytes_of f) (few_bytes room f r.taken) (text_of room line f r)

module _ (room : ℕ) (line bytes : List ℕ) (t : TextOf line bytes) where
  frames_text : (f : Frame) → BytesAs room bytes f → ReadAs room line f
  frames_text f s = record { text = t.text ∙ ap hex_text s.same; fits = s.fits; taken = s.taken }

  texts_frame : (f : Frame) → ReadAs room line f → BytesAs room bytes f
  texts_frame f r =
      record { same = text_one bytes (bytes_of f) t.small (small_bytes f) (sym t.text ∙ r.text); fits = r.fits; taken = r.taken }

  told_text : (told : Option Line) (nodes nodes' : List ℕ) → Tells (BytesAs room bytes) told nodes nodes' → Tells (ReadAs room line) told nodes nodes'
  told_text (Some (Head n m k)) nodes nodes' h = (frames_text (head n.0 m.0 k.0) h.0, h.1)
  told_text (Some (Arc a b w)) nodes nodes' h = (frames_text (arc a b w) h.0, h.1)
  told_text (Some (Question a b)) nodes nodes' h = (frames_text (question a b) h.0, h.1)
  told_text (Some (Drive c)) nodes nodes' h = (h.0, frames_text (drive h.0) h.1, h.2, h.3)
  told_text None nodes nodes' h = ((λ f r. h.0 f (texts_frame f r)), h.1)

-- a line whose characters are no bytes, and one whose bytes are read
module _ (line nodes : List ℕ) where
  pub line_wrong : ReadsText line None → Reads line None nodes nodes
  line_wrong r = record { tells = (no_text (length nodes) line r.tells, refl) }

  pub line_read : (bytes : Bor (List ℕ)) (told : Option Line) (nodes' : List ℕ) → ReadsText line (Some bytes) → TellsFrame bytes.now told nodes nodes' → Reads line told nodes nodes'
  line_read bytes told nodes' r h = record { tells = told_text (length nodes) line bytes.now r.tells.0 told nodes nodes' h.tells }
