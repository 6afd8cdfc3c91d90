-- Texts written one after the other over one list.
use mathlib.Core.Path.{◌≡◌, refl, sym, ap, ◌∙◌, subst}
use mathlib.Core.List.{List, [], ◌∷◌, ◌++◌}
use Prim.Native.Nat.{ℕ, zero, suc, ◌+◌, ◌*◌, ◌/◌, ◌%◌, ◌≤◌, ◌<◌}
use native.Mathlib.Nat.{add-zero}
use native.Mathlib.Omega.{arith}
use lib.ListN.{length, get_or, set, take, drop, length-append}
use Rattle.std.proofs.lemmas.List.{length-take-le}
use lib.Seq.{sets, length-sets, sets-eq, take-suc, take-length}
use Rattle.hexlines.specs.declared.Writer.{Writer}
use Rattle.hexlines.specs.Text.{digit, hex_text}
use Rattle.hexlines.specs.Outputs.{one, ones, kept, out_text}
use Rattle.hexlines.specs.Writers.{grown, Wrote, Writes}

sets_append : (ts us l : List ℕ) (i : ℕ) → sets l i (ts ++ us) ≡ sets (sets l i ts) (i + length ts) us
sets_append [] us l i = ap (λ (k : ℕ). sets l k us) (sym (add-zero i))
sets_append (t ∷ ts) us l i =
    sets_append ts us (set l i t) (suc i) ∙
    ap (λ (k : ℕ). sets (sets (set l i t) (suc i) ts) k us) (omega arith)

-- the slice keeps its length
pub wrote_long : (l : List ℕ) (i : ℕ) (ts m : List ℕ) (j : ℕ) → Wrote l i ts m j → length m ≡ length l
wrote_long l i ts m j w = ap length w.text ∙ length-sets l i ts

-- nothing
pub wrote_none : (l : List ℕ) (i : ℕ) → i ≤ length l → Wrote l i [] l i
wrote_none l i h = record { next = sym (add-zero i); room = h; text = refl }

-- one text and then another
pub wrote_then : (l : List ℕ) (i : ℕ) (ts m : List ℕ) (j : ℕ) (us p : List ℕ) (k : ℕ) → Wrote l i ts m j → Wrote m j us p k → Wrote l i (ts ++ us) p k
wrote_then l i ts m j us p k a b =
    record {
      next = omega (arith, a.next, b.next, length-append ts us);
      room = omega (arith, b.room, wrote_long l i ts m j a);
      text =
          b.text ∙ ap (λ (x : List ℕ). sets x j us) a.text ∙ ap (λ (x : ℕ). sets (sets l i ts) x us) a.next ∙
          sym (sets_append ts us l i);
    }

-- the reader's form: the text stands at its place, and all else is as it was
pub means : (l : List ℕ) (i : ℕ) (ts m : List ℕ) (j : ℕ) → Wrote l i ts m j → m ≡ take i l ++ ts ++ drop j l
means l i ts m j w =
    w.text ∙ sets-eq ts l i (omega (arith, w.next, w.room)) ∙ ap (λ (k : ℕ). take i l ++ ts ++ drop k l) (sym w.next)

pub hex_text_append : (a b : List ℕ) → hex_text (a ++ b) ≡ hex_text a ++ hex_text b
hex_text_append [] b = refl
hex_text_append (x ∷ a) b = ap (λ (t : List ℕ). digit (x / 16) ∷ digit (x % 16) ∷ t) (hex_text_append a b)

pub hex_text_length : (bs : List ℕ) → length (hex_text bs) ≡ 2 * length bs
hex_text_length [] = refl
hex_text_length (x ∷ bs) = let t = hex_text_length bs in omega arith

-- the same of a writer, which holds one slice throughout
pub writes_none : (w : Writer) → w.at ≤ length w.buf.now → Writes w [] w
writes_none w h = record { wrote = wrote_none w.buf.now w.at h; same = refl }

pub writes_then : (w : Writer) (ts : List ℕ) (v : Writer) (us : List ℕ) (u : Writer) → Writes w ts v → Writes v us u → Writes w (ts ++ us) u
writes_then w ts v us u a b =
    record {
      wrote = wrote_then w.buf.now w.at ts v.buf.now v.at us u.buf.now u.at a.wrote b.wrote;
      same = b.same ∙ a.same;
    }

pub writes_long : (w : Writer) (ts : List ℕ) (v : Writer) → Writes w ts v → length v.buf.now ≡ length w.buf.now
writes_long w ts v a = wrote_long w.buf.now w.at ts v.buf.now v.at a.wrote

-- one byte, as `byte` leaves it
pub writes_byte : (w : Writer) (b : ℕ) → w.at + 1 < length w.buf.now → Writes w (hex_text (b ∷ [])) (grown w b)
writes_byte w b h =
    record {
      wrote =
          record {
            next = refl;
            room = omega arith;
            text = ap (λ (k : ℕ). set (set w.buf.now w.at (digit (b / 16))) k (digit (b % 16))) (omega arith);
          };
      same = refl;
    }

-- the place and the room once the bytes before p are written
pub writes_room :
    (w : Writer) (bs : List ℕ) (p : ℕ) (v : Writer) → w.at + 2 * length bs ≤ length w.buf.now → p < length bs → Writes w (hex_text (take p bs)) v →
    v.at + 1 < length v.buf.now
writes_room w bs p v h k a =
    let next = a.wrote.next in
    omega (arith, hex_text_length (take p bs), length-take-le p bs (omega arith), writes_long w (hex_text (take p bs)) v a)

-- the bytes before p and then the byte at p
pub writes_more :
    (w : Writer) (bs : List ℕ) (p : ℕ) (v u : Writer) → w.at + 2 * length bs ≤ length w.buf.now → p < length bs → Writes w (hex_text (take p bs)) v →
    u ≡ grown v (get_or bs p 0) → Writes w (hex_text (take (p + 1) bs)) u
writes_more w bs p v u h k a e =
    let b : ℕ = get_or bs p 0 in
    let one : suc p ≡ p + 1 = omega arith in
    let text : hex_text (take p bs) ++ hex_text (b ∷ []) ≡ hex_text (take (p + 1) bs) =
    sym (hex_text_append (take p bs) (b ∷ [])) ∙ ap hex_text (sym (take-suc bs p 0 k)) ∙ ap (λ (k : ℕ). hex_text (take k bs)) one in
    subst (λ (ts : List ℕ). Writes w ts u) text
    (writes_then w (hex_text (take p bs)) v (hex_text (b ∷ [])) u a
    (subst (λ (x : Writer). Writes v (hex_text (b ∷ [])) x) (sym e) (writes_byte v b (writes_room w bs p v h k a))))

pub writes_all : (w : Writer) (bs : List ℕ) (p : ℕ) (v : Writer) → p ≡ length bs → Writes w (hex_text (take p bs)) v → Writes w (hex_text bs) v
writes_all w bs p v e = subst (λ (x : List ℕ). Writes w (hex_text x) v) (ap (λ (k : ℕ). take k bs) e ∙ take-length bs)

-- the room for the line feed after the bytes
pub writes_end :
    (w : Writer) (bs : List ℕ) (v : Writer) → w.at + 2 * length bs < length w.buf.now → Writes w (hex_text bs) v → v.at < length v.buf.now
writes_end w bs v h a = let next = a.wrote.next in omega (arith, hex_text_length bs, writes_long w (hex_text bs) v a)

-- the same over the low bytes of numbers
ones_length : (ns : List ℕ) → length (ones ns) ≡ length ns
ones_length [] = refl
ones_length (x ∷ ns) = ap suc (ones_length ns)

ones_at : (ns : List ℕ) (p : ℕ) → get_or (ones ns) p 0 ≡ get_or ns p 0 % 256
ones_at [] p = refl
ones_at (x ∷ ns) zero = refl
ones_at (x ∷ ns) (suc p) = ones_at ns p

module _ (w : Writer) (ns : List ℕ) (h : w.at + 2 * length ns < length w.buf.now) where
  ones_fit : w.at + 2 * length (ones ns) ≤ length w.buf.now
  ones_fit = omega (arith, ones_length ns)

  module _ (p : ℕ) (v : Writer) (k : p < length ns) (a : Writes w (hex_text (take p (ones ns))) v) where
    pub ones_room : v.at + 1 < length v.buf.now
    ones_room = writes_room w (ones ns) p v ones_fit (omega (arith, ones_length ns)) a

    pub ones_more : (u : Writer) (b : ℕ) → b ≡ get_or ns p 0 % 256 → u ≡ grown v b → Writes w (hex_text (take (p + 1) (ones ns))) u
    ones_more u b q e =
        writes_more w (ones ns) p v u ones_fit (omega (arith, ones_length ns)) a (e ∙ ap (grown v) (q ∙ sym (ones_at ns p)))

-- two bytes, the numbers, and the line feed
module _ (w : Writer) (ns : List ℕ) (h : w.at + 2 * length ns + 5 ≤ length w.buf.now) (v : Writer) (b : ℕ) (a : Writes w (hex_text (176 ∷ b ∷ [])) v) where
  pub kept_fits : v.at + 2 * length ns < length v.buf.now
  kept_fits = let next = a.wrote.next in omega (arith, writes_long w (hex_text (176 ∷ b ∷ [])) v a)

  module _ (p : ℕ) (e : p ≡ length ns) (u : Writer) (c : Writes v (hex_text (take p (ones ns))) u) where
    kept_written : Writes v (hex_text (ones ns)) u
    kept_written = writes_all v (ones ns) p u (e ∙ sym (ones_length ns)) c

    pub kept_room : u.at < length u.buf.now
    kept_room = writes_end v (ones ns) u (omega (arith, ones_length ns, kept_fits)) kept_written

    pub writes_kept : (t : Writer) → b ≡ length ns % 256 → Writes u (10 ∷ []) t → Writes w (out_text (kept ns)) t
    writes_kept t q d =
        writes_then w (hex_text (176 ∷ one (length ns) ++ ones ns)) u (10 ∷ []) t
        (subst (λ (k : ℕ). Writes w (hex_text (176 ∷ k ∷ ones ns)) u) q
        (writes_then w (hex_text (176 ∷ b ∷ [])) v (hex_text (ones ns)) u a kept_written))
        d
