-- A line's characters and its bytes.
use mathlib.Core.Path.{◌≡◌, refl, sym, ap, subst, ◌∙◌}
use mathlib.Core.List.{List, [], ◌∷◌, ◌++◌}
use Prim.Native.Nat.{ℕ, zero, suc, ◌+◌, ◌-◌, ◌*◌, ◌/◌, ◌%◌, ◌≤◌, ◌<◌}
use native.Mathlib.Omega.{arith}
use lib.ListN.{length, get_or, take, drop, set, length-set}
use lib.Seq.{take_all, take-suc-set}
use Rattle.std.specs.Simd.{first_chunks}
use Rattle.paths.specs.Lists.{Each}
use Rattle.hexlines.proofs.Growing.{hex_text_append, hex_text_length}
use Rattle.hexlines.specs.Text.{digit, hex_text}
use Rattle.readings.specs.workings.Readings.{DigitsOf, Reading, TextOf, most_bytes}
use Rattle.readings.proofs.Digits.{digit_one}

pub each_at : (P : ℕ → Type 0) (l : List ℕ) (i : ℕ) → Each P l → i < length l → P (get_or l i 0)
each_at P [] i e h = absurd (omega arith)
each_at P (x ∷ l) zero e h = e.0
each_at P (x ∷ l) (suc i) e h = each_at P l i e.1 (omega arith)

pub each_more : (P : ℕ → Type 0) (l : List ℕ) (x : ℕ) → Each P l → P x → Each P (l ++ (x ∷ []))
each_more P [] x e h = (h, tt)
each_more P (y ∷ l) x e h = (e.0, each_more P l x e.1 h)

-- two more of a list
pub two_more : (l : List ℕ) (k : ℕ) → k + 1 < length l → take (k + 2) l ≡ take k l ++ (get_or l k 0 ∷ get_or l (k + 1) 0 ∷ [])
two_more [] k h = absurd (omega arith)
two_more (x ∷ []) k h = absurd (omega arith)
two_more (x ∷ y ∷ l) zero h = refl
two_more (x ∷ y ∷ l) (suc k) h =
    let e : suc k + 2 ≡ suc (k + 2) = omega arith in
    let f : suc (k + 1) ≡ suc k + 1 = omega arith in
    ap (λ (j : ℕ). take j (x ∷ y ∷ l)) e ∙ ap (λ (r : List ℕ). x ∷ r) (two_more (y ∷ l) k (omega arith)) ∙
    ap (λ (j : ℕ). (x ∷ take k (y ∷ l)) ++ (get_or (y ∷ l) k 0 ∷ get_or (x ∷ y ∷ l) j 0 ∷ [])) f

-- the characters of byte i
pub hex_at : (bs : List ℕ) (i : ℕ) → i < length bs → (get_or (hex_text bs) (2 * i) 0 ≡ digit (get_or bs i 0 / 16)) × (get_or (hex_text bs) (2 * i + 1) 0 ≡ digit (get_or bs i 0 % 16))
hex_at [] i h = absurd (omega arith)
hex_at (b ∷ bs) zero h = (refl, refl)
hex_at (b ∷ bs) (suc i) h =
    let t = hex_at bs i (omega arith) in
    let e : 2 * suc i ≡ suc (suc (2 * i)) = omega arith in
    let f : 2 * suc i + 1 ≡ suc (suc (2 * i + 1)) = omega arith in
    (ap (λ (k : ℕ). get_or (hex_text (b ∷ bs)) k 0) e ∙ t.0, ap (λ (k : ℕ). get_or (hex_text (b ∷ bs)) k 0) f ∙ t.1)

-- a text is that of one list of bytes alone
pub text_one : (bs cs : List ℕ) → Each (λ (b : ℕ). b < 256) bs → Each (λ (b : ℕ). b < 256) cs → hex_text bs ≡ hex_text cs → bs ≡ cs
text_one [] [] e f q = refl
text_one [] (c ∷ cs) e f q = let t = ap length q in absurd (omega arith)
text_one (b ∷ bs) [] e f q = let t = ap length q in absurd (omega arith)
text_one (b ∷ bs) (c ∷ cs) e f q =
    let hb = e.0 in
    let hc = f.0 in
    let high = digit_one (b / 16) (c / 16) (omega arith) (omega arith) (ap (λ (l : List ℕ). get_or l 0 0) q) in
    let low = digit_one (b % 16) (c % 16) (omega arith) (omega arith) (ap (λ (l : List ℕ). get_or l 1 0) q) in
    let same : b ≡ c = omega arith in
    let rest = text_one bs cs e.1 f.1 (ap (λ (l : List ℕ). drop 2 l) q) in
    λ i. same i ∷ rest i

text_long : (line bytes : List ℕ) → TextOf line bytes → length line ≡ 2 * length bytes
text_long line bytes t = ap length t.text ∙ hex_text_length bytes

pub too_long : (line : List ℕ) → 260 < length line → (bytes : List ℕ) → length bytes ≤ most_bytes → TextOf line bytes → ⊥
too_long line h bytes m t = omega (arith, text_long line bytes t)

pub odd : (line : List ℕ) → 1 ≤ length line % 2 → (bytes : List ℕ) → length bytes ≤ most_bytes → TextOf line bytes → ⊥
odd line h bytes m t = let e = text_long line bytes t in omega arith

-- all but the first, as a pattern gives it
pub after_first : (l : List ℕ) → take (length l - 1) (drop 1 l) ≡ drop 1 l
after_first [] = refl
after_first (x ∷ l) = take_all (suc (length l) - 1) l (omega arith)

-- the two entries of a list that are its pair i
pub record PairAt (l : List ℕ) (i : ℕ) (pair : List ℕ) : Type 0 where
  pub within : 2 * i + 1 < length l
  pub high : get_or pair 0 0 ≡ get_or l (2 * i) 0
  pub low : get_or pair 1 0 ≡ get_or l (2 * i + 1) 0

chunk_at : (l : List ℕ) (n i : ℕ) (d : List ℕ) → i < n → 2 * n ≤ length l → PairAt l i (get_or (first_chunks 2 n l) i d)
chunk_at l zero i d h k = absurd (omega arith)
chunk_at [] (suc n) i d h k = absurd (omega arith)
chunk_at (x ∷ []) (suc n) i d h k = absurd (omega arith)
chunk_at (x ∷ y ∷ l) (suc n) zero d h k = record { within = omega arith; high = refl; low = refl }
chunk_at (x ∷ y ∷ l) (suc n) (suc i) d h k =
    let t = chunk_at l n i d (omega arith) (omega arith) in
    let e : suc (suc (2 * i)) ≡ 2 * suc i = omega arith in
    let f : suc (suc (2 * i + 1)) ≡ 2 * suc i + 1 = omega arith in
    record {
      within = omega (arith, t.within);
      high = t.high ∙ ap (λ (j : ℕ). get_or (x ∷ y ∷ l) j 0) e;
      low = t.low ∙ ap (λ (j : ℕ). get_or (x ∷ y ∷ l) j 0) f;
    }

pub pair_at :
    (m l : List ℕ) (pairs : List (List ℕ)) (i : ℕ) (d : List ℕ) → m ≡ l → pairs ≡ first_chunks 2 (length m / 2) m → length pairs ≡ length m / 2 →
    i < length pairs → PairAt l i (get_or pairs i d)
pair_at m l pairs i d q e n h =
    subst (λ (k : List ℕ). PairAt k i (get_or pairs i d)) q
    (subst (λ (ps : List (List ℕ)). PairAt m i (get_or ps i d)) (sym e) (chunk_at m (length m / 2) i d (omega arith) (omega arith)))

module _ (line room : List ℕ) (i : ℕ) (r : Reading line room i) (pair : List ℕ) (a : PairAt line i pair) where
  pub reading_more : (b : ℕ) → i < most_bytes → DigitsOf (get_or pair 0 0) (get_or pair 1 0) b → Reading line (set room i b) (i + 1)
  reading_more b k d =
      let next : suc i ≡ i + 1 = omega arith in
      let twice : 2 * i + 2 ≡ 2 * (i + 1) = omega arith in
      let fits : i < length room = omega (arith, r.long) in
      let taken : take (i + 1) (set room i b) ≡ take i room ++ (b ∷ []) = ap (λ (j : ℕ). take j (set room i b)) (sym next) ∙ take-suc-set room i b fits in
      let first = sym a.high ∙ d.first in
      let second = sym a.low ∙ d.second in
      record {
        long = length-set room i b ∙ r.long;
        within = omega (arith, a.within);
        text =
            ap (λ (j : ℕ). take j line) (sym twice) ∙ two_more line (2 * i) a.within ∙ (λ j. r.text j ++ (first j ∷ second j ∷ [])) ∙
            sym (ap hex_text taken ∙ hex_text_append (take i room) (b ∷ []));
        small = subst (Each (λ (x : ℕ). x < 256)) (sym taken) (each_more (λ (x : ℕ). x < 256) (take i room) b r.small d.byte);
      }

  pub reading_stop :
      ((b : ℕ) → DigitsOf (get_or pair 0 0) (get_or pair 1 0) b → ⊥) → (bytes : List ℕ) → length bytes ≤ most_bytes → TextOf line bytes → ⊥
  reading_stop none bytes m t =
      let k : i < length bytes = omega (arith, text_long line bytes t, a.within) in
      none (get_or bytes i 0)
      (record {
        byte = each_at (λ (x : ℕ). x < 256) bytes i t.small k;
        first = a.high ∙ ap (λ (l : List ℕ). get_or l (2 * i) 0) t.text ∙ (hex_at bytes i k).0;
        second = a.low ∙ ap (λ (l : List ℕ). get_or l (2 * i + 1) 0) t.text ∙ (hex_at bytes i k).1;
      })
