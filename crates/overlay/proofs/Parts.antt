-- The part of a slice from a place on, and the slice once that part is back.
use mathlib.Core.Path.{◌≡◌, sym, ap, ◌∙◌}
use mathlib.Core.List.{List, ◌++◌}
use Prim.Native.Nat.{ℕ, ◌+◌, ◌-◌, ◌≤◌, ◌<◌}
use native.Mathlib.Decide.{dec_lt}
use native.Mathlib.Omega.{arith}
use borrow.Rule.Slice.PartMut.{mid_of, put_mid, post_of, same_len_mid}
use lib.ListN.{length, get_or, take, drop, length-drop, get_or-append, get_or-eq_default}
use lib.Seq.{get_or-take, get_or-drop, get_or-append-add, length-take-le}

module _ (c : ℕ) (xs : List ℕ) (h : c ≤ length xs) where
  pub part_long : length (mid_of c (length xs - c) xs) ≡ length xs - c
  part_long = length-take-le (length xs - c) (drop c xs) (omega (arith, length-drop c xs))

  pub part_at : (p : ℕ) → get_or (mid_of c (length xs - c) xs) p 0 ≡ get_or xs (c + p) 0
  part_at p = by (dec_lt p (length xs - c))
    where
      by : Dec (p < length xs - c) → get_or (mid_of c (length xs - c) xs) p 0 ≡ get_or xs (c + p) 0
      by (yes l) = get_or-take (length xs - c) (drop c xs) p 0 l ∙ get_or-drop c xs p 0
      by (no n) =
          get_or-eq_default (mid_of c (length xs - c) xs) 0 {n = p} (omega (arith, part_long)) ∙
          sym (get_or-eq_default xs 0 {n = c + p} (omega arith))

  front : length (take c xs) ≡ c
  front = length-take-le c xs h

  module _ (ys : List ℕ) (e : length ys ≡ length (mid_of c (length xs - c) xs)) where
    abbrev rest : List ℕ
    rest = ys ++ post_of c (length xs - c) xs

    pub put_long : length (put_mid c (length xs - c) xs ys) ≡ length xs
    put_long = same_len_mid c (length xs - c) xs ys e

    pub put_before : (p : ℕ) → p < c → get_or (put_mid c (length xs - c) xs ys) p 0 ≡ get_or xs p 0
    put_before p l = get_or-append (take c xs) rest 0 p (omega (arith, front)) ∙ get_or-take c xs p 0 l

    pub put_within : (p : ℕ) → get_or (put_mid c (length xs - c) xs ys) (c + p) 0 ≡ get_or ys p 0
    put_within p = by (dec_lt p (length ys))
      where
        by : Dec (p < length ys) → get_or (put_mid c (length xs - c) xs ys) (c + p) 0 ≡ get_or ys p 0
        by (yes l) =
            ap (λ (k : ℕ). get_or (take c xs ++ rest) (k + p) 0) (sym front) ∙ get_or-append-add (take c xs) rest p 0 ∙
            get_or-append ys (post_of c (length xs - c) xs) 0 p l
        by (no n) =
            get_or-eq_default (put_mid c (length xs - c) xs ys) 0 {n = c + p} (omega (arith, put_long, e, part_long)) ∙
            sym (get_or-eq_default ys 0 {n = p} (omega arith))
