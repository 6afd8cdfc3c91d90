-- The pass over the drive, position by position.
use mathlib.Core.Path.{◌≡◌, refl, sym, ap, subst, subst₂, ◌∙◌}
use mathlib.Core.Bool.{true, false}
use mathlib.Core.Logic.{◌⊎◌, inl, inr, ⊎_elim, ◌≢◌}
use mathlib.Core.List.{List, [], ◌∷◌, ◌++◌}
use Prim.Native.Nat.{ℕ, suc, ◌+◌, ◌≤◌, ◌<◌}
use native.Mathlib.Decide.{ℕ_discrete}
use native.Mathlib.Numerals.{add-one}
use native.Mathlib.Omega.{arith}
use lib.ListN.{length, get_or, set, drop, length-set, length-append}
use lib.Seq.{append_snoc, drop-cons, set_at}
use Rattle.paths.specs.Lists.{Mem, Each}
use Rattle.paths.proofs.Lists.{each_mem, mem_cases, mem_left, mem_right, mem_each}
use Rattle.road.specs.workings.Verdicts.{Tells}
use Rattle.road.proofs.Refusals.{tells_yes, tells_no}
use Rattle.drive.specs.Thinning.{Ascending, ListOf, Kept, ThinnedDrive}
use Rattle.drive.specs.workings.Picking.{KeptBefore, Fits, Picking}

-- the ascending list of some numbers depends on the numbers alone
pub list_same : {P Q : ℕ → Type 0} (l : List ℕ) → ((i : ℕ) → P i → Q i) → ((i : ℕ) → Q i → P i) → ListOf P l → ListOf Q l
list_same l f g o = record { ascends = o.ascends; only = λ i h. f i (o.only i h); all = λ i q. o.all i (g i q) }

-- a number above all goes to the end
ascending_more : (l : List ℕ) (x : ℕ) → Ascending l → Each (λ (y : ℕ). y < x) l → Ascending (l ++ (x ∷ []))
ascending_more [] x a e = (tt, tt)
ascending_more (y ∷ l) x a e = (
  mem_each (λ (z : ℕ). y < z) (l ++ (x ∷ []))
      (λ z h. ⊎_elim (λ m. each_mem (λ (w : ℕ). y < w) z l a.0 m) (⊎_elim (λ q. omega (arith, e.0)) absurd) (mem_cases z l (x ∷ []) h)),
  ascending_more l x a.1 e.1,
)

-- what the byte of a position's node tells
module _ (bytes drive : List ℕ) (i v : ℕ) (e : v ≡ get_or drive i 0) where
  pub tells_kept : i < length drive → get_or bytes v 0 ≡ 1 → Tells true (Kept bytes drive i)
  tells_kept h b = tells_yes (record { position = h; in_set = ap (λ (x : ℕ). get_or bytes x 0) (sym e) ∙ b })

  pub tells_not_kept : get_or bytes v 0 ≢ 1 → Tells false (Kept bytes drive i)
  tells_not_kept n = tells_no (λ k. n (ap (λ (x : ℕ). get_or bytes x 0) e ∙ k.in_set))

module _ (bytes drive positions : List ℕ) where
  pub picking_none : Picking bytes drive positions 0 positions 0
  picking_none =
      record {
        kept = [];
        picks = record { ascends = tt; only = λ i h. absurd h; all = λ i k. absurd (omega (arith, k.before)) };
        count_right = refl;
        whole = refl;
        few = omega arith;
        within = omega arith;
        long = refl;
      }

  pub picking_same :
      (i : ℕ) (positions' positions'' : List ℕ) (count count' : ℕ) → Picking bytes drive positions i positions' count → positions'' ≡ positions' → count' ≡ count →
      Picking bytes drive positions i positions'' count'
  picking_same i positions' positions'' count count' p e f = subst₂ (λ (l : List ℕ) (n : ℕ). Picking bytes drive positions i l n) (sym e) (sym f) p

  -- a position that is not kept changes nothing
  pub picking_missed :
      (i : ℕ) (positions' : List ℕ) (count : ℕ) → Picking bytes drive positions i positions' count → i < length drive → (Kept bytes drive i → ⊥) → Picking bytes drive positions (i + 1) positions' count
  picking_missed i positions' count p h n =
      record {
        kept = p.kept;
        picks = list_same p.kept more less p.picks;
        count_right = p.count_right;
        whole = p.whole;
        few = omega (arith, p.few);
        within = omega arith;
        long = p.long;
      }
    where
      more : (q : ℕ) → KeptBefore bytes drive i q → KeptBefore bytes drive (i + 1) q
      more q k = record { before = omega (arith, k.before); is_kept = k.is_kept }

      less : (q : ℕ) → KeptBefore bytes drive (i + 1) q → KeptBefore bytes drive i q
      less q k = by (ℕ_discrete q i)
        where
          by : Dec (q ≡ i) → KeptBefore bytes drive i q
          by (yes e) = absurd (n (subst (Kept bytes drive) e k.is_kept))
          by (no d) = record { before = omega (arith, d, k.before); is_kept = k.is_kept }

  -- a position that is kept is written after those before it
  pub picking_met :
      (i : ℕ) (positions' : List ℕ) (count : ℕ) → Picking bytes drive positions i positions' count → Kept bytes drive i → count < length positions →
      Picking bytes drive positions (i + 1) (set positions' count i) (count + 1)
  picking_met i positions' count p k h =
      record {
        kept = p.kept ++ (i ∷ []);
        picks = record { ascends = ascending_more p.kept i p.picks.ascends below; only = only; all = all };
        count_right = length-append p.kept (i ∷ []) ∙ omega (arith, p.count_right);
        whole = written;
        few = omega (arith, p.few);
        within = omega (arith, k.position);
        long = length-set positions' count i ∙ p.long;
      }
    where
      below : Each (λ (y : ℕ). y < i) p.kept
      below = mem_each (λ (y : ℕ). y < i) p.kept (λ y m. (p.picks.only y m).before)

      only : (q : ℕ) → Mem q (p.kept ++ (i ∷ [])) → KeptBefore bytes drive (i + 1) q
      only q m = by (mem_cases q p.kept (i ∷ []) m)
        where
          by : Mem q p.kept ⊎ Mem q (i ∷ []) → KeptBefore bytes drive (i + 1) q
          by (inl a) = record { before = omega (arith, (p.picks.only q a).before); is_kept = (p.picks.only q a).is_kept }
          by (inr (inl e)) = record { before = omega arith; is_kept = subst (Kept bytes drive) (sym e) k }
          by (inr (inr a)) = absurd a

      all : (q : ℕ) → KeptBefore bytes drive (i + 1) q → Mem q (p.kept ++ (i ∷ []))
      all q b = by (ℕ_discrete q i)
        where
          by : Dec (q ≡ i) → Mem q (p.kept ++ (i ∷ []))
          by (yes e) = mem_right q p.kept (i ∷ []) (inl e)
          by (no d) = mem_left q p.kept (i ∷ []) (p.picks.all q (record { before = omega (arith, d, b.before); is_kept = b.is_kept }))

      written : set positions' count i ≡ p.kept ++ (i ∷ []) ++ drop (count + 1) positions
      written =
          ap (λ (l : List ℕ). set l count i) (p.whole ∙ ap (λ (l : List ℕ). p.kept ++ l) (drop-cons positions count 0 h)) ∙
          set_at p.kept (get_or positions count 0) (drop (suc count) positions) i count p.count_right ∙
          sym (append_snoc p.kept i (drop (suc count) positions)) ∙
          ap (λ (n : ℕ). p.kept ++ (i ∷ []) ++ drop n positions) (sym (add-one count))

  -- there is room for one more as long as a position is left
  pub picking_room : (i : ℕ) (positions' : List ℕ) (count : ℕ) → Picking bytes drive positions i positions' count → Fits bytes drive positions → i < length drive → count < length positions
  picking_room i positions' count p f h = omega (arith, p.few, f.room)

  -- at the end of the drive it is thinned
  pub picking_end : (positions' : List ℕ) (count : ℕ) (p : Picking bytes drive positions (length drive) positions' count) → ThinnedDrive bytes drive p.kept
  picking_end positions' count p =
      list_same p.kept (λ i k. k.is_kept) (λ i k. record { before = k.position; is_kept = k }) p.picks

  -- which is where no position is left
  pub picking_all :
      (i : ℕ) (positions' : List ℕ) (count : ℕ) → Picking bytes drive positions i positions' count → length drive ≤ i → Picking bytes drive positions (length drive) positions' count
  picking_all i positions' count p h = subst (λ (n : ℕ). Picking bytes drive positions n positions' count) (omega (arith, p.within)) p
