-- What the thinning call promises, of every outcome that its contract allows.
use mathlib.Core.Path.{◌≡◌, refl, sym, ap, subst}
use mathlib.Core.List.{List, [], ◌∷◌, ◌++◌}
use Prim.Native.Nat.{ℕ, suc, ◌+◌, ◌≤◌}
use lib.ListN.{length, get_or, take, drop}
use lib.Seq.{take-append_seam}
use Rattle.paths.specs.Lists.{Different}
use Rattle.road.specs.Chains.{drive_faults}
use Rattle.road.specs.declared.Refusal.{Refusal}
use Rattle.road.specs.Faults.{length_fault}
use Rattle.road.specs.Limits.{road_limits}
use Rattle.road.specs.workings.Verdicts.{Singles}
use Rattle.road.specs.Order.{Numbered, HoldsAt, NoneTo}
use Rattle.road.specs.Refusals.{Said, refusal, answer}
use Rattle.road.specs.Roads.{road}
use Rattle.road.specs.workings.Sound.{Sound}
use Rattle.road.proofs.Faults.{graph_numbered}
use Rattle.road.proofs.Refusals.{of_single, of_number, first_one, first_at, first_not_none, none_front, number_some, refusal_one, refusal_no_answer}
use Rattle.road.proofs.Verdicts.{singles_both, drive_singles}
use Rattle.cover.specs.Calls as covering
use Rattle.rule.specs.Promise.{Covers}
use Rattle.rule.specs.Rule.{PathOf}
use Rattle.cover.proofs.Demands as covers
use Rattle.std.specs.Prelude.{Result, Ok, Err}
use Rattle.drive.specs.declared.PositionCount.{PositionCount}
use Rattle.drive.specs.Calls.{Outcome, refused, thinned, faults_of, said_of}
use Rattle.drive.specs.Promise.{stretch, Includes, KeepsSet}
use Rattle.drive.specs.Thinning.{IsDrive, ThinnedDrive}
use Rattle.drive.proofs.Outcomes.{input_sound, input_drive}
use Rattle.drive.proofs.Unique.{thinned_one}
use Rattle.drive.proofs.Rows.{row_kept, stretch_path}

-- what is said loses nothing of the answer
pub said_one : (a b : Result PositionCount Refusal) → said_of a ≡ said_of b → a ≡ b
said_one (Ok c) (Ok d) e = ap (λ (n : ℕ). Ok (record { 0 = n })) (ap (λ (x : Said). get_or x.values 0 0) e)
said_one (Ok c) (Err r) e = absurd (refusal_no_answer r (c.0 ∷ []) (sym e))
said_one (Err r) (Ok c) e = absurd (refusal_no_answer r (c.0 ∷ []) e)
said_one (Err r) (Err s) e = ap Err (refusal_one r s e)

module _ (starts heads weights bytes drive positions : List ℕ) where
  all_singles : Singles (faults_of starts heads weights bytes drive positions)
  all_singles =
      singles_both (drive_faults starts heads weights bytes drive) (length_fault (length positions) (length drive) ∷ []) (drive_singles starts heads weights bytes drive)
      (of_single, tt)

  -- document 01's order: the faults tell these numbers, one after the other
  pub numbered : Numbered (faults_of starts heads weights bytes drive positions) (1 ∷ 2 ∷ 3 ∷ 6 ∷ 10 ∷ 11 ∷ [])
  numbered =
      let g = graph_numbered road_limits starts heads weights in
      (g.0, (g.1.0, (g.1.1.0, (of_number, (of_number, (of_number, tt))))))

module _ {starts heads weights bytes drive positions : List ℕ} where
  -- two outcomes that the contract allows are equal
  pub outcome_one :
      {said said' : Said} {after after' : List ℕ} → Outcome starts heads weights bytes drive positions said after → Outcome starts heads weights bytes drive positions said' after' →
      (said ≡ said') × (after ≡ after')
  outcome_one (refused {r = r} f) (refused {r = s} g) = (
    ap refusal (first_one (faults_of starts heads weights bytes drive positions) r s (all_singles starts heads weights bytes drive positions) f g),
    refl,
  )
  outcome_one (refused {r = r} f) (thinned n p) = absurd (first_not_none (faults_of starts heads weights bytes drive positions) r f n)
  outcome_one (thinned n p) (refused {r = r} f) = absurd (first_not_none (faults_of starts heads weights bytes drive positions) r f n)
  outcome_one (thinned {kept = l} n p) (thinned {kept = m} o q) =
      let same = thinned_one bytes drive l m p q in
      (ap (λ (k : List ℕ). answer (length k ∷ [])) same, ap (λ (k : List ℕ). k ++ drop (length k) positions) same)

  -- and so are two answers
  pub answer_one :
      (a b : Result PositionCount Refusal) {after after' : List ℕ} → Outcome starts heads weights bytes drive positions (said_of a) after → Outcome starts heads weights bytes drive positions (said_of b) after' →
      (a ≡ b) × (after ≡ after')
  answer_one a b o p = let e = outcome_one o p in (said_one a b e.0, e.1)

  -- an input with two neighbouring faults, and none before them, is refused by the first
  pub in_order :
      {said : Said} {after : List ℕ} → Outcome starts heads weights bytes drive positions said after → (i : ℕ) (r s : Refusal) →
      NoneTo (faults_of starts heads weights bytes drive positions) i → HoldsAt (faults_of starts heads weights bytes drive positions) i r →
      HoldsAt (faults_of starts heads weights bytes drive positions) (suc i) s → said ≡ refusal r
  in_order o i r s n f g = (outcome_one o (refused (first_at (faults_of starts heads weights bytes drive positions) i r n f))).0

-- an outcome that is an answer: nothing was at fault, and the slice's front is the thinned drive, as long as the count says
pub record Answer (starts heads weights bytes drive positions : List ℕ) (count : ℕ) (after : List ℕ) : Type 0 where
  pub sound : Sound road_limits starts heads weights
  pub is_drive : IsDrive starts heads drive
  pub is_thinned : ThinnedDrive bytes drive (take count after)
  pub counted : length (take count after) ≡ count
  pub past : after ≡ take count after ++ drop count positions

module _ {starts heads weights bytes drive positions : List ℕ} where
  answer_by :
      {said : Said} {after : List ℕ} (count : ℕ) → Outcome starts heads weights bytes drive positions said after → said ≡ answer (count ∷ []) →
      Answer starts heads weights bytes drive positions count after
  answer_by count (refused {r = r} f) e = absurd (number_some r (ap (λ (s : Said). s.number) e))
  answer_by count (thinned {kept = kept} n t) e =
      let as_many : length kept ≡ count = ap (λ (s : Said). get_or s.values 0 0) e in
      let input = none_front (drive_faults starts heads weights bytes drive) (length_fault (length positions) (length drive) ∷ []) n in
      let front = take-append_seam kept (drop (length kept) positions) in
      subst (λ (c : ℕ). Answer starts heads weights bytes drive positions c (kept ++ drop (length kept) positions)) as_many
      (record {
        sound = input_sound starts heads weights bytes drive input;
        is_drive = input_drive starts heads weights bytes drive input;
        is_thinned = subst (ThinnedDrive bytes drive) (sym front) t;
        counted = ap length front;
        past = ap (λ (l : List ℕ). l ++ drop (length kept) positions) (sym front);
      })

  pub answer_of :
      {count : ℕ} {after : List ℕ} → Outcome starts heads weights bytes drive positions (answer (count ∷ [])) after →
      Answer starts heads weights bytes drive positions count after
  answer_of {count} o = answer_by count o refl

  -- all that the statements below use of the call
  pub keeps_set : {count : ℕ} {after : List ℕ} → Outcome starts heads weights bytes drive positions (answer (count ∷ [])) after → KeepsSet bytes drive (take count after)
  keeps_set o = record { keeps = λ i h b. (answer_of o).is_thinned.all i (record { position = h; in_set = b }) }

  -- for any set that meets the paths that count: a stretch that counts includes a kept position
  pub any_stretch :
      {count : ℕ} {after : List ℕ} → Outcome starts heads weights bytes drive positions (answer (count ∷ [])) after → {Counts : List ℕ → Type 0} → Covers Counts bytes →
      (i k : ℕ) → i + k ≤ length drive → Counts (stretch drive i k) → Includes (take count after) i k
  any_stretch {count} {after} o c i k h counts = row_kept bytes drive (take count after) c (keeps_set o) i k h counts

  -- for any k-path cover, whatever the weights for which it is one: any k positions in a row with k different nodes include a kept one
  pub any_cover :
      {count : ℕ} {after : List ℕ} → Outcome starts heads weights bytes drive positions (answer (count ∷ [])) after → (lent : List ℕ) (k : ℕ) → 1 ≤ k →
      Covers (PathOf (road starts heads lent) k) bytes → (i : ℕ) → i + k ≤ length drive → Different (stretch drive i k) → Includes (take count after) i k
  any_cover o lent k l c i h u = any_stretch o c i k h (stretch_path starts heads lent drive (answer_of o).is_drive i k l h u)

-- the cover call answers for k of 1 and more only
some_k :
    {starts heads weights : List ℕ} {k : ℕ} {order : List ℕ} {before : covering.Areas} {said : Said} {given : covering.Areas} →
    covering.Outcome starts heads weights k order before said given → said.number ≡ 0 → 1 ≤ k
some_k o e = (covers.answer_of o e).k_right.some

-- for the set that the cover call gives for this graph and k, whatever weights the two calls were lent
pub cover_given :
    {starts heads lent : List ℕ} {k : ℕ} {order : List ℕ} {before : covering.Areas} {said : Said} {given : covering.Areas} {weights drive positions : List ℕ} {count : ℕ}
    {after : List ℕ} → covering.Outcome starts heads lent k order before said given → said.number ≡ 0 →
    Outcome starts heads weights given.cover drive positions (answer (count ∷ [])) after → (i : ℕ) → i + k ≤ length drive → Different (stretch drive i k) →
    Includes (take count after) i k
cover_given {lent = lent} {k = k} c z o i h u = any_cover o lent k (some_k c z) (covers.every_path (covers.answer_of c z)) i h u
