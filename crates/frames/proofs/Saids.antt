-- What the calls say, as what the step does.
use mathlib.Core.Path.{◌≡◌, refl, sym, ap, subst, ◌∙◌}
use Rattle.std.specs.Prelude.{Option, Some, None as Nothing, Ok, Err}
use mathlib.Core.List.{List, [], ◌∷◌, ◌++◌}
use Prim.Native.Nat.{ℕ, ◌≤◌}
use native.Mathlib.Omega.{arith}
use lib.ListN.{length, get_or, take, drop, length-append, replicate}
use lib.Seq.{take-append_seam, length-take-le}
use Rattle.road.specs.declared.Refusal.{Refusal}
use Rattle.road.specs.Chains.{drive_faults}
use Rattle.road.specs.Faults.{length_fault}
use Rattle.road.specs.Refusals.{Fault, None, Said, refusal, answer}
use Rattle.distance.specs.Calls.{said_of as distance_said}
use Rattle.distance.specs.Calls as D
use Rattle.drive.specs.Calls as T
use Rattle.drive.specs.Thinning.{ThinnedDrive}
use Rattle.hexlines.specs.Outputs.{way, no_way, kept, refused, out_text}
use Rattle.hexlines.specs.Writers.{Writes}
use Rattle.hexlines.specs.declared.Writer.{Writer}
use Rattle.maps.proofs.Founds.{first_of, none_of}
use Rattle.maps.proofs.Printed.{line_one}
use Rattle.maps.specs.workings.Calls.{PairFound}
use Rattle.frames.specs.workings.Held.{Answered, Thinned}
use Rattle.frames.specs.Steps.{Map, asking, stopped, Answers, Thins, refused_by, not_asked, a_way, none, no_drive, thinned}

-- how many values are said
abbrev pub size : Said → ℕ
size s = length s.values

module _ (M : Map) (a b : ℕ) where
  abbrev Found : Said → Type 0
  Found = PairFound M.starts M.heads M.weights M.chosen M.over_starts M.over_heads M.over_weights a b

  pair_refused : (ℓ : ℕ) (said : Said) (r : Refusal) → said ≡ refusal r → Found said → Answers ℓ M a b stopped (refused_by r ℓ)
  pair_refused ℓ said r e (PairFound.refused f) =
      subst (λ (n : ℕ). Answers ℓ M a b stopped (refused n ℓ ∷ [])) (ap (λ (s : Said). s.number) e) (not_asked f)
  pair_refused ℓ said r e (PairFound.answered n (D.Answers.way l)) = let z = ap size e in absurd (omega arith)
  pair_refused ℓ said r e (PairFound.answered n (D.Answers.no_way l)) = let z = ap size e in absurd (omega arith)

  pair_way : (ℓ : ℕ) (said : Said) (d : ℕ) → said ≡ answer (1 ∷ d ∷ []) → Found said → Answers ℓ M a b (asking M) (way a b d ∷ [])
  pair_way ℓ said d e (PairFound.refused f) = let z = ap size e in absurd (omega arith)
  pair_way ℓ said d e (PairFound.answered n (D.Answers.way l)) =
      subst (λ (x : ℕ). Answers ℓ M a b (asking M) (way a b x ∷ [])) (ap (λ (s : Said). get_or s.values 1 0) e) (a_way n l)
  pair_way ℓ said d e (PairFound.answered n (D.Answers.no_way l)) = let z = ap size e in absurd (omega arith)

  pair_none : (ℓ : ℕ) (said : Said) → said ≡ answer (0 ∷ []) → Found said → Answers ℓ M a b (asking M) (no_way a b ∷ [])
  pair_none ℓ said e (PairFound.refused f) = let z = ap size e in absurd (omega arith)
  pair_none ℓ said e (PairFound.answered n (D.Answers.way l)) = let z = ap size e in absurd (omega arith)
  pair_none ℓ said e (PairFound.answered n (D.Answers.no_way l)) = none n l

  pub question_refused : (r : Refusal) (w : Writer) → Found (refusal r) → Answered M a b (Err r) w w
  question_refused r w p = record { does = λ ℓ. pair_refused ℓ (refusal r) r refl p; same = refl }

  module _ (found : Option ℕ) (p : Found (distance_said (Ok found))) (w w' : Writer) where
    pub question_way : (d : ℕ) → found ≡ Some d → Writes w (out_text (way a b d)) w' → Answered M a b (Ok tt) w w'
    question_way d e t =
        record {
          outs = way a b d ∷ [];
          does = λ ℓ. pair_way ℓ (distance_said (Ok found)) d (ap (λ (o : Option ℕ). distance_said (Ok o)) e) p;
          wrote = line_one w (way a b d) w' t;
        }

    pub question_none : found ≡ Nothing → Writes w (out_text (no_way a b)) w' → Answered M a b (Ok tt) w w'
    question_none e t =
        record {
          outs = no_way a b ∷ [];
          does = λ ℓ. pair_none ℓ (distance_said (Ok found)) (ap (λ (o : Option ℕ). distance_said (Ok o)) e) p;
          wrote = line_one w (no_way a b) w' t;
        }

-- drives: the front of an array of zeros
pub room_long : (n : ℕ) → n ≤ 64 → length (take n (replicate {A = ℕ} 64 0)) ≡ n
room_long n h = length-take-le n (replicate {A = ℕ} 64 0) h

module _ (M : Map) (nodes positions : List ℕ) (alike : length positions ≡ length nodes) where
  abbrev Faults : List Fault
  Faults = drive_faults M.starts M.heads M.weights M.chosen nodes

  long_fault : (s : Refusal) → length_fault (length positions) (length nodes) s → ⊥
  long_fault s f = f.holds alike

  thin_refused :
      (ℓ : ℕ) (said : Said) (after : List ℕ) (r : Refusal) → said ≡ refusal r → T.Outcome M.starts M.heads M.weights M.chosen nodes positions said after →
      Thins ℓ M nodes stopped (refused_by r ℓ)
  thin_refused ℓ said after r e (T.refused {r = r'} f) =
      subst (λ (n : ℕ). Thins ℓ M nodes stopped (refused n ℓ ∷ [])) (ap (λ (s : Said). s.number) e)
      (no_drive (first_of Faults (length_fault (length positions) (length nodes)) r' long_fault f))
  thin_refused ℓ said after r e (T.thinned n t) = let z = ap size e in absurd (omega arith)

  pub drive_refused :
      (after : List ℕ) (r : Refusal) (w : Writer) → T.Outcome M.starts M.heads M.weights M.chosen nodes positions (refusal r) after →
      Thinned M nodes (Err r) w w
  drive_refused after r w o =
      record { does = λ ℓ. thin_refused ℓ (refusal r) after r refl o; same = refl }

  -- the kept positions stand at the front
  record ThinKept (c : ℕ) (after : List ℕ) : Type 0 where
    pub list : List ℕ
    pub none_of_faults : None Faults
    pub thin : ThinnedDrive M.chosen nodes list
    pub count : length list ≡ c
    pub whole : after ≡ list ++ drop (length list) positions

  thin_kept :
      (said : Said) (after : List ℕ) (c : ℕ) → said ≡ answer (c ∷ []) → T.Outcome M.starts M.heads M.weights M.chosen nodes positions said after → ThinKept c after
  thin_kept said after c e (T.refused f) = let z = ap size e in absurd (omega arith)
  thin_kept said after c e (T.thinned {kept = list} n t) =
      record {
        list = list;
        none_of_faults = none_of Faults (length_fault (length positions) (length nodes)) n;
        thin = t;
        count = ap (λ (s : Said). get_or s.values 0 0) e;
        whole = refl;
      }

  module _ (after : List ℕ) (c : ℕ) (o : T.Outcome M.starts M.heads M.weights M.chosen nodes positions (answer (c ∷ [])) after) where
    kept_of : ThinKept c after
    kept_of = thin_kept (answer (c ∷ [])) after c refl o

    front_kept : take c after ≡ kept_of.list
    front_kept =
        let k = kept_of in
        ap (λ (j : ℕ). take j after) (sym k.count) ∙ ap (take (length k.list)) k.whole ∙ take-append_seam k.list (drop (length k.list) positions)

    pub kept_long : c ≡ length (take c after)
    kept_long = sym (ap length front_kept ∙ kept_of.count)

    pub kept_fits : length after ≡ length positions → c ≤ length nodes
    kept_fits long =
        let k = kept_of in
        let a = ap length k.whole in
        let b = length-append k.list (drop (length k.list) positions) in
        let d = k.count in omega arith

    pub drive_kept : (w w' : Writer) → Writes w (out_text (kept (take c after))) w' → Thinned M nodes (Ok tt) w w'
    drive_kept w w' t =
        record {
          outs = kept kept_of.list ∷ [];
          does = λ ℓ. thinned kept_of.none_of_faults kept_of.thin;
          wrote = line_one w (kept kept_of.list) w' (subst (λ (x : List ℕ). Writes w (out_text (kept x)) w') front_kept t);
        }
