-- What the cover call promises, of every outcome that its contract allows.
use mathlib.Core.Path.{◌≡◌, refl, sym, ap, subst, ◌∙◌}
use mathlib.Core.Logic.{inl}
use mathlib.Core.List.{List, [], ◌∷◌}
use Prim.Native.Nat.{ℕ, suc, ◌+◌, ◌<◌}
use native.Mathlib.Omega.{arith}
use lib.ListN.{length, get_or, replicate}
use Rattle.paths.specs.Graphs.{Graph, Along, stop, step}
use Rattle.paths.specs.Lists.{Mem}
use Rattle.paths.proofs.Lists.{each_mem}
use Rattle.paths.proofs.Weights.{path_short}
use Rattle.road.specs.Chains.{cover_faults}
use Rattle.road.specs.Counting.{times}
use Rattle.road.specs.declared.Refusal.{Refusal}
use Rattle.road.specs.Faults.{Permutation, lengths_fault}
use Rattle.road.specs.Limits.{road_limits}
use Rattle.road.specs.workings.Verdicts.{Singles}
use Rattle.road.specs.Order.{Numbered, HoldsAt, NoneTo}
use Rattle.road.specs.Refusals.{None, Said, refusal, answer}
use Rattle.road.specs.Roads.{nodes_of, Arc, road}
use Rattle.road.specs.workings.Sound.{Sound}
use Rattle.road.proofs.Faults.{graph_numbered, road_proper}
use Rattle.road.proofs.Left.{cover_left}
use Rattle.road.specs.workings.Left.{OfK}
use Rattle.road.proofs.Refusals.{of_single, of_number, first_one, first_at, first_not_none, none_front, number_some, refusal_one, refusal_no_answer}
use Rattle.road.proofs.Verdicts.{singles_both, cover_singles}
use Rattle.road.specs.declared.NodeCount.{NodeCount}
use Rattle.std.specs.Prelude.{Result, Ok, Err}
use Rattle.cover.specs.Calls.{Areas, Outcome, refused, covered, answered, asked_lengths, faults_of, said_of}
use Rattle.rule.specs.Promise.{Covers, Tight}
use Rattle.rule.specs.Rule.{PathOf, Pruned}
use Rattle.rule.proofs.Rules.{Nodes, prunes_one, covers, tight, same_paths, all_stay, all_drop}

-- an outcome that is an answer: nothing was at fault, the cover is the rule's, the count is that of its ones, and the work is zero
pub record Answer (starts heads weights : List ℕ) (k : ℕ) (order : List ℕ) (before : Areas) (said : Said) (after : Areas) : Type 0 where
  pub sound : Sound road_limits starts heads weights
  pub k_right : OfK k
  pub order_right : Permutation (nodes_of starts) order
  pub pruned : Pruned (PathOf (road starts heads weights) k) (nodes_of starts) order after.cover
  pub values : said ≡ answer (times 1 after.cover ∷ [])
  pub areas : after ≡ answered (nodes_of starts) (length heads) after.cover

-- what is said loses nothing of the answer
pub said_one : (a b : Result NodeCount Refusal) → said_of a ≡ said_of b → a ≡ b
said_one (Ok c) (Ok d) e = ap (λ (n : ℕ). Ok (record { 0 = n })) (ap (λ (x : Said). get_or x.values 0 0) e)
said_one (Ok c) (Err r) e = absurd (refusal_no_answer r (c.0 ∷ []) (sym e))
said_one (Err r) (Ok c) e = absurd (refusal_no_answer r (c.0 ∷ []) e)
said_one (Err r) (Err s) e = ap Err (refusal_one r s e)

module _ (starts heads weights : List ℕ) (k : ℕ) (order : List ℕ) (before : Areas) where
  none_of_input : None (faults_of starts heads weights k order before) → None (cover_faults starts heads weights k order)
  none_of_input n = none_front (cover_faults starts heads weights k order) (lengths_fault (asked_lengths (nodes_of starts) (length heads) before) ∷ []) n

  all_singles : Singles (faults_of starts heads weights k order before)
  all_singles =
      singles_both (cover_faults starts heads weights k order) (lengths_fault (asked_lengths (nodes_of starts) (length heads) before) ∷ []) (cover_singles starts heads weights k order)
      (of_single, tt)

  -- document 01's order: the faults tell these numbers, one after the other
  pub numbered : Numbered (faults_of starts heads weights k order before) (1 ∷ 2 ∷ 3 ∷ 4 ∷ 5 ∷ 11 ∷ [])
  numbered =
      let g = graph_numbered road_limits starts heads weights in
      (g.0, (g.1.0, (g.1.1.0, (of_number, (of_number, (of_number, tt))))))

module _ {starts heads weights : List ℕ} {k : ℕ} {order : List ℕ} {before : Areas} where
  pub answer_of : {said : Said} {after : Areas} → Outcome starts heads weights k order before said after → said.number ≡ 0 → Answer starts heads weights k order before said after
  answer_of (refused {r = r} f) e = absurd (number_some r e)
  answer_of (covered n p) e =
      let x = cover_left starts heads weights k order (none_of_input starts heads weights k order before n) in
      record { sound = x.sound; k_right = x.k_right; order_right = x.order_right; pruned = p; values = refl; areas = refl }

  -- two outcomes that the contract allows are equal
  pub outcome_one :
      {said said' : Said} {after after' : Areas} → Outcome starts heads weights k order before said after → Outcome starts heads weights k order before said' after' →
      (said ≡ said') × (after ≡ after')
  outcome_one (refused {r = r} f) (refused {r = s} g) = (ap refusal (first_one (faults_of starts heads weights k order before) r s (all_singles starts heads weights k order before) f g), refl)
  outcome_one (refused {r = r} f) (covered n p) = absurd (first_not_none (faults_of starts heads weights k order before) r f n)
  outcome_one (covered n p) (refused {r = r} f) = absurd (first_not_none (faults_of starts heads weights k order before) r f n)
  outcome_one (covered n p) (covered m q) =
      let same = prunes_one p q in
      (ap (λ (c : List ℕ). answer (times 1 c ∷ [])) same, ap (answered (nodes_of starts) (length heads)) same)

  -- and so are two answers
  pub answer_one :
      (a b : Result NodeCount Refusal) {after after' : Areas} → Outcome starts heads weights k order before (said_of a) after → Outcome starts heads weights k order before (said_of b) after' →
      (a ≡ b) × (after ≡ after')
  answer_one a b o p = let e = outcome_one o p in (said_one a b e.0, e.1)

  -- an input with two neighbouring faults, and none before them, is refused by the first
  pub in_order :
      {said : Said} {after : Areas} → Outcome starts heads weights k order before said after → (i : ℕ) (r s : Refusal) → NoneTo (faults_of starts heads weights k order before) i →
      HoldsAt (faults_of starts heads weights k order before) i r → HoldsAt (faults_of starts heads weights k order before) (suc i) s → said ≡ refusal r
  in_order o i r s n f g = (outcome_one o (refused (first_at (faults_of starts heads weights k order before) i r n f))).0

-- each path of k nodes has a node
path_nodes : (G : Graph) (k : ℕ) → Nodes (PathOf G k) G.nodes
path_nodes G k = record { node = λ l c. (c.first, subst (Mem c.first) (sym c.whole) (inl refl), c.path.node) }

module _ {starts heads weights : List ℕ} {k : ℕ} {order : List ℕ} {before : Areas} {said : Said} {after : Areas} (a : Answer starts heads weights k order before said after) where
  -- demand 2: every path of k different nodes has a point on it
  pub every_path : Covers (PathOf (road starts heads weights) k) after.cover
  every_path = covers a.pruned (path_nodes (road starts heads weights) k)

  -- and each point has such a path on which no other point lies
  pub every_point : Tight (PathOf (road starts heads weights) k) after.cover
  every_point = tight a.pruned a.order_right

  -- with k = 1 every node stays
  pub one_keeps_all : k ≡ 1 → after.cover ≡ replicate (nodes_of starts) 1
  one_keeps_all e =
      all_stay
      (λ v h. record {
        first = v;
        after = [];
        last = v;
        weight = 0;
        whole = refl;
        path =
            record {
              node = each_mem (λ (x : ℕ). x < nodes_of starts) v order a.order_right.only h;
              along = stop;
              different = ((λ z. z), tt);
            };
        nodes = sym e;
      })
      a.pruned

  -- with k above n the cover is empty
  pub above_drops_all : nodes_of starts < k → after.cover ≡ replicate (nodes_of starts) 0
  above_drops_all h =
      all_drop
      (λ l c. omega (arith, path_short (road_proper road_limits starts heads weights a.sound) c.path, ap length c.whole, c.nodes))
      a.order_right a.pruned

-- Weights play no part: the same starts and heads have the same paths of k nodes.
other_weights : (starts heads weights weights' : List ℕ) {a : ℕ} {l : List ℕ} {b w : ℕ} → Along (road starts heads weights) a l b w → (d : ℕ) × Along (road starts heads weights') a l b d
other_weights starts heads weights weights' stop = (0, stop)
other_weights starts heads weights weights' (step s r) =
    let o = other_weights starts heads weights weights' r in
    let arc : Arc starts heads weights' _ _ (get_or weights' s.place 0) =
    record { place = s.place; listed = s.listed; owned = s.owned; head = s.head; weight = refl } in
    (get_or weights' s.place 0 + o.0, step arc o.1)

other_path : (starts heads weights weights' : List ℕ) (k : ℕ) (l : List ℕ) → PathOf (road starts heads weights) k l → PathOf (road starts heads weights') k l
other_path starts heads weights weights' k l c =
    let o = other_weights starts heads weights weights' c.path.along in
    record {
      first = c.first;
      after = c.after;
      last = c.last;
      weight = o.0;
      whole = c.whole;
      path = record { node = c.path.node; along = o.1; different = c.path.different };
      nodes = c.nodes;
    }

-- two accepted graphs with the same starts and heads have the same outcome for the same k and order
pub weights_free :
    {starts heads weights weights' : List ℕ} {k : ℕ} {order : List ℕ} {before before' : Areas} {said said' : Said} {after after' : Areas} →
    Answer starts heads weights k order before said after → Answer starts heads weights' k order before' said' after' → (said ≡ said') × (after ≡ after')
weights_free {starts} {heads} {weights} {weights'} {k} {order} a b =
    let p = same_paths (other_path starts heads weights weights' k) (other_path starts heads weights' weights k) a.pruned in
    let same = prunes_one p b.pruned in (
      a.values ∙ ap (λ (c : List ℕ). answer (times 1 c ∷ [])) same ∙ sym b.values,
      a.areas ∙ ap (answered (nodes_of starts) (length heads)) same ∙ sym b.areas,
    )
