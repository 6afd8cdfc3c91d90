-- Least numbers are unique, and carry over between sets whose numbers lie under one another's.
use mathlib.Core.Path.{◌≡◌, subst}
use Prim.Native.Nat.{ℕ, zero, suc, ◌≤◌}
use native.Mathlib.Omega.{arith}
use Rattle.paths.specs.Least.{Least, Empty, Told, Under}

module _ {P : ℕ → Type 0} where
  pub least_one : {d e : ℕ} → Least P d → Least P e → d ≡ e
  least_one {d} {e} l m = omega (arith, l.least e m.is, m.least d l.is)

  -- two labels of one set are equal
  pub told_one : (x y : ℕ) → Told P x → Told P y → x ≡ y
  told_one zero zero t u = omega arith
  told_one zero (suc e) t u = absurd ((t.none (omega arith)).none e (u.some e (omega arith)).is)
  told_one (suc d) zero t u = absurd ((u.none (omega arith)).none d (t.some d (omega arith)).is)
  told_one (suc d) (suc e) t u = omega (arith, least_one (t.some d (omega arith)) (u.some e (omega arith)))

module _ {P Q : ℕ → Type 0} (pq : Under P Q) (qp : Under Q P) where
  pub empty_carries : Empty P → Empty Q
  empty_carries n = record { none = λ d q. n.none (qp.under d q).0 (qp.under d q).1 }

  pub least_carries : {d : ℕ} → Least P d → Least Q d
  least_carries {d} m = record { is = there; least = below }
    where
      below : (e : ℕ) → Q e → d ≤ e
      below e q = omega (arith, (qp.under e q).2, m.least (qp.under e q).0 (qp.under e q).1)

      there : Q d
      there =
          let f = pq.under d m.is in
          let same : f.0 ≡ d = omega (arith, f.2, below f.0 f.1) in
          subst Q same f.1

  pub told_carries : {x : ℕ} → Told P x → Told Q x
  told_carries t = record { none = λ e. empty_carries (t.none e); some = λ d e. least_carries (t.some d e) }
