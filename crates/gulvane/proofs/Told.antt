-- A refusal's number says the refusal, and a struct is determined by what it says.
use mathlib.Core.Path.{◌≡◌, refl, ap, ◌∙◌}
use Prim.Native.Nat.{ℕ, zero, suc}
use native.Mathlib.Omega.{arith}
use lib.ListN.{length, get_or}
use Rattle.road.specs.declared.Refusal.{Refusal}
use Rattle.road.specs.declared.Refusal.TheVariants.{Sizes, Starts, Arcs, K, Order, Set, Overlay, Node, Outside, Drive, Lengths, Room, Line}
use Rattle.road.specs.Refusals.{number_of, refusal, Said}
use Rattle.gulvane.specs.Results.{count_said, said_count, distance_said, said_distance, BareCount, BareDistance}
use Rattle.gulvane.specs.declared.GulvaneCount.{GulvaneCount}
use Rattle.gulvane.specs.declared.GulvaneDistance.{GulvaneDistance}

count_of : (r : Refusal) → count_said (number_of r) 0 ≡ refusal r
count_of Sizes = refl
count_of Starts = refl
count_of Arcs = refl
count_of K = refl
count_of Order = refl
count_of Set = refl
count_of Overlay = refl
count_of Node = refl
count_of Outside = refl
count_of Drive = refl
count_of Lengths = refl
count_of Room = refl
count_of Line = refl

pub count_refused : (r : Refusal) (n : ℕ) → n ≡ number_of r → count_said n 0 ≡ refusal r
count_refused r n e = ap (λ (k : ℕ). count_said k 0) e ∙ count_of r

distance_of : (r : Refusal) → distance_said (number_of r) 0 0 ≡ refusal r
distance_of Sizes = refl
distance_of Starts = refl
distance_of Arcs = refl
distance_of K = refl
distance_of Order = refl
distance_of Set = refl
distance_of Overlay = refl
distance_of Node = refl
distance_of Outside = refl
distance_of Drive = refl
distance_of Lengths = refl
distance_of Room = refl
distance_of Line = refl

pub distance_refused : (r : Refusal) (n : ℕ) → n ≡ number_of r → distance_said n 0 0 ≡ refusal r
distance_refused r n e = ap (λ (k : ℕ). distance_said k 0 0) e ∙ distance_of r

-- what is left unused is 0
pub bare_refused : (r : ℕ) → BareCount (record { refusal = r; count = 0 })
bare_refused r = record { refused = λ n. refl }

pub bare_counted : (c : ℕ) → BareCount (record { refusal = 0; count = c })
bare_counted c = record { refused = λ n. absurd (n refl) }

pub bare_distance_refused : (r : ℕ) → BareDistance (record { refusal = r; way = 0; weight = 0 })
bare_distance_refused r = record { refused = λ n. refl; bit = omega arith; no_way = λ e. refl }

pub bare_no_way : BareDistance (record { refusal = 0; way = 0; weight = 0 })
bare_no_way = bare_distance_refused 0

pub bare_way : (d : ℕ) → BareDistance (record { refusal = 0; way = 1; weight = d })
bare_way d = record { refused = λ n. absurd (n refl); bit = omega arith; no_way = λ e. absurd (omega arith) }

-- so two structs that say the same are equal
numbers : {s t : Said} → s ≡ t → s.number ≡ t.number
numbers e = ap (λ (x : Said). x.number) e

values : {s t : Said} → s ≡ t → (i : ℕ) → get_or s.values i 0 ≡ get_or t.values i 0
values e i = ap (λ (x : Said). get_or x.values i 0) e

sizes : {s t : Said} → s ≡ t → length s.values ≡ length t.values
sizes e = ap (λ (x : Said). length x.values) e

counts_one : (r c q d : ℕ) → count_said r c ≡ count_said q d → BareCount (record { refusal = r; count = c }) → BareCount (record { refusal = q; count = d }) → (r ≡ q) × (c ≡ d)
counts_one zero c zero d e a b = (refl, values e 0)
counts_one zero c (suc q) d e a b = absurd (omega (arith, numbers e))
counts_one (suc r) c zero d e a b = absurd (omega (arith, numbers e))
counts_one (suc r) c (suc q) d e a b = (numbers e, omega (arith, a.refused (λ z. omega arith), b.refused (λ z. omega arith)))

pub count_one : (x y : GulvaneCount) → said_count x ≡ said_count y → BareCount x → BareCount y → x ≡ y
count_one x y e a b =
    let s = counts_one x.refusal x.count y.refusal y.count e a b in
    λ i. record { refusal = s.0 i; count = s.1 i }

distances_one :
    (r p w q o v : ℕ) → distance_said r p w ≡ distance_said q o v → BareDistance (record { refusal = r; way = p; weight = w }) →
    BareDistance (record { refusal = q; way = o; weight = v }) → (r ≡ q) × (p ≡ o) × (w ≡ v)
distances_one zero zero w zero zero v e a b = (refl, refl, omega (arith, a.no_way refl, b.no_way refl))
distances_one zero zero w zero (suc o) v e a b = absurd (omega (arith, sizes e))
distances_one zero zero w (suc q) o v e a b = absurd (omega (arith, numbers e))
distances_one zero (suc p) w zero zero v e a b = absurd (omega (arith, sizes e))
distances_one zero (suc p) w zero (suc o) v e a b = (refl, omega (arith, a.bit, b.bit), values e 1)
distances_one zero (suc p) w (suc q) o v e a b = absurd (omega (arith, numbers e))
distances_one (suc r) p w zero zero v e a b = absurd (omega (arith, numbers e))
distances_one (suc r) p w zero (suc o) v e a b = absurd (omega (arith, numbers e))
distances_one (suc r) p w (suc q) o v e a b =
    let z = a.refused (λ z. omega arith) in
    let y = b.refused (λ z. omega arith) in (numbers e, omega arith, omega (arith, a.no_way z, b.no_way y))

pub distance_one : (x y : GulvaneDistance) → said_distance x ≡ said_distance y → BareDistance x → BareDistance y → x ≡ y
distance_one x y e a b =
    let s = distances_one x.refusal x.way x.weight y.refusal y.way y.weight e a b in
    λ i. record { refusal = s.0 i; way = s.1 i; weight = s.2 i }
