-- The least and the greatest of a table's places, found position by position: a place that bounds all others is the extreme. Assumes nothing.
use mathlib.Core.Path.{◌≡◌, refl, subst}
use mathlib.Core.Bool.{Bool, true, false, cond}
use mathlib.Core.List.{List}
use Prim.Native.Nat.{ℕ, ◌+◌, ◌^◌, ◌≤◌, ◌<◌}
use native.Mathlib.Nat.{le_refl}
use native.Mathlib.Omega.{arith}
use borrow.Author.Count.{below_more}
use lib.IntN.{ℤ, pos, negsuc}
use lib.Signed.{le_z, mag}
use Rattle.std.specs.Int.{int_min, int_max}
use Rattle.rule.specs.Join.{Spacing}
use Rattle.tree.specs.Table.{nodes}
use Rattle.tree.specs.WellFormed.{table_number}
use Rattle.tree.proofs.Stands.{accepted-numbers}
use Rattle.rule.specs.Result.{place, places_of, lesser, greater, least_of, greatest_of}
use Rattle.rule.proofs.Signed.{AtMost, at_most, parts_eq, le_z_true, le_z_false}
use Rattle.rule.proofs.Extremes.{root-place, least-bounds, greatest-bounds, least-met, greatest-met, small-place}
use Rattle.level_order.proofs.Order.{node-below, root-first}
use Rattle.level_order.proofs.Signed32.{mag_size}
use Rattle.second_walk.proofs.Positions.{place_at, number_at, each_number}

-- the library's lesser and greater of two numbers are the rule's
min-lesser : (x y : ℤ) → int_min x y ≡ lesser x y
min-lesser (pos a) (pos b) = grind arith
min-lesser (pos a) (negsuc b) = refl
min-lesser (negsuc a) (pos b) = refl
min-lesser (negsuc a) (negsuc b) = grind arith

max-greater : (x y : ℤ) → int_max x y ≡ greater x y
max-greater (pos a) (pos b) = grind arith
max-greater (pos a) (negsuc b) = refl
max-greater (negsuc a) (pos b) = refl
max-greater (negsuc a) (negsuc b) = grind arith

abbrev pub AtLeast : ℤ → ℤ → Type 0
AtLeast x y = AtMost y x

-- z is the place of a node
abbrev Place : Spacing → List ℕ → ℤ → Type 0
Place D t z = (v : ℕ) × (v < nodes t) × (place D t v ≡ z)

-- z is a place, and goes before the places of the first p positions
pub record Extreme (Before : ℤ → ℤ → Type 0) (D : Spacing) (t : List ℕ) (p : ℕ) (z : ℤ) : Type 0 where
  pub met : Place D t z
  pub bounds : (q : ℕ) → q < p → Before z (place_at D t q)

module _ {Before : ℤ → ℤ → Type 0} {D : Spacing} {t : List ℕ} (accepted : table_number t ≡ 0) where
  -- the root stands at place 0
  pub extreme_start : Before (pos 0) (pos 0) → Extreme Before D t 1 (pos 0)
  extreme_start same =
      record {
        met = (0, (accepted-numbers t accepted).some, root-place D t accepted);
        bounds = below_more (λ q. Before (pos 0) (place_at D t q)) 0 (λ q h. absurd (omega arith)) (rw (root-first t accepted, root-place D t accepted) same);
      }

  end : ((x y : ℤ) → Before x y → Before y x → x ≡ y) → {p : ℕ} {z w : ℤ} → Extreme Before D t p z → nodes t ≤ p
      → Place D t w → ((v : ℕ) → v < nodes t → Before w (place D t v)) → z ≡ w
  end equal {p} {z} {w} E h m b =
      equal z w (subst (Before z) m.2 (each_number t accepted (λ v. Before z (place D t v)) (λ q k. E.bounds q (omega arith)) m.0 m.1))
      (subst (Before w) E.met.2 (b E.met.0 E.met.1))

module _ {D : Spacing} {t : List ℕ} (accepted : table_number t ≡ 0) {p : ℕ} {z : ℤ} where
  -- of the extreme so far and the next place, the one that goes before the other
  pub least-next : {z' : ℤ} → Extreme AtMost D t p z → p < nodes t → z' ≡ int_min z (place_at D t p) → Extreme AtMost D t (p + 1) z'
  least-next E h e = rw (e, min-lesser z (place_at D t p)) (go (le_z z (place_at D t p)) refl)
    where
      go : (b : Bool) → le_z z (place_at D t p) ≡ b → Extreme AtMost D t (p + 1) (cond b z (place_at D t p))
      go true k = record { met = E.met; bounds = below_more (λ q. AtMost z (place_at D t q)) p E.bounds (le_z_true z (place_at D t p) k) }
      go false k =
          record {
            met = (number_at t p, node-below t accepted p h, refl);
            bounds = below_more (λ q. AtMost (place_at D t p) (place_at D t q)) p (λ q j. omega (arith, E.bounds q j, le_z_false z (place_at D t p) k)) (omega arith);
          }

  pub greatest-next : {z' : ℤ} → Extreme AtLeast D t p z → p < nodes t → z' ≡ int_max z (place_at D t p) → Extreme AtLeast D t (p + 1) z'
  greatest-next E h e = rw (e, max-greater z (place_at D t p)) (go (le_z z (place_at D t p)) refl)
    where
      go : (b : Bool) → le_z z (place_at D t p) ≡ b → Extreme AtLeast D t (p + 1) (cond b (place_at D t p) z)
      go true k =
          record {
            met = (number_at t p, node-below t accepted p h, refl);
            bounds = below_more (λ q. AtLeast (place_at D t p) (place_at D t q)) p (λ q j. omega (arith, E.bounds q j, le_z_true z (place_at D t p) k)) (omega arith);
          }
      go false k = record { met = E.met; bounds = below_more (λ q. AtLeast z (place_at D t q)) p E.bounds (omega (arith, le_z_false z (place_at D t p) k)) }

  pub least-end : Extreme AtMost D t p z → nodes t ≤ p → z ≡ least_of (places_of D t)
  least-end E h = end accepted (λ x y a b. parts_eq x y (omega arith)) E h (least-met D t accepted) (λ v k. at_most _ _ (least-bounds D t accepted v k))

  pub greatest-end : Extreme AtLeast D t p z → nodes t ≤ p → z ≡ greatest_of (places_of D t)
  greatest-end E h = end accepted (λ x y a b. parts_eq x y (omega arith)) E h (greatest-met D t accepted) (λ v k. at_most _ _ (greatest-bounds D t accepted v k))

-- the extremes are small
module _ (D : Spacing) (t : List ℕ) (accepted : table_number t ≡ 0) (small : (a b : ℕ) → a < nodes t → b < nodes t → D.need a b ≤ 1536) (little : D.extra ≤ 1024) where
  met-small : {z : ℤ} → Place D t z → mag z < 2 ^ 31
  met-small m = subst (λ (x : ℤ). mag x < 2 ^ 31) m.2 (omega (arith, mag_size (place D t m.0), small-place D t accepted 1536 small (le_refl 1536) m.0 m.1))

  pub least-small : mag (least_of (places_of D t)) < 2 ^ 31
  least-small = met-small (least-met D t accepted)

  pub greatest-small : mag (greatest_of (places_of D t)) < 2 ^ 31
  greatest-small = met-small (greatest-met D t accepted)
