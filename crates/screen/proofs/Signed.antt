-- A size with a sign: sums, products and negation of such numbers. Assumes nothing.
use mathlib.Core.Path.{◌≡◌, refl, sym}
use mathlib.Core.Logic.{◌⊎◌, inl, inr}
use mathlib.Core.Bool.{Bool, true, false, not, cond}
use Prim.Native.Nat.{ℕ, zero, suc, ◌+◌, ◌-◌, ◌*◌}
use native.Mathlib.Nat.{zero-mul}
use native.Mathlib.Omega.{arith}
use lib.Dec.{ltb}
use lib.IntN.{ℤ, pos, negsuc, neg_ℤ, nat_abs, ◌+ℤ◌, ◌*ℤ◌, neg_ℤ-neg_ℤ, neg_ℤ-+ℤ}
use borrow.Author.Tests.{ltb-true, ltb-false}
use Rattle.rule.specs.Join.{above0}
use Rattle.rule.proofs.Signed.{below0, parts_add, parts_eq, nat_abs_neg}
use Rattle.screen.specs.Fraction.{signed, negative}

negated_parts : (n : ℕ) → (above0 (signed true n) ≡ 0) × (below0 (signed true n) ≡ n)
negated_parts zero = (refl, refl)
negated_parts (suc n) = (refl, refl)

pub size-signed : (s : Bool) (n : ℕ) → nat_abs (signed s n) ≡ n
size-signed false n = refl
size-signed true n = nat_abs_neg (pos n)

pub add_same : (s : Bool) (a b : ℕ) → signed s a +ℤ signed s b ≡ signed s (a + b)
add_same false a b = refl
add_same true a b = sym (neg_ℤ-+ℤ (pos a) (pos b))

pub add-other : (s : Bool) (a b : ℕ) → signed s a +ℤ signed (not s) b ≡ cond (ltb a b) (signed (not s) (b - a)) (signed s (a - b))
add-other true a b = go (ltb a b) refl
  where
    go : (t : Bool) → ltb a b ≡ t → signed true a +ℤ pos b ≡ cond t (pos (b - a)) (signed true (a - b))
    go true e = parts_eq (signed true a +ℤ pos b) (pos (b - a)) (omega (arith, ltb-true a b e, parts_add (signed true a) (pos b), negated_parts a))
    go false e =
        parts_eq (signed true a +ℤ pos b) (signed true (a - b))
        (omega (arith, ltb-false a b e, parts_add (signed true a) (pos b), negated_parts a, negated_parts (a - b)))
add-other false a b = go (ltb a b) refl
  where
    go : (t : Bool) → ltb a b ≡ t → pos a +ℤ signed true b ≡ cond t (signed true (b - a)) (pos (a - b))
    go true e =
        parts_eq (pos a +ℤ signed true b) (signed true (b - a))
        (omega (arith, ltb-true a b e, parts_add (pos a) (signed true b), negated_parts b, negated_parts (b - a)))
    go false e = parts_eq (pos a +ℤ signed true b) (pos (a - b)) (omega (arith, ltb-false a b e, parts_add (pos a) (signed true b), negated_parts b))

pub size-times : (k : ℤ) (n : ℕ) → nat_abs (k *ℤ pos n) ≡ nat_abs k * n
size-times (pos m) n = refl
size-times (negsuc m) n = size-signed true (nat_abs (negsuc m) * n)

-- a number is its size with its sign
pub sized : (k : ℤ) → signed (negative k) (nat_abs k) ≡ k
sized (pos n) = refl
sized (negsuc n) = refl

-- the sign is the number's, but for 0
pub signed-sign : (s : Bool) (n : ℕ) → (negative (signed s n) ≡ s) ⊎ (nat_abs (signed s n) ≡ 0)
signed-sign false n = inl refl
signed-sign true zero = inr refl
signed-sign true (suc n) = inl refl

pub signed-not : (s : Bool) (n : ℕ) → signed (not s) n ≡ neg_ℤ (signed s n)
signed-not false n = refl
signed-not true n = sym (neg_ℤ-neg_ℤ (pos n))

pub signed-times : (s : Bool) (a c : ℕ) → signed s (a * c) ≡ signed s a *ℤ pos c
signed-times false a c = refl
signed-times true zero c = rw zero-mul
signed-times true (suc a) c = refl
