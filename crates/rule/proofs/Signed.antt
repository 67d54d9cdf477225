-- Signed numbers for `omega`, which reads natural numbers alone. A signed number z is `above0 z` less `below0 z`; a sum, a difference, an
-- order or an equation of signed numbers is then one of natural numbers. To prove a linear fact, hand `omega` `parts_add` or `parts_sub`
-- of each sum and difference in it. Assumes nothing.
use mathlib.Core.Path.{◌≡◌, refl, sym, ap, subst}
use mathlib.Core.Logic.{◌⊎◌, inl, inr, ⊎_elim}
use mathlib.Core.Bool.{Bool, true, false, cond, not}
use Prim.Native.Nat.{ℕ, zero, suc, ◌+◌, ◌-◌, ◌≤◌, ◌<◌}
use native.Mathlib.Omega.{arith}
use lib.Dec.{T, ltb, leb→le, le→leb}
use lib.IntN.{ℤ, pos, negsuc, nat_abs, sub_ℕ, ◌+ℤ◌, ◌-ℤ◌, neg_ℤ}
use lib.Signed.{◌≤ℤ◌, ◌<ℤ◌, le_z, lt_z, lt_z_yes, lt_z_no}
use borrow.Author.Tests.{ltb-true, ltb-false, leb-true, leb-false}
use Rattle.rule.specs.Join.{above0}

-- how far a number is below 0
abbrev pub below0 : ℤ → ℕ
below0 (pos n) = 0
below0 (negsuc n) = suc n

-- one of the two parts is 0
pub one-part : (z : ℤ) → (above0 z ≡ 0) ⊎ (below0 z ≡ 0)
one-part (pos n) = inr refl
one-part (negsuc n) = inl refl

-- ---- sums and differences

parts_subℕ : (a b : ℕ) → above0 (sub_ℕ a b) + b ≡ a + below0 (sub_ℕ a b)
parts_subℕ a b = go (ltb a b) refl
  where
    go : (t : Bool) → ltb a b ≡ t → above0 (cond t (negsuc (b - suc a)) (pos (a - b))) + b ≡ a + below0 (cond t (negsuc (b - suc a)) (pos (a - b)))
    go true e = omega (arith, ltb-true a b e)
    go false e = omega (arith, ltb-false a b e)

pub parts_add : (x y : ℤ) → above0 (x +ℤ y) + (below0 x + below0 y) ≡ (above0 x + above0 y) + below0 (x +ℤ y)
parts_add (pos a) (pos b) = refl
parts_add (pos a) (negsuc b) = omega (arith, parts_subℕ a (suc b))
parts_add (negsuc a) (pos b) = omega (arith, parts_subℕ b (suc a))
parts_add (negsuc a) (negsuc b) = omega arith

parts_neg : (x : ℤ) → (above0 (neg_ℤ x) ≡ below0 x) × (below0 (neg_ℤ x) ≡ above0 x)
parts_neg (pos zero) = (refl, refl)
parts_neg (pos (suc n)) = (refl, refl)
parts_neg (negsuc n) = (refl, refl)

pub parts_sub : (x y : ℤ) → above0 (x -ℤ y) + (below0 x + above0 y) ≡ (above0 x + below0 y) + below0 (x -ℤ y)
parts_sub x y = omega (arith, parts_add x (neg_ℤ y), parts_neg y)

-- ---- sizes

pub nat_abs_parts : (z : ℤ) → nat_abs z ≡ above0 z + below0 z
nat_abs_parts (pos n) = omega arith
nat_abs_parts (negsuc n) = omega arith

pub nat_abs_neg : (z : ℤ) → nat_abs (neg_ℤ z) ≡ nat_abs z
nat_abs_neg z = let n = nat_abs_parts z in let m = nat_abs_parts (neg_ℤ z) in omega (arith, parts_neg z)

pub nat_abs_add : (x y : ℤ) → nat_abs (x +ℤ y) ≤ nat_abs x + nat_abs y
nat_abs_add x y =
    let a = nat_abs_parts x in
    let b = nat_abs_parts y in
    let c = nat_abs_parts (x +ℤ y) in
    ⊎_elim (λ e. omega (arith, parts_add x y)) (λ e. omega (arith, parts_add x y)) (one-part (x +ℤ y))

pub nat_abs_sub : (x y : ℤ) → nat_abs (x -ℤ y) ≤ nat_abs x + nat_abs y
nat_abs_sub x y =
    let a = nat_abs_parts x in
    let b = nat_abs_parts y in
    let c = nat_abs_parts (x -ℤ y) in
    ⊎_elim (λ e. omega (arith, parts_sub x y)) (λ e. omega (arith, parts_sub x y)) (one-part (x -ℤ y))

-- ---- equations and orders

pub parts_eq : (x y : ℤ) → above0 x + below0 y ≡ above0 y + below0 x → x ≡ y
parts_eq (pos a) (pos b) e = ap pos (omega arith)
parts_eq (pos a) (negsuc b) e = absurd (omega arith)
parts_eq (negsuc a) (pos b) e = absurd (omega arith)
parts_eq (negsuc a) (negsuc b) e = ap negsuc (omega arith)

-- of three that are added up, the last two change places
pub swap_last : (x y z : ℤ) → (x +ℤ y) +ℤ z ≡ (x +ℤ z) +ℤ y
swap_last x y z =
    parts_eq ((x +ℤ y) +ℤ z) ((x +ℤ z) +ℤ y) (omega (arith, parts_add x y, parts_add (x +ℤ y) z, parts_add x z, parts_add (x +ℤ z) y))

-- x is at most y, said of the parts
abbrev pub AtMost : ℤ → ℤ → Type 0
AtMost x y = above0 x + below0 y ≤ above0 y + below0 x

pub at_most : (x y : ℤ) → x ≤ℤ y → AtMost x y
at_most (pos a) (pos b) h = omega (arith, leb→le a b h.le)
at_most (pos a) (negsuc b) h = absurd h.le
at_most (negsuc a) (pos b) h = omega arith
at_most (negsuc a) (negsuc b) h = omega (arith, leb→le b a h.le)

pub parts_le : (x y : ℤ) → AtMost x y → x ≤ℤ y
parts_le (pos a) (pos b) h = record { le = le→leb a b (omega arith) }
parts_le (pos a) (negsuc b) h = absurd (omega arith)
parts_le (negsuc a) (pos b) h = record { le = tt }
parts_le (negsuc a) (negsuc b) h = record { le = le→leb b a (omega arith) }

-- a bound may be raised
pub raised : (x y : ℤ) (m k : ℕ) → x ≤ℤ (y +ℤ pos m) → m ≤ k → x ≤ℤ (y +ℤ pos k)
raised x y m k h more = parts_le x (y +ℤ pos k) (omega (arith, at_most x (y +ℤ pos m) h, parts_add y (pos m), parts_add y (pos k)))

-- of two numbers, one is below the other or not
pub not-le : (x y : ℤ) → (y ≤ℤ x → ⊥) → x <ℤ y
not-le x y h = go (lt_z x y) refl
  where
    go : (t : Bool) → lt_z x y ≡ t → x <ℤ y
    go true e = lt_z_yes (subst T (sym e) tt)
    go false e = absurd (h (lt_z_no (subst (λ (t : Bool). T (not t)) (sym e) tt)))

-- x is below y, said of the parts
abbrev pub Under : ℤ → ℤ → Type 0
Under x y = above0 x + below0 y < above0 y + below0 x

-- ---- tests

pub le_z_true : (x y : ℤ) → le_z x y ≡ true → AtMost x y
le_z_true (pos a) (pos b) e = omega (arith, leb-true a b e)
le_z_true (pos a) (negsuc b) e = absurd (subst T (sym e) tt)
le_z_true (negsuc a) (pos b) e = omega arith
le_z_true (negsuc a) (negsuc b) e = omega (arith, leb-true b a e)

pub le_z_false : (x y : ℤ) → le_z x y ≡ false → Under y x
le_z_false (pos a) (pos b) e = omega (arith, leb-false a b e)
le_z_false (pos a) (negsuc b) e = omega arith
le_z_false (negsuc a) (pos b) e = absurd (subst T e tt)
le_z_false (negsuc a) (negsuc b) e = omega (arith, leb-false b a e)
