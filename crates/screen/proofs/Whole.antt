-- A float of moderate size is a whole number exactly where adding 3 * 2 ^ 51 and taking it away again leaves it as it was: the sum lies
-- where floats are the whole numbers and no others. Assumes nothing.
use mathlib.Core.Path.{◌≡◌, refl, sym, ap, ◌∙◌}
use mathlib.Core.Logic.{⊎_elim}
use mathlib.Core.Bool.{Bool, true, false, ◌&&◌, false≢true}
use Prim.Native.Nat.{ℕ, ◌+◌, ◌-◌, ◌*◌, ◌/◌, ◌%◌, ◌^◌, ◌≤◌, ◌<◌}
use native.Mathlib.Nat.{mul-one, le_trans, mul-mod_left, div-add-mod', add-zero, div-mul-le_self, le_of_mul-le-mul_right}
use native.Mathlib.Omega.{arith}
use lib.Dec.{leb, eqb, lit<, lit≤}
use lib.IntN.{ℤ, pos, nat_abs, ◌+ℤ◌, ◌-ℤ◌, +ℤ-neg_ℤ_cancel}
use lib.Ieee.{Float, nan, inf, fin, binary64, up, down, round, sum, neg, add, sub, lt, le, eq}
use lib.Ieee.Fits.{down_pos}
use lib.Ieee.Exact.{HasValue}
use borrow.Author.Tests.{lt-ltb, eqb-true, eqb-false, leb-true}
use Rattle.refusal.proofs.Truth.{and_right}
use Rattle.rule.proofs.Signed.{one-part, parts_sub, nat_abs_parts, nat_abs_add}
use Rattle.screen.specs.Fraction.{signed, Equals, is_whole, negative, nearest}
use Rattle.screen.proofs.Compared.{within, within-size, eq-size, eq-whole}
use Rattle.screen.proofs.Rounding.{Between, rounded, rounded-most, rounds_whole}
use Rattle.screen.proofs.Signed.{size-signed, signed-sign}
use Rattle.screen.proofs.Exact.{value_of, add-whole, sub-whole, sub-nearest, equals-nearest}

-- 3 * 2 ^ 51, and as a float
abbrev W : ℕ
W = 3 * 2 ^ 51

abbrev pub shift : Float
shift = fin false 3 (pos 51)

shift_is : HasValue shift false W 1
shift_is = (refl, refl)

abbrev back : Float → Float
back x = sub binary64 (add binary64 x shift) shift

-- a whole number comes back, and neither operation rounds
module _ (x : Float) (s : Bool) (a : ℕ) (x-is : HasValue x s a 1) (most : a ≤ 2097152) where
  small : nat_abs (signed s a +ℤ pos W) < 2 ^ 53
  small = omega (arith, nat_abs_add (signed s a) (pos W), size-signed s a)

  raised : add binary64 x shift ≡ nearest (signed s a +ℤ pos W) 1
  raised = add-whole x shift s false a W x-is shift_is (λ e. absurd (false≢true (and_right s false e)))

  whole_back : back x ≡ nearest (signed s a) 1
  whole_back =
      ap (λ (y : Float). sub binary64 y shift) raised
      ∙ sub-nearest (signed s a +ℤ pos W) shift false W small shift_is
      ∙ ap (λ (k : ℤ). nearest k 1) (+ℤ-neg_ℤ_cancel (signed s a) (pos W))

  pub test-exact : Equals (add binary64 x shift) (signed s a +ℤ pos W) 1 × Equals (back x) (signed s a) 1
  test-exact =
      (rw raised (equals-nearest 0 (signed s a +ℤ pos W) (lit≤ tt) small), rw whole_back (equals-nearest 0 (signed s a) (lit≤ tt) (omega (arith, size-signed s a))))

-- the sum lies from 2 ^ 52 to 2 ^ 53
pub record Lifted (x : Float) : Type 0 where
  pub n : ℕ
  pub c : ℕ
  pub between : Between n c
  pub sum_is : add binary64 x shift ≡ round binary64 false n c

lifted : (s : Bool) (m : ℕ) (e : ℤ) → m * up e ≤ 2097152 * down e → Lifted (fin s m e)
unfolding add sum
lifted false m e most =
    let some = down_pos e in
    record {
      n = m * up e * 1 + W * down e;
      c = down e * 1;
      between = record { some = omega arith; low = omega arith; high = omega arith };
      sum_is = refl;
    }
lifted true m e most =
    let some = down_pos e in
    record {
      n = W * down e - m * up e * 1;
      c = down e * 1;
      between = record { some = omega arith; low = omega arith; high = omega arith };
      sum_is = rw (lt-ltb (m * up e * 1) (W * down e) (omega arith));
    }

-- so what comes back is a whole number
back_whole : (x : Float) → Lifted x → (k : ℤ) × (nat_abs k < 2 ^ 53) × (back x ≡ nearest k 1)
back_whole x L =
    let R = rounded L.n L.c L.between in
    let k = pos R -ℤ pos W in
    let most = rounded-most L.n L.c L.between in
    let parts = parts_sub (pos R) (pos W) in
    let small : nat_abs k < 2 ^ 53 = ⊎_elim (λ none. omega (arith, nat_abs_parts k)) (λ none. omega (arith, nat_abs_parts k)) (one-part k) in (
      k,
      small,
      ap (λ (y : Float). sub binary64 y shift) L.sum_is
          ∙ sub-whole (round binary64 false L.n L.c) shift false false R W (rounds_whole L.n L.c L.between) shift_is (λ e. absurd (false≢true e)),
    )

-- a float without a remainder is its quotient
pub whole-value : (s : Bool) (m : ℕ) (e : ℤ) → m * up e % down e ≡ 0 → HasValue (fin s m e) s (m * up e / down e) 1
whole-value s m e none =
    (refl, mul-one (m * up e) ∙ sym (div-add-mod' (m * up e) (down e)) ∙ ap (λ (r : ℕ). m * up e / down e * down e + r) none ∙ add-zero (m * up e / down e * down e))

pub whole-most : (m : ℕ) (e : ℤ) (most : ℕ) → m * up e ≤ most * down e → m * up e / down e ≤ most
whole-most m e most h = le_of_mul-le-mul_right (le_trans (div-mul-le_self (m * up e) (down e)) h) (down_pos e)

tested : (s : Bool) (m : ℕ) (e : ℤ) → m * up e ≤ 2097152 * down e → eq (back (fin s m e)) (fin s m e) ≡ eqb (m * up e % down e) 0
tested s m e most = go (eqb (m * up e % down e) 0) refl
  where
    only : (k : ℤ) → nat_abs k < 2 ^ 53 → eq (nearest k 1) (fin s m e) ≡ true → m * up e % down e ≡ 0
    only k small equal =
        ap (λ (p : ℕ). p % down e) (sym (eq-size (nearest k 1) (negative k) (nat_abs k) s m e (value_of 0 k (lit≤ tt) small) equal)) ∙ mul-mod_left (nat_abs k) (down e)

    other : (b : Bool) → eq (back (fin s m e)) (fin s m e) ≡ b → (m * up e % down e ≡ 0 → ⊥) → b ≡ false
    other false e' part = refl
    other true e' part =
        let B = back_whole (fin s m e) (lifted s m e most) in
        absurd (part (only B.0 B.1 (ap (λ (y : Float). eq y (fin s m e)) (sym B.2) ∙ e')))

    go : (b : Bool) → eqb (m * up e % down e) 0 ≡ b → eq (back (fin s m e)) (fin s m e) ≡ b
    go true e' =
        let a = m * up e / down e in
        let x-is = whole-value s m e (eqb-true (m * up e % down e) 0 e') in
        let small : nat_abs (signed s a) < 2 ^ 53 = omega (arith, size-signed s a, whole-most m e 2097152 most) in
        ap (λ (y : Float). eq y (fin s m e)) (whole_back (fin s m e) s a x-is (whole-most m e 2097152 most))
        ∙ eq-whole (nearest (signed s a) 1) (negative (signed s a)) (nat_abs (signed s a)) s m e (value_of 0 (signed s a) (lit≤ tt) small)
        (ap (λ (n : ℕ). n * down e) (size-signed s a) ∙ sym x-is.1 ∙ mul-one (m * up e)) (signed-sign s a)
    go false e' = other (eq (back (fin s m e)) (fin s m e)) refl (eqb-false (m * up e % down e) 0 e')

-- 2 ^ 21
abbrev pub limit : Float
limit = fin false 1 (pos 21)

pub centre-tested : (x : Float) → (within x limit && eq (back x) x) ≡ is_whole 2097152 x
unfolding le lt eq neg
centre-tested nan = refl
centre-tested (inf false) = refl
centre-tested (inf true) = refl
centre-tested (fin s m e) =
    ap (λ (t : Bool). t && eq (back (fin s m e)) (fin s m e)) (within-size 1 (pos 21) (lit< tt) s m e ∙ ap (λ (p : ℕ). leb p (2097152 * down e)) (mul-one (m * up e)))
    ∙ go (leb (m * up e) (2097152 * down e)) refl
  where
    go : (t : Bool) → leb (m * up e) (2097152 * down e) ≡ t → (t && eq (back (fin s m e)) (fin s m e)) ≡ (t && eqb (m * up e % down e) 0)
    go true most = tested s m e (leb-true (m * up e) (2097152 * down e) most)
    go false most = refl
