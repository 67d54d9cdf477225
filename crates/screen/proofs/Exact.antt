-- Floats that are fractions: the nearest float to a fraction that needs no rounding is that fraction, a sum or a difference of whole
-- numbers is the nearest float to it, and so is a whole number times some eighths. Assumes nothing.
use mathlib.Core.Path.{◌≡◌, refl, sym, ap, ap₂, ◌∙◌, subst}
use mathlib.Core.Bool.{Bool, true, false, not, ◌&&◌, cond, true≢false}
use Prim.Native.Nat.{ℕ, zero, suc, ◌+◌, ◌-◌, ◌*◌, ◌^◌, ◌≤◌, ◌<◌}
use native.Mathlib.Nat.{add-mul, mul-sub, mul-one, mul_assoc, mul_comm, mul-mul-mul_comm, mul-lt-mul_of_pos_right, mul-le-mul_right, mul-pos, zero-lt-suc, lt_of_lt_of_le, lt_irrefl}
use native.Mathlib.Omega.{arith}
use lib.Dec.{ltb, lit<, lit≤}
use lib.IntN.{ℤ, pos, negsuc, nat_abs, ◌+ℤ◌, ◌-ℤ◌, ◌*ℤ◌}
use lib.Pow.{pow-add, pow_mono, pow_pos, shl_lt}
use lib.Ieee.{Float, nan, inf, fin, binary64, up, down, unlike, neg, round, sum, add, sub, mul, of_int}
use lib.Ieee.Digits.{back}
use lib.Ieee.Fits.{down_pos}
use lib.Ieee.Exact.{HasValue, round_exact}
use lib.Ieee.Scale.{round_same}
use borrow.Author.Tests.{lt-ltb, le-ltb, ltb-true, ltb-false}
use Rattle.refusal.proofs.Truth.{and_left, and_right}
use Rattle.screen.specs.Fraction.{signed, Equals, negative, nearest}
use Rattle.screen.proofs.Signed.{add_same, add-other, sized, signed-not, signed-times}

-- ---- the nearest float

pub of_whole : (k : ℤ) → of_int binary64 k ≡ nearest k 1
unfolding of_int
of_whole (pos n) = refl
of_whole (negsuc n) = refl

-- k / 2 ^ b is a float, where k has at most 53 digits
pub value_of : (b : ℕ) (k : ℤ) → b ≤ 1074 → nat_abs k < 2 ^ 53 → HasValue (nearest k (2 ^ b)) (negative k) (nat_abs k) (2 ^ b)
value_of b k fits small =
    let n = nat_abs k in
    round_exact binary64 (negative k) n (2 ^ b) n (1074 - b) (pow_pos b) small
    (lt_of_lt_of_le (shl_lt 53 (1074 - b) small) (pow_mono {j = 1074 + 1024} (omega arith)))
    (ap (λ (x : ℕ). n * x) (ap (λ (x : ℕ). 2 ^ x) (sym (back 1074 b fits)) ∙ pow-add 2 (1074 - b) b) ∙ sym (mul_assoc n (2 ^ (1074 - b)) (2 ^ b)))

-- a size with a sign rounds as that number, where it is not -0
rounded : (s : Bool) (n d : ℕ) → (s ≡ true → 0 < n) → round binary64 s n d ≡ nearest (signed s n) d
rounded false n d some = refl
rounded true zero d some = absurd (lt_irrefl 0 (some refl))
rounded true (suc n) d some = refl

-- ---- sums of whole numbers

module _ (c : ℕ) (some : 0 < c) where
  -- n * c / c is the whole number n
  reduced : (s : Bool) (n : ℕ) → round binary64 s (n * c) c ≡ round binary64 s n 1
  reduced s n = round_same binary64 s (n * c) c n 1 some (lit< tt) (mul-one (n * c))

  less : (a b : ℕ) → a * c - b * c ≡ (a - b) * c
  less a b = ap₂ ◌-◌ (mul_comm a c) (mul_comm b c) ∙ sym (mul-sub c a b) ∙ mul_comm c (a - b)

  scaled : (a b : ℕ) → ltb (a * c) (b * c) ≡ ltb a b
  scaled a b = go (ltb a b) refl
    where
      go : (t : Bool) → ltb a b ≡ t → ltb (a * c) (b * c) ≡ t
      go true e = lt-ltb (a * c) (b * c) (mul-lt-mul_of_pos_right (ltb-true a b e) some)
      go false e = le-ltb (a * c) (b * c) (mul-le-mul_right c (ltb-false a b e))

  -- 0 has no sign
  unsigned : (s : Bool) (a b : ℕ) → signed (s && ltb b a) (a - b) ≡ signed s (a - b)
  unsigned false a b = refl
  unsigned true a b = go (ltb b a) refl
    where
      go : (t : Bool) → ltb b a ≡ t → signed t (a - b) ≡ signed true (a - b)
      go true e = refl
      go false e = let none : a - b ≡ 0 = omega (arith, ltb-false b a e) in rw none

  above : (s : Bool) (a b : ℕ) → (s && ltb b a) ≡ true → 0 < a - b
  above s a b e = omega (arith, ltb-true b a (and_right s (ltb b a) e))

  opposite : (s : Bool) (a b : ℕ)
      → cond (ltb (a * c) (b * c)) (round binary64 (not s) (b * c - a * c) c) (round binary64 (s && ltb (b * c) (a * c)) (a * c - b * c) c)
      ≡ nearest (signed s a +ℤ signed (not s) b) 1
  opposite s a b = rw (scaled a b, scaled b a, less a b, less b a, reduced (not s) (b - a), reduced (s && ltb b a) (a - b), add-other s a b) (go (ltb a b) refl)
    where
      go : (t : Bool) → ltb a b ≡ t
          → cond t (round binary64 (not s) (b - a) 1) (round binary64 (s && ltb b a) (a - b) 1) ≡ nearest (cond t (signed (not s) (b - a)) (signed s (a - b))) 1
      go true e = rounded (not s) (b - a) 1 (λ _. omega (arith, ltb-true a b e))
      go false e = rounded (s && ltb b a) (a - b) 1 (above s a b) ∙ ap (λ (k : ℤ). nearest k 1) (unsigned s a b)

  alike : (s : Bool) (a b : ℕ) → (s ≡ true → 0 < a) → round binary64 s (a * c + b * c) c ≡ nearest (signed s a +ℤ signed s b) 1
  alike s a b h = rw (← add-mul a b c, reduced, add_same) (rounded s (a + b) 1 (λ e. omega (arith, h e)))

  -- two sizes with their signs, that are not -0 both
  sum-whole : (s t : Bool) (a b : ℕ) → ((s && t) ≡ true → 0 < a) → sum binary64 s (a * c) t (b * c) c ≡ nearest (signed s a +ℤ signed t b) 1
  unfolding sum
  sum-whole false false a b h = alike false a b h
  sum-whole true true a b h = alike true a b h
  sum-whole false true a b h = opposite false a b
  sum-whole true false a b h = opposite true a b

-- a whole number added to another
pub add-whole : (x y : Float) (s t : Bool) (a b : ℕ) → HasValue x s a 1 → HasValue y t b 1 → ((s && t) ≡ true → 0 < a)
    → add binary64 x y ≡ nearest (signed s a +ℤ signed t b) 1
unfolding add
add-whole nan y s t a b x-is y-is h = elim x-is [ ]
add-whole (inf _) y s t a b x-is y-is h = elim x-is [ ]
add-whole (fin u m e) nan s t a b x-is y-is h = elim y-is [ ]
add-whole (fin u m e) (inf _) s t a b x-is y-is h = elim y-is [ ]
add-whole (fin u m e) (fin v n d) s t a b x-is y-is h =
    let x-size : m * up e * down d ≡ a * (down e * down d) = ap (λ (k : ℕ). k * down d) (sym (mul-one (m * up e)) ∙ x-is.1) ∙ mul_assoc a (down e) (down d) in
    let y-size : n * up d * down e ≡ b * (down e * down d) =
    ap (λ (k : ℕ). k * down e) (sym (mul-one (n * up d)) ∙ y-is.1) ∙ mul_assoc b (down d) (down e) ∙ ap (λ (k : ℕ). b * k) (mul_comm (down d) (down e))
    in
    rw (x-size, y-size, x-is.0, y-is.0) (sum-whole (down e * down d) (mul-pos (down_pos e) (down_pos d)) s t a b h)

pub neg_value : (x : Float) (s : Bool) (a c : ℕ) → HasValue x s a c → HasValue (neg x) (not s) a c
unfolding neg
neg_value nan s a c x-is = elim x-is [ ]
neg_value (inf _) s a c x-is = elim x-is [ ]
neg_value (fin u m e) s a c x-is = (ap not x-is.0, x-is.1)

-- a whole number less another
pub sub-whole : (x y : Float) (s t : Bool) (a b : ℕ) → HasValue x s a 1 → HasValue y t b 1 → (s ≡ true → 0 < a)
    → sub binary64 x y ≡ nearest (signed s a -ℤ signed t b) 1
unfolding sub
sub-whole x y s t a b x-is y-is h =
    add-whole x (neg y) s (not t) a b x-is (neg_value y t b 1 y-is) (λ e. h (and_left s (not t) e)) ∙ ap (λ (j : ℤ). nearest (signed s a +ℤ j) 1) (signed-not t b)

-- the same of the float of a whole number
pub sub-nearest : (k : ℤ) (y : Float) (t : Bool) (b : ℕ) → nat_abs k < 2 ^ 53 → HasValue y t b 1 → sub binary64 (nearest k 1) y ≡ nearest (k -ℤ signed t b) 1
sub-nearest k y t b small y-is =
    sub-whole (nearest k 1) y (negative k) t (nat_abs k) b (value_of 0 k (lit≤ tt) small) y-is (below-zero k) ∙ ap (λ (i : ℤ). nearest (i -ℤ signed t b) 1) (sized k)
  where
    below-zero : (k : ℤ) → negative k ≡ true → 0 < nat_abs k
    below-zero (pos n) e = absurd (true≢false (sym e))
    below-zero (negsuc n) e = zero-lt-suc n

-- ---- a whole number times some eighths

unlike_false : (s : Bool) → unlike s false ≡ s
unlike_false false = refl
unlike_false true = refl

mul-values : (x z : Float) (s : Bool) (a p b q : ℕ) → 0 < p * q → HasValue x s a p → HasValue z false b q → mul binary64 x z ≡ round binary64 s (a * b) (p * q)
unfolding mul
mul-values nan z s a p b q some x-is z-is = elim x-is [ ]
mul-values (inf _) z s a p b q some x-is z-is = elim x-is [ ]
mul-values (fin u m e) nan s a p b q some x-is z-is = elim z-is [ ]
mul-values (fin u m e) (inf _) s a p b q some x-is z-is = elim z-is [ ]
mul-values (fin u m e) (fin v n d) s a p b q some x-is z-is =
    rw (x-is.0, z-is.0, unlike_false)
    (round_same binary64 s (m * up e * (n * up d)) (down e * down d) (a * b) (p * q) (mul-pos (down_pos e) (down_pos d)) some
    (mul-mul-mul_comm (m * up e) (n * up d) p q ∙ ap₂ ◌*◌ x-is.1 z-is.1 ∙ mul-mul-mul_comm a (down e) b (down d)))

pub mul-eighths : (k : ℤ) (z : Float) (b : ℕ) → nat_abs k < 2 ^ 53 → 0 < b → HasValue z false b 8 → mul binary64 (nearest k 1) z ≡ nearest (k *ℤ pos b) 8
mul-eighths k z b small some z-is =
    mul-values (nearest k 1) z (negative k) (nat_abs k) 1 b 8 (lit< tt) (value_of 0 k (lit≤ tt) small) z-is ∙ times k
  where
    times : (k : ℤ) → round binary64 (negative k) (nat_abs k * b) 8 ≡ nearest (k *ℤ pos b) 8
    times (pos n) = refl
    times (negsuc n) = rounded true (suc n * b) 8 (λ _. mul-pos (zero-lt-suc n) some)

-- eight times some eighths
pub mul-eight : (k : ℤ) → nat_abs k < 2 ^ 53 → mul binary64 (nearest k 8) (fin false 1 (pos 3)) ≡ nearest k 1
mul-eight k small =
    mul-values (nearest k 8) (fin false 1 (pos 3)) (negative k) (nat_abs k) 8 8 1 (lit< tt) (value_of 3 k (lit≤ tt) small) (refl, refl)
    ∙ reduced 8 (lit< tt) (negative k) (nat_abs k)

-- ---- a float that has a value is that fraction

pub equals_of : (x : Float) (s : Bool) (a d : ℕ) → HasValue x s a d → Equals x (signed s a) d
equals_of nan s a d x-is = elim x-is [ ]
equals_of (inf _) s a d x-is = elim x-is [ ]
equals_of (fin u m e) s a d x-is = ap₂ signed x-is.0 x-is.1 ∙ signed-times s a (down e)

pub equals-nearest : (b : ℕ) (k : ℤ) → b ≤ 1074 → nat_abs k < 2 ^ 53 → Equals (nearest k (2 ^ b)) k (2 ^ b)
equals-nearest b k fits small =
    subst (λ (j : ℤ). Equals (nearest k (2 ^ b)) j (2 ^ b)) (sized k)
    (equals_of (nearest k (2 ^ b)) (negative k) (nat_abs k) (2 ^ b) (value_of b k fits small))
