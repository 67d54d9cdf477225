-- From 2 ^ 52 to 2 ^ 53 the floats are the whole numbers and no others: a fraction there rounds to a whole number. Assumes nothing.
use mathlib.Core.Path.{◌≡◌, sym, ap, ◌∙◌, subst}
use mathlib.Core.Bool.{Bool, false}
use Prim.Native.Nat.{ℕ, ◌+◌, ◌*◌, ◌/◌, ◌%◌, ◌^◌, ◌≤◌, ◌<◌, compare}
use native.Mathlib.Nat.{mul-one, mul_right_comm, le_trans, le_of_eq, lt_of_lt_of_le, lt_of_le_of_lt, lt_of_not-le, not-le_of_lt, mul-le-mul_right, mul-lt-mul_of_pos_right, le-div_iff_mul-le, div-lt_iff_lt-mul, div-div-eq-div-mul, eq_of_mul-eq-mul_right}
use native.Mathlib.Omega.{arith}
use lib.Dec.{lit<}
use lib.Pow.{pow-add, pow_mono, pow_pos}
use lib.Ieee.{Float, nan, inf, fin, binary64, up, down, size, round}
use lib.Ieee.Digits.{size-lt, size-le}
use lib.Ieee.Fits.{kept-lt, nearest-le}
use lib.Ieee.Exact.{HasValue}
use lib.Ieee.Order.{drop, kept}
use lib.Ieee.Scale.{round_val}

-- q * 2 ^ l / 2 ^ l is the whole number q
in_lowest : (x : Float) (s : Bool) (q l : ℕ) → HasValue x s (q * 2 ^ l) (2 ^ l) → HasValue x s q 1
in_lowest nan s q l x-is = elim x-is [ ]
in_lowest (inf _) s q l x-is = elim x-is [ ]
in_lowest (fin t m e) s q l x-is =
    (x-is.0, mul-one (m * up e) ∙ eq_of_mul-eq-mul_right (2 ^ l) (pow_pos l) (m * up e) (q * down e) (x-is.1 ∙ mul_right_comm q (2 ^ l) (down e)))

-- n / c lies from 2 ^ 52 to 2 ^ 53
pub record Between (n c : ℕ) : Type 0 where
  pub some : 0 < c
  pub low : 2 ^ 52 * c ≤ n
  pub high : n < 2 ^ 53 * c

module _ (n c : ℕ) (B : Between n c) where
  -- n / c in units of 2 ^ -l has 53 + l digits before the point
  digits : (l : ℕ) → size (n * 2 ^ l / c) ≡ 53 + l
  digits l =
      let least : 2 ^ (52 + l) * c ≤ n * 2 ^ l = le_trans (le_of_eq (ap (λ (x : ℕ). x * c) (pow-add 2 52 l) ∙ mul_right_comm (2 ^ 52) (2 ^ l) c)) (mul-le-mul_right (2 ^ l) B.low) in
      let most : n * 2 ^ l < 2 ^ (53 + l) * c =
      lt_of_lt_of_le (mul-lt-mul_of_pos_right B.high (pow_pos l)) (le_of_eq (mul_right_comm (2 ^ 53) c (2 ^ l) ∙ ap (λ (x : ℕ). x * c) (sym (pow-add 2 53 l))))
      in
      let reached : 52 + l < size (n * 2 ^ l / c) =
      lt_of_not-le (λ (few : size (n * 2 ^ l / c) ≤ 52 + l). not-le_of_lt (lt_of_lt_of_le (size-lt (n * 2 ^ l / c)) (pow_mono few)) ((le-div_iff_mul-le B.some).1 least))
      in
      omega (arith, size-le (n * 2 ^ l / c) (53 + l) ((div-lt_iff_lt-mul B.some).1 most))

  -- so 53 of them are kept, and what is kept is the whole part or one more
  pub rounded : ℕ
  rounded = kept 53 (n * 2 ^ 1074) c

  dropped : drop 53 (n * 2 ^ 1074) c ≡ 1074
  dropped = omega (arith, digits 1074)

  pub rounded-most : rounded ≤ 2 ^ 53
  unfolding rounded
  rounded-most =
      let k = drop 53 (n * 2 ^ 1074) c in
      let u = c * 2 ^ k in
      le_trans (nearest-le (n * 2 ^ 1074 / u) (compare (n * 2 ^ 1074 % u * 2) u))
      (subst (λ (x : ℕ). x < 2 ^ 53) (div-div-eq-div-mul (n * 2 ^ 1074) c (2 ^ k)) (kept-lt 53 (n * 2 ^ 1074 / c)))

  pub rounds_whole : HasValue (round binary64 false n c) false rounded 1
  unfolding rounded
  rounds_whole =
      let at : (k : ℕ) → k ≡ 1074 → rounded * 2 ^ k < 2 ^ (1074 + 1024) =
      λ k e. subst (λ (j : ℕ). rounded * 2 ^ j < 2 ^ (1074 + 1024)) (sym e) (lt_of_le_of_lt (mul-le-mul_right (2 ^ 1074) rounded-most) (lit< tt))
      in
      in_lowest (round binary64 false n c) false rounded 1074
      (subst (λ (k : ℕ). HasValue (round binary64 false n c) false (rounded * 2 ^ k) (2 ^ 1074)) dropped (round_val binary64 n c (at (drop 53 (n * 2 ^ 1074) c) dropped)))
