-- The digits of a number stand for it, so that no two numbers have the same, and the first is no zero but for 0 itself. Assumes nothing.
use mathlib.Core.Path.{◌≡◌, sym, ap, ◌∙◌}
use Prim.Native.Nat.{ℕ, ◌+◌, ◌-◌, ◌*◌, ◌/◌, ◌%◌, ◌≤◌, ◌<◌}
use native.Mathlib.Omega.{arith}
use mathlib.Core.List.{List, [], ◌∷◌, ◌++◌}
use lib.ListN.{length, get_or, get_or-append}
use Rattle.lines.specs.Decimal.{zero_byte, digit, decimal, value_after, value}
use Rattle.lines.proofs.Decimal.{by-tens, decimal-small, decimal-large, size_small, size-large}

-- one digit more
value-more : (m : ℕ) (bytes : List ℕ) (d : ℕ) → value_after m (bytes ++ digit d ∷ []) ≡ 10 * value_after m bytes + d
unfolding value_after
value-more m [] d = omega arith
value-more m (byte ∷ bytes) d = value-more (10 * m + (byte - zero_byte)) bytes d

value-one : (d : ℕ) → value (digit d ∷ []) ≡ d
unfolding value_after
value-one d = omega arith

pub read_back : (n : ℕ) → value (decimal n) ≡ n
read_back = by-tens (λ n. value (decimal n) ≡ n) small large
  where
    small : (n : ℕ) → n < 10 → value (decimal n) ≡ n
    small n h = ap value (decimal-small n h) ∙ value-one n

    large : (n : ℕ) → 10 ≤ n → value (decimal (n / 10)) ≡ n / 10 → value (decimal n) ≡ n
    large n h before = omega (arith, ap value (decimal-large n h) ∙ value-more 0 (decimal (n / 10)) (n % 10))

pub decimal_unique : (a b : ℕ) → decimal a ≡ decimal b → a ≡ b
decimal_unique a b same = sym (read_back a) ∙ ap value same ∙ read_back b

pub some-digit : (n : ℕ) → 0 < length (decimal n)
some-digit = by-tens (λ n. 0 < length (decimal n)) (λ n h. omega (arith, size_small n h)) (λ n h before. omega (arith, size-large n h))

-- no needless zeros
pub first-digit : (n : ℕ) → 0 < n → zero_byte < get_or (decimal n) 0 0
first-digit = by-tens (λ n. 0 < n → zero_byte < get_or (decimal n) 0 0) small large
  where
    small : (n : ℕ) → n < 10 → 0 < n → zero_byte < get_or (decimal n) 0 0
    small n h some = omega (arith, ap (λ (l : List ℕ). get_or l 0 0) (decimal-small n h))

    large : (n : ℕ) → 10 ≤ n → (0 < n / 10 → zero_byte < get_or (decimal (n / 10)) 0 0) → 0 < n → zero_byte < get_or (decimal n) 0 0
    large n h before some =
        let higher : zero_byte < get_or (decimal (n / 10)) 0 0 = before (omega arith) in
        omega (
          arith,
          ap (λ (l : List ℕ). get_or l 0 0) (decimal-large n h) ∙ get_or-append (decimal (n / 10)) (digit (n % 10) ∷ []) 0 0 (some-digit (n / 10)),
        )
