-- Digits, and a number with one digit more. Assumes nothing.
use mathlib.Core.Path.{◌≡◌, ap, ap₂, ◌∙◌, subst⁻¹}
use Prim.Native.Nat.{ℕ, ◌+◌, ◌-◌, ◌*◌, ◌/◌, ◌%◌, ◌≤◌, ◌<◌}
use native.Mathlib.Omega.{arith}
use mathlib.Core.Bool.{true, ◌&&◌}
use mathlib.Core.List.{[], ◌∷◌, ◌++◌}
use lib.Dec.{leb}
use borrow.Author.Tests.{le-leb, leb-true}
use Rattle.refusal.proofs.Truth.{and_left, and_right}
use Rattle.lines.specs.Decimal.{zero_byte, digit, decimal}
use Rattle.lines.proofs.Decimal.{by-tens, decimal-small, decimal-large}
use Rattle.tree.proofs.Counting.{All, all_append}
use Rattle.newick.specs.Reading.{is_digit}

pub is_digit_lem : (byte : ℕ) → zero_byte ≤ byte → byte ≤ digit 9 → is_digit byte ≡ true
unfolding is_digit
is_digit_lem byte low high = ap₂ ◌&&◌ (le-leb _ _ low) (le-leb _ _ high)

pub digit_low : (byte : ℕ) → is_digit byte ≡ true → zero_byte ≤ byte
unfolding is_digit
digit_low byte h = leb-true zero_byte byte (and_left (leb zero_byte byte) (leb byte (digit 9)) h)

pub digit-high : (byte : ℕ) → is_digit byte ≡ true → byte ≤ digit 9
unfolding is_digit
digit-high byte h = leb-true byte (digit 9) (and_right (leb zero_byte byte) (leb byte (digit 9)) h)

-- one digit
pub decimal-byte : (byte : ℕ) → is_digit byte ≡ true → decimal (byte - zero_byte) ≡ byte ∷ []
decimal-byte byte h =
    let low = digit_low byte h in
    let high = digit-high byte h in
    decimal-small (byte - zero_byte) (omega arith) ∙ ap (λ (x : ℕ). x ∷ []) (omega arith)

-- one digit more
pub decimal-more : (v byte : ℕ) → 1 ≤ v → is_digit byte ≡ true → decimal (10 * v + (byte - zero_byte)) ≡ decimal v ++ byte ∷ []
decimal-more v byte some h =
    let low = digit_low byte h in
    let high = digit-high byte h in
    decimal-large (10 * v + (byte - zero_byte)) (omega arith)
    ∙ ap₂ (λ (w d : ℕ). decimal w ++ digit d ∷ []) (over v (byte - zero_byte) (omega arith)) (rest v (byte - zero_byte) (omega arith))
    ∙ ap (λ (x : ℕ). decimal v ++ x ∷ []) (omega arith)
  where
    over : (v d : ℕ) → d < 10 → (10 * v + d) / 10 ≡ v
    over v d h = omega arith

    rest : (v d : ℕ) → d < 10 → (10 * v + d) % 10 ≡ d
    rest v d h = omega arith

-- a number is written in digits
pub decimal-digits : (v : ℕ) → All (λ byte. is_digit byte ≡ true) (decimal v)
decimal-digits = by-tens (λ v. All (λ byte. is_digit byte ≡ true) (decimal v)) small large
  where
    small : (v : ℕ) → v < 10 → All (λ byte. is_digit byte ≡ true) (decimal v)
    small v h = subst⁻¹ (All (λ byte. is_digit byte ≡ true)) (decimal-small v h) (is_digit_lem (digit v) (omega arith) (omega arith), tt)

    large : (v : ℕ) → 10 ≤ v → All (λ byte. is_digit byte ≡ true) (decimal (v / 10)) → All (λ byte. is_digit byte ≡ true) (decimal v)
    large v h before =
        subst⁻¹ (All (λ byte. is_digit byte ≡ true)) (decimal-large v h)
        (all_append (λ byte. is_digit byte ≡ true) (decimal (v / 10)) (digit (v % 10) ∷ []) before (is_digit_lem (digit (v % 10)) (omega arith) (omega arith), tt))
