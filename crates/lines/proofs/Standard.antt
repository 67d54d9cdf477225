-- The decimal digits are those that the standard library prints. Assumes nothing.
use Rattle.std.proofs.Common.{◌≡◌, ℕ, zero, suc, ◌%◌, ◌/◌, ◌^◌, ◌≤◌, ◌<◌, List, [], ◌∷◌, ◌++◌, ℤ, pos, negsuc, sym, ap, ◌∙◌, arith}
use Rattle.std.specs.Fmt as fmt
use Rattle.std.proofs.lemmas.Fmt.{decimal_digit, decimal_step}
use mir.Syntax.{w32}
use mir.Val.{SFits}
use Rattle.lines.specs.Decimal.{decimal, signed_decimal, digit, minus}
use Rattle.lines.proofs.Decimal.{by-tens, decimal-small, decimal-large}

pub decimal_standard : (n : ℕ) → n < 2 ^ 64 → decimal n ≡ fmt.decimal n
decimal_standard = by-tens (λ n. n < 2 ^ 64 → decimal n ≡ fmt.decimal n) small large
  where
    small : (n : ℕ) → n < 10 → n < 2 ^ 64 → decimal n ≡ fmt.decimal n
    small n one h = decimal-small n one ∙ sym (decimal_digit n one)

    large : (n : ℕ) → 10 ≤ n → (n / 10 < 2 ^ 64 → decimal (n / 10) ≡ fmt.decimal (n / 10)) → n < 2 ^ 64 → decimal n ≡ fmt.decimal n
    large n more before h =
        decimal-large n more ∙ ap (λ (l : List ℕ). l ++ digit (n % 10) ∷ []) (before (omega arith)) ∙ sym (decimal_step n more h)

pub signed_decimal_standard : (z : ℤ) → SFits w32 z → signed_decimal z ≡ fmt.signed_decimal z
unfolding signed_decimal
signed_decimal_standard (pos n) h = decimal_standard n (omega arith)
signed_decimal_standard (negsuc zero) h = ap (λ (l : List ℕ). minus ∷ l) (decimal_standard 1 (omega arith))
signed_decimal_standard (negsuc (suc n)) h = ap (λ (l : List ℕ). minus ∷ l) (decimal_standard (suc (suc n)) (omega arith))
