-- Numbers in decimal, as bytes: the most significant digit first and no needless zeros, and a minus sign before a negative number.
use Rattle.std.specs.Prelude.{ℕ, zero, suc, ◌+◌, ◌-◌, ◌*◌, ◌/◌, ◌%◌, true, false, List, [], ◌∷◌, ◌++◌, ltb, ℤ, pos, negsuc}

-- the byte of the digit 0; the other digits' bytes follow it
abbrev pub zero_byte : ℕ
zero_byte = 48

-- the byte of the minus sign
abbrev pub minus : ℕ
minus = 45

-- the byte of a digit
abbrev pub digit : ℕ → ℕ
digit d = zero_byte + d

-- below ten one digit, and else the digits of n / 10 and then that of n % 10. The first number bounds the steps.
unfoldable pub decimal_within : ℕ → ℕ → List ℕ
decimal_within zero n = digit n ∷ []
decimal_within (suc steps) n =
    elim (ltb n 10) [ true ↦ digit n ∷ [] | false ↦ decimal_within steps (n / 10) ++ digit (n % 10) ∷ [] ]

-- an unsigned number; it has fewer digits than n + 1, so that the bound is never met
unfoldable pub decimal : ℕ → List ℕ
decimal n = decimal_within n n

-- a signed number
unfoldable pub signed_decimal : ℤ → List ℕ
signed_decimal (pos n) = decimal n
signed_decimal (negsuc n) = minus ∷ decimal (suc n)

-- the number that digits stand for, behind digits that stand for m
unfoldable pub value_after : ℕ → List ℕ → ℕ
value_after m [] = m
value_after m (byte ∷ bytes) = value_after (10 * m + (byte - zero_byte)) bytes

-- the number that digits stand for
abbrev pub value : List ℕ → ℕ
value bytes = value_after 0 bytes
