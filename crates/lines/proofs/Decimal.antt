-- The equations of the decimal digits, and how many there are. Assumes nothing.
use mathlib.Core.Path.{◌≡◌, refl, sym, ap, ◌∙◌}
use Prim.Native.Nat.{ℕ, zero, suc, ◌+◌, ◌/◌, ◌%◌, ◌≤◌, ◌<◌}
use native.Mathlib.Nat.{lt_of_not-le, le_refl}
use native.Mathlib.Numerals.{add-one}
use native.Mathlib.Decide.{dec_le}
use native.Mathlib.Omega.{arith}
use mathlib.Core.List.{List, [], ◌∷◌, ◌++◌}
use lib.ListN.{length, length-append}
use borrow.Author.Tests.{lt-ltb, le-ltb}
use Rattle.lines.specs.Decimal.{digit, decimal_within, decimal}
use Rattle.lines.specs.Steps.{digits}

-- one order or the other
pub split {ℓ} : {X : Type ℓ} (a b : ℕ) → (a ≤ b → X) → (b < a → X) → X
split a b f g = elim (dec_le a b) [ yes h ↦ f h | no h ↦ g (lt_of_not-le h) ]

-- what holds below ten, and of n where it holds of n / 10, holds of every number
by-tens-within {ℓ} : (P : ℕ → Type ℓ) → ((n : ℕ) → n < 10 → P n) → ((n : ℕ) → 10 ≤ n → P (n / 10) → P n) → (k n : ℕ) → n ≤ k → P n
by-tens-within P small large zero n h = small n (omega arith)
by-tens-within P small large (suc k) n h =
    split 10 n (λ l. large n l (by-tens-within P small large k (n / 10) (omega arith))) (λ l. small n l)

pub by-tens {ℓ} : (P : ℕ → Type ℓ) → ((n : ℕ) → n < 10 → P n) → ((n : ℕ) → 10 ≤ n → P (n / 10) → P n) → (n : ℕ) → P n
by-tens P small large n = by-tens-within P small large n n (le_refl n)

-- ---- the equations

within-small : (k n : ℕ) → n < 10 → decimal_within k n ≡ digit n ∷ []
unfolding decimal_within
within-small zero n h = refl
within-small (suc k) n h = rw (lt-ltb n 10 h, decimal_within)

within-large : (k n : ℕ) → 10 ≤ n → decimal_within (suc k) n ≡ decimal_within k (n / 10) ++ digit (n % 10) ∷ []
unfolding decimal_within
within-large k n h = rw (le-ltb n 10 h, decimal_within)

-- the bound on the steps does not matter
within_same : (n k m : ℕ) → n ≤ k → n ≤ m → decimal_within k n ≡ decimal_within m n
within_same =
    by-tens (λ n. (k m : ℕ) → n ≤ k → n ≤ m → decimal_within k n ≡ decimal_within m n)
    (λ n h k m hk hm. within-small k n h ∙ sym (within-small m n h)) large
  where
    large : (n : ℕ) → 10 ≤ n → ((k m : ℕ) → n / 10 ≤ k → n / 10 ≤ m → decimal_within k (n / 10) ≡ decimal_within m (n / 10))
        → (k m : ℕ) → n ≤ k → n ≤ m → decimal_within k n ≡ decimal_within m n
    large n h same zero m hk hm = absurd (omega arith)
    large n h same (suc k) zero hk hm = absurd (omega arith)
    large n h same (suc k) (suc m) hk hm =
        within-large k n h ∙ ap (λ (l : List ℕ). l ++ digit (n % 10) ∷ []) (same k m (omega arith) (omega arith)) ∙ sym (within-large m n h)

pub decimal-small : (n : ℕ) → n < 10 → decimal n ≡ digit n ∷ []
unfolding decimal
decimal-small n h = within-small n n h

pub decimal-large : (n : ℕ) → 10 ≤ n → decimal n ≡ decimal (n / 10) ++ digit (n % 10) ∷ []
unfolding decimal
decimal-large n h = within_same n n (suc n) (omega arith) (omega arith) ∙ within-large n n h
    ∙ ap (λ (l : List ℕ). l ++ digit (n % 10) ∷ []) (within_same (n / 10) n (n / 10) (omega arith) (omega arith))

-- ---- how many digits

pub size_small : (n : ℕ) → n < 10 → length (decimal n) ≡ 1
size_small n h = ap length (decimal-small n h)

pub size-large : (n : ℕ) → 10 ≤ n → length (decimal n) ≡ length (decimal (n / 10)) + 1
size-large n h = ap length (decimal-large n h) ∙ length-append (decimal (n / 10)) (digit (n % 10) ∷ [])

-- ---- the last digits

pub length_digits : (count n : ℕ) → length (digits count n) ≡ count
unfolding digits
length_digits zero n = refl
length_digits (suc count) n =
    let fewer : length (digits count (n / 10)) ≡ count = length_digits count (n / 10) in
    omega (arith, length-append (digits count (n / 10)) (digit (n % 10) ∷ []))

-- all of them
pub digits-all : (n : ℕ) → digits (length (decimal n)) n ≡ decimal n
unfolding digits
digits-all = by-tens (λ n. digits (length (decimal n)) n ≡ decimal n) small large
  where
    small : (n : ℕ) → n < 10 → digits (length (decimal n)) n ≡ decimal n
    small n h =
        let last : n % 10 ≡ n = omega arith in
        ap (λ (k : ℕ). digits k n) (size_small n h) ∙ ap (λ (d : ℕ). digit d ∷ []) last ∙ sym (decimal-small n h)

    large : (n : ℕ) → 10 ≤ n → digits (length (decimal (n / 10))) (n / 10) ≡ decimal (n / 10) → digits (length (decimal n)) n ≡ decimal n
    large n h before =
        ap (λ (k : ℕ). digits k n) (size-large n h ∙ add-one (length (decimal (n / 10))))
        ∙ ap (λ (l : List ℕ). l ++ digit (n % 10) ∷ []) before
        ∙ sym (decimal-large n h)
