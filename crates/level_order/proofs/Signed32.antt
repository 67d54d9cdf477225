-- Signed 32-bit numbers in the code: a local holds a number's bits, and a number that fits is read back from them. Assumes nothing.
use mathlib.Core.Path.{◌≡◌, sym, ap, ap₂, ◌∙◌, subst}
use Prim.Native.Nat.{ℕ, ◌≤◌, ◌<◌}
use native.Mathlib.Omega.{arith}
use lib.Dec.{T}
use lib.IntN.{ℤ, pos, negsuc, nat_abs, ◌+ℤ◌, ◌-ℤ◌}
use lib.Signed.{non_neg, mag}
use mir.Syntax.{Width, w32, w64}
use mir.Val.{Fits, SFits, to_z, of_z}
use mir.ValLaws.{to_z-of_z, to_z_pos}

-- z, as it is read from the bits that hold it
abbrev pub stored : ℤ → ℤ
stored z = to_z w32 (of_z w32 z)

-- z is r, fits, and is read back
pub record Held (z r : ℤ) : Type 0 where
  pub fits : SFits w32 z
  pub read : stored z ≡ r

-- what is known to fit, as a call's result and a struct's field are
pub told : {z r : ℤ} → mag z < 2147483648 → z ≡ r → stored z ≡ r
told {z} h e = to_z-of_z w32 z (record { sfits = h }) ∙ e

-- `mag`, by which a width's range is said, is at most the size
pub mag_size : (z : ℤ) → mag z ≤ nat_abs z
mag_size (pos n) = omega arith
mag_size (negsuc n) = omega arith

-- what is small
pub held : {z r : ℤ} → z ≡ r → nat_abs r < 2147483648 → Held z r
held {z} {r} e h = record { fits = record { sfits = small }; read = told small e }
  where
    small : mag z < 2147483648
    small = omega (arith, mag_size z, ap nat_abs e)

-- a sum and a difference of numbers that were read, u for x and v for y
module _ {u v x y : ℤ} (p : u ≡ x) (q : v ≡ y) where
  pub plus : nat_abs (x +ℤ y) < 2147483648 → Held (u +ℤ v) (x +ℤ y)
  plus = held (ap₂ ◌+ℤ◌ p q)

  pub minus : nat_abs (x -ℤ y) < 2147483648 → Held (u -ℤ v) (x -ℤ y)
  minus = held (ap₂ ◌-ℤ◌ p q)

-- ---- natural numbers

-- cast to a signed one
pub signed : (n : ℕ) → n < 2147483648 → to_z w32 n ≡ pos n
signed n h = to_z_pos w32 n h

-- cast back
module _ (z : ℤ) (n : ℕ) (e : z ≡ pos n) (h : n < 2147483648) where
  pub natural : stored z ≡ pos n
  natural = (held e h).read

  pub unsigned : nat_abs (stored z) ≡ n
  unsigned = ap nat_abs natural

  pub castable : (w : Width) → Fits w n → T (non_neg (stored z)) × Fits w (nat_abs (stored z))
  castable w f = subst (λ (x : ℤ). T (non_neg x) × Fits w (nat_abs x)) (sym natural) (tt, f)

  pub unsigned-fits : T (non_neg (stored z)) × Fits w64 (nat_abs (stored z))
  unsigned-fits = castable w64 (record { fits = omega arith })
