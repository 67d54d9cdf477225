-- A number that is above 0, and one that is not. Assumes nothing.
use mathlib.Core.Path.{◌≡◌, refl, sym, subst}
use mathlib.Core.Bool.{true, false}
use Prim.Native.Nat.{◌<◌}
use native.Mathlib.Omega.{arith}
use borrow.Author.Tests.{ltb-true, ltb-false}
use lib.Dec.{T}
use lib.IntN.{ℤ, pos, negsuc}
use lib.Signed.{lt_z}
use Rattle.rule.specs.Join.{above0}

pub is-above : (z : ℤ) → lt_z (pos 0) z ≡ true → (z ≡ pos (above0 z)) × (0 < above0 z)
is-above (pos n) e = (refl, ltb-true 0 n e)
is-above (negsuc n) e = absurd (subst T (sym e) tt)

pub not-above : (z : ℤ) → lt_z (pos 0) z ≡ false → above0 z ≡ 0
not-above (pos n) e = omega (arith, ltb-false 0 n e)
not-above (negsuc n) e = refl
