-- `screen::is_zoom` meets its contract: a float equals a power of two where it is that fraction. Assumes nothing.
use mathlib.Core.Path.{◌≡◌, ap₂}
use mathlib.Core.Bool.{false, ◌||◌}
use Prim.Native.Nat.{◌*◌}
use native.Mathlib.Omega.{arith}
use lib.IntN.{ℤ, pos, negsuc}
use lib.Ieee.{fin, up, down, eq, of_bits}
use Rattle.screen.specs.Fraction.{equals}
use Rattle.screen.specs.Screen.{is_zoom}
use Rattle.screen.proofs.Compared.{eq-equals}
use Rattle.screen.proofs.is_zoom.Goals as goal

pub returns : goal.returns
unfolding is_zoom of_bits
returns c =
    let z = c.args.z in
    let at : (e : ℤ) → eq z (fin false 1 e) ≡ equals z (1 * up e) (down e) = λ e. eq-equals 1 e (omega arith) z in
    ap₂ ◌||◌
    (ap₂ ◌||◌ (ap₂ ◌||◌ (ap₂ ◌||◌ (ap₂ ◌||◌ (ap₂ ◌||◌ (at (negsuc 2)) (at (negsuc 1))) (at (negsuc 0))) (at (pos 0))) (at (pos 1))) (at (pos 2)))
    (at (pos 3))
