-- Three labels, and what is refused of half-widths, by computation. Assumes nothing.
use mathlib.Core.Path.{◌≡◌, refl}
use mathlib.Core.Bool.{true, false}
use mathlib.Core.List.{[], ◌∷◌}
use Rattle.distance.specs.Needed.{needed, bad_half_widths}

-- with D = 4 and half-widths 1, 9 and 20: nodes 0 and 1 need 14, nodes 1 and 2 need 33
pub labels : (needed 4 (1 ∷ 9 ∷ 20 ∷ []) 0 1 ≡ 14) × (needed 4 (1 ∷ 9 ∷ 20 ∷ []) 1 2 ≡ 33)
labels = (refl, refl)

-- 256 is taken and 257 is not, wherever it stands among the first n; past them it is not looked at; and n of them are needed
pub judged : (bad_half_widths 2 (256 ∷ 256 ∷ []) ≡ false) × (bad_half_widths 2 (257 ∷ 0 ∷ []) ≡ true) × (bad_half_widths 2 (0 ∷ 257 ∷ []) ≡ true)
    × (bad_half_widths 2 (0 ∷ 0 ∷ 257 ∷ []) ≡ false) × (bad_half_widths 2 (0 ∷ []) ≡ true)
unfolding bad_half_widths
judged = (refl, refl, refl, refl, refl)
