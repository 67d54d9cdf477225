-- Dots that are wrong, and what the functions of this crate promise of the others.
use Rattle.std.specs.Prelude.{ℕ, ◌*◌, ◌<◌, ◌≡◌, Bool, not, ◌&&◌, ◌||◌, List, map, eqb, ℤ, pos, nat_abs, length, get_or}
use Rattle.std.specs.Int.Signed.{le_z}
use Rattle.tree.specs.Numbers.{up_to, any, count}
use Rattle.plots.specs.Points.{point, points_of, rises}
use Rattle.plots.specs.declared.Point.{Point}

-- outside 0 to 7
abbrev pub level_wrong : Point → Bool
level_wrong a = not (le_z (pos 0) a.level && le_z a.level (pos 7))

-- there are other than 2n entries, a level is outside 0 to 7, or the dots do not strictly rise by level and then place
unfoldable pub dots_wrong : ℕ → List ℤ → Bool
dots_wrong n dots = not (eqb (length dots) (2 * n)) || any level_wrong (points_of dots) || not (rises (points_of dots))

-- the points that levels and places by node number tell
abbrev pub points_at : ℕ → List ℕ → List ℤ → List Point
points_at n levels places = map (λ v. point (pos (get_or levels v 0)) (get_or places v (pos 0))) (up_to n)

-- the levels of points
abbrev pub levels_in : List Point → List ℕ
levels_in points = map (λ (a : Point). nat_abs a.level) points

-- for each level from 0 to 7, how many of the points stand on it
pub record Profile (points : List Point) (profile : List ℕ) : Type 0 where
  pub size : length profile ≡ 8
  pub count-on : (l : ℕ) → l < 8 → get_or profile l 0 ≡ count l (levels_in points)
