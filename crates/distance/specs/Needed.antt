-- The distance that two neighbours need, and what is refused of it.
use Rattle.std.specs.Prelude.{ℕ, zero, suc, ◌+◌, max, Bool, not, ◌||◌, ◌&&◌, List, ltb, leb, length, get_or}

-- a distance for every two nodes, the left one first
abbrev pub Distance : Type 0
Distance = ℕ → ℕ → ℕ

-- half the width of a node's label
abbrev pub half_width : List ℕ → ℕ → ℕ
half_width half_widths v = get_or half_widths v 0

-- neighbours a and b need the separation and both half-widths
abbrev pub needed : ℕ → List ℕ → Distance
needed separation half_widths a b = separation + half_width half_widths a + half_width half_widths b

-- the greatest half-width of the first n nodes
abbrev pub widest : ℕ → List ℕ → ℕ
widest zero half_widths = 0
widest (suc n) half_widths = max (widest n half_widths) (half_width half_widths n)

-- 6: the separation is not in 1 to 1,024
unfoldable pub bad_separation : ℕ → Bool
bad_separation separation = not (leb 1 separation && leb separation 1024)

-- 17: there are fewer than n half-widths, or one of the first n is above 256
unfoldable pub bad_half_widths : ℕ → List ℕ → Bool
bad_half_widths n half_widths = ltb (length half_widths) n || ltb 256 (widest n half_widths)
