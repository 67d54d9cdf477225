-- The dots of a plot, and those of a tree's layout. A dot is a point: a level and a place.
use Rattle.std.specs.Prelude.{ℕ, Bool, true, false, ◌&&◌, ◌||◌, eqb, ℤ, pos, negsuc, get_or}
use mathlib.Core.List.{List, [], ◌∷◌, map, Memᴰ}
use Rattle.std.specs.Int.Signed.{lt_z}
use Rattle.rule.specs.Join.{Spacing, plain}
use Rattle.tree.specs.Numbers.{up_to, any}
use Rattle.tree.specs.Table.{nodes}
use Rattle.tree.specs.Forest.{tree_of}
use Rattle.tree.specs.Levels.{level, levels, together}
use Rattle.rule.specs.Result.{place}
use Rattle.plots.specs.declared.Point.{Point}

abbrev pub point : ℤ → ℤ → Point
point l x = record { level = l; place = x }

-- the points of a slice: level, place, level, place and so on
abbrev pub points_of : List ℤ → List Point
points_of [] = []
points_of (l ∷ []) = []
points_of (l ∷ x ∷ dots) = point l x ∷ points_of dots

-- the point of a pair of entries
abbrev pub point_of : List ℤ → Point
point_of pair = point (get_or pair 0 (pos 0)) (get_or pair 1 (pos 0))

-- and back
abbrev pub entries_of : List Point → List ℤ
entries_of [] = []
entries_of (a ∷ points) = a.level ∷ a.place ∷ entries_of points

-- ---- their order

abbrev pub equal_z : ℤ → ℤ → Bool
equal_z (pos m) (pos n) = eqb m n
equal_z (pos m) (negsuc n) = false
equal_z (negsuc m) (pos n) = false
equal_z (negsuc m) (negsuc n) = eqb m n

-- by level and then place
abbrev pub comes_before : Point → Point → Bool
comes_before a b = lt_z a.level b.level || (equal_z a.level b.level && lt_z a.place b.place)

-- each point comes before the next one
abbrev pub rises_from : Point → List Point → Bool
rises_from a [] = true
rises_from a (b ∷ points) = comes_before a b && rises_from b points

abbrev pub rises : List Point → Bool
rises [] = true
rises (a ∷ points) = rises_from a points

-- ---- as sets

abbrev pub same_point : Point → Point → Bool
same_point a b = equal_z a.level b.level && equal_z a.place b.place

abbrev pub is_among : List Point → Point → Bool
is_among points a = any (same_point a) points

abbrev pub all_among : List Point → List Point → Bool
all_among points [] = true
all_among points (a ∷ others) = is_among points a && all_among points others

-- each point of the one is among those of the other
unfoldable pub same_set : List Point → List Point → Bool
same_set ps qs = all_among qs ps && all_among ps qs

-- the same in words (`set_same` and `same_set_lem` of proofs/Sets.antt)
abbrev pub Within : List Point → List Point → Type 0
Within ps qs = (a : Point) → Memᴰ a ps → Memᴰ a qs

pub record SameSet (ps qs : List Point) : Type 0 where
  pub there : Within ps qs
  pub back : Within qs ps

-- ---- of a layout

-- with half-widths 0, any two neighbours need the separation alone
abbrev pub apart : ℕ → Spacing
apart D = plain (λ a b. D)

-- the level and the place of a node in the layout of a table under separation D, by the written rule
abbrev pub node_point : ℕ → List ℕ → ℕ → Point
node_point D t v = point (pos (level t v)) (place (apart D) t v)

-- those of all nodes
unfoldable pub laid_out : ℕ → List ℕ → List Point
laid_out D t = map (node_point D t) (up_to (nodes t))

-- the same level by level from the top and left to right on each level: so they rise (`reading-rises` of proofs/Laid.antt)
unfoldable pub in_reading_order : ℕ → List ℕ → List Point
in_reading_order D t = map (node_point D t) (together (levels (tree_of t)))

-- as a slice: the dots of the table's plot
unfoldable pub plot_of : ℕ → List ℕ → List ℤ
unfolding in_reading_order
plot_of D t = entries_of (in_reading_order D t)

-- a table fits where the levels and the places of its layout, as a set, are the points
unfoldable pub table_fits : ℕ → List Point → List ℕ → Bool
unfolding same_set laid_out
table_fits D points t = same_set (laid_out D t) points
