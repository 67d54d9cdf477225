-- Drawings. A drawing is a row of siblings, as a forest is: each node has its place in its row, counted from the row's first node, and
-- the drawing of its children. A subtree moves with its root, since nothing below the root says where the root stands.
use Rattle.std.specs.Prelude.{ℕ, zero, suc, ◌+◌, ◌-◌, ◌/◌, List, [], ◌∷◌, map, ℤ, pos, ◌+ℤ◌, ◌-ℤ◌}
use Rattle.tree.specs.Levels.{beside}

pub data Drawing : Type 0 where
  none : Drawing
  at : ℕ → ℕ → Drawing → Drawing → Drawing

-- how many siblings
abbrev pub width : Drawing → ℕ
width none = 0
width (at v x below after) = suc (width after)

-- one row behind another
abbrev pub append : Drawing → Drawing → Drawing
append none e = e
append (at v x below after) e = at v x below (append after e)

-- the place of the sibling number p, of the first, and of the last
abbrev pub place_at : Drawing → ℕ → ℕ
place_at none p = 0
place_at (at v x below after) zero = x
place_at (at v x below after) (suc p) = place_at after p

abbrev pub first_place : Drawing → ℕ
first_place none = 0
first_place (at v x below after) = x

abbrev pub last_place : Drawing → ℕ
last_place none = 0
last_place (at v x below none) = x
last_place (at v x below (at w y under after)) = last_place (at w y under after)

-- where the parent of a row stands, in the row's count: at the first child plus half the distance to the last child, rounded down
abbrev pub middle : Drawing → ℕ
middle row = first_place row + (last_place row - first_place row) / 2

-- ---- levels and contours

-- a node with its place, and the number, in the row that is looked at, of the child to whose subtree it belongs
pub record Dot : Type 0 where
  pub child : ℕ
  pub node : ℕ
  pub place : ℤ

abbrev pub dot : ℕ → ℕ → ℤ → Dot
dot i v x = record { child = i; node = v; place = x }

-- the levels below a row that belongs to child i: the row's count starts at place o
abbrev pub dots : ℕ → ℤ → Drawing → List (List Dot)
dots i o none = []
dots i o (at v x below after) = beside ((dot i v (o +ℤ pos x) ∷ []) ∷ dots i (o +ℤ pos x -ℤ pos (middle below)) below) (dots i o after)

-- the levels of a row of children, the first of which has the number i
abbrev pub row_dots : ℕ → Drawing → List (List Dot)
row_dots i none = []
row_dots i (at v x below after) = beside (dots i (pos 0) (at v x below none)) (row_dots (i + 1) after)

-- the first and the last of a level
abbrev pub first_of : List Dot → Dot
first_of [] = dot 0 0 (pos 0)
first_of (d ∷ ds) = d

abbrev pub last_of : List Dot → Dot
last_of [] = dot 0 0 (pos 0)
last_of (d ∷ []) = d
last_of (d ∷ e ∷ ds) = last_of (e ∷ ds)

-- a contour has one node of each level: the left one the first, the right one the last
abbrev pub left_contour : List (List Dot) → List Dot
left_contour = map first_of

abbrev pub right_contour : List (List Dot) → List Dot
right_contour = map last_of
