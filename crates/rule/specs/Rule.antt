-- Where a node stands. Each subtree is drawn on its own first, and the children of a node are joined left to right.
use Rattle.std.specs.Prelude.{ℕ, Bool, cond, List, [], ◌++◌, pos}
use Rattle.tree.specs.Levels.{Pair}
use Rattle.tree.specs.Forest.{Forest, nil, node, tree_of}
use Rattle.tree.specs.Shape.{under}
use Rattle.rule.specs.Drawing.{Drawing, none, Dot, dots}
use Rattle.rule.specs.Join.{Spacing, Meeting, significant, join, measured, meetings}

-- the children of a forest joined, one after the other, to a row
abbrev pub draw_onto : Spacing → Drawing → Forest → Drawing
draw_onto spacing row nil = row
draw_onto spacing row (node v below after) = draw_onto spacing (join spacing row v (draw_onto spacing none below)) after

-- the drawing of a forest of siblings
abbrev pub draw : Spacing → Forest → Drawing
draw spacing f = draw_onto spacing none f

-- the pairs that are measured on the way
abbrev pub record_onto : Spacing → Drawing → Forest → List Pair
record_onto spacing row nil = []
record_onto spacing row (node v below after) =
    record_onto spacing none below
    ++ measured spacing.need row v (draw_onto spacing none below)
    ++ record_onto spacing (join spacing row v (draw_onto spacing none below)) after

-- the levels of a table's drawing, each node with its place; the root stands at 0
unfoldable pub drawn : Spacing → List ℕ → List (List Dot)
drawn spacing t = dots 0 (pos 0) (draw spacing (tree_of t))

-- the measured pairs of a table's drawing
unfoldable pub recorded : Spacing → List ℕ → List Pair
recorded spacing t = record_onto spacing none (tree_of t)

-- ---- the nodes of a table that are significant

-- what is met where the last child of a forest is joined to a row with all the others
abbrev pub last_meetings : Spacing → Drawing → Forest → List Meeting
last_meetings spacing row nil = []
last_meetings spacing row (node v below nil) = meetings spacing.need row v (draw spacing below)
last_meetings spacing row (node v below (node w under after)) = last_meetings spacing (join spacing row v (draw spacing below)) (node w under after)

-- node v is significant if joining the last of its children met a conflict below their own level
unfoldable pub significant_at : Spacing → List ℕ → ℕ → Bool
significant_at spacing t v = significant (last_meetings spacing none (under t v))

-- how much is added there
abbrev pub extra_at : Spacing → List ℕ → ℕ → ℕ
extra_at spacing t v = cond (significant_at spacing t v) spacing.extra 0
