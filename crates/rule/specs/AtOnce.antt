-- The walk once more, as it is told: on each level the new child and the go-betweens are moved at the time, and the contours of the next
-- level are those of what has been moved. The join that the rule uses moves the go-betweens at the end; the two give one drawing.
use Rattle.std.specs.Prelude.{ℕ, zero, suc, ◌+◌, List, [], ◌∷◌, pos, length, drop}
use Rattle.distance.specs.Needed.{Distance}
use Rattle.tree.specs.Forest.{Forest, nil, node}
use Rattle.rule.specs.Drawing.{Drawing, none, width, append, Dot, dots, left_contour}
use Rattle.rule.specs.Join.{Spacing, shortfall, spread, start, alone, row_contour, meetings, added}

-- a row, and the place of the child that is being joined to it
pub record Joining : Type 0 where
  pub row : Drawing
  pub place : ℕ

-- the row with the child, and the drawing below it, behind it
abbrev pub with_child : Joining → ℕ → Drawing → Drawing
with_child s v below = append s.row (alone v s.place below)

-- one level, with what is left of the two contours from that level on
abbrev pub step : Distance → ℕ → Joining → List Dot → List Dot → Joining
step need j s [] ws = s
step need j s (a ∷ us) [] = s
step need j s (a ∷ us) (b ∷ ws) =
    let amount = shortfall (need a.node b.node) a.place b.place in
    record { row = spread j (record { child = a.child; amount = amount } ∷ []) 0 s.row; place = s.place + amount }

-- level l of the walk
abbrev pub walk_level : Distance → ℕ → ℕ → ℕ → Drawing → Joining → Joining
walk_level need l j v below s =
    step need j s (drop l (row_contour s.row)) (drop l (left_contour (dots j (pos 0) (alone v s.place below))))

-- k levels from level l on
abbrev pub walk_down : Distance → ℕ → ℕ → ℕ → ℕ → Drawing → Joining → Joining
walk_down need zero l j v below s = s
walk_down need (suc k) l j v below s = walk_down need k (suc l) j v below (walk_level need l j v below s)

-- the join, for as many levels as the row's contour has; then the extra space is added
abbrev pub join_at_once : Spacing → Drawing → ℕ → Drawing → Drawing
join_at_once spacing row v below =
    let need = spacing.need in
    let s = walk_down need (length (row_contour row)) 0 (width row) v below (record { row = row; place = start need row v }) in
    with_child (record { row = s.row; place = s.place + added spacing.extra (meetings need row v below) }) v below

-- the drawing of a forest by such joins
abbrev pub draw_onto_at_once : Spacing → Drawing → Forest → Drawing
draw_onto_at_once spacing row nil = row
draw_onto_at_once spacing row (node v below after) =
    draw_onto_at_once spacing (join_at_once spacing row v (draw_onto_at_once spacing none below)) after
