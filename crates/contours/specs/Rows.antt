-- What the working slice holds while the children of one node are joined.
use Rattle.std.specs.Prelude.{ℕ, suc, ◌+◌, ◌-◌, ◌≤◌, ◌<◌, ◌≡◌, ◌⊎◌, List, [], ◌∷◌, ℤ, pos, ◌+ℤ◌, ◌-ℤ◌}
use Rattle.rule.specs.Drawing.{Drawing, none, at, width, place_at, first_place, last_place, middle, Dot, last_of, row_dots}
use Rattle.rule.specs.Join.{Spacing}
use Rattle.rule.specs.Rule.{draw}
use Rattle.level_order.specs.LevelOrder.{positions}
use Rattle.contours.specs.Contours.{LeftSteps, RightSteps}
use Rattle.contours.specs.Gather.{pending}

-- ---- whose is a node of the right contour

-- no position of the row from f to end
abbrev pub Outside : ℕ → ℕ → ℤ → Type 0
Outside f end z = (k : ℕ) → f ≤ k → k < end → z ≡ pos k → ⊥

-- On each level the ancestor of the last node is the child to which it belongs, or it is out of date and that child is the default.
abbrev pub Owned : (ℕ → ℤ) → ℕ → ℕ → ℕ → List (List Dot) → Type 0
Owned ancestor f end default [] = Unit {0}
Owned ancestor f end default (x ∷ xs) =
    ((ancestor (last_of x).node ≡ pos (f + (last_of x).child))
    ⊎ (Outside f end (ancestor (last_of x).node) × (default ≡ f + (last_of x).child)))
    × Owned ancestor f end default xs

-- ---- rows and subtrees that are drawn

-- the fields that a family uses, as functions of the position
pub record Columns : Type 0 where
  pub place : ℕ → ℤ
  pub left : ℕ → ℤ
  pub right : ℕ → ℤ
  pub ancestor : ℕ → ℤ
  pub shift : ℕ → ℤ
  pub change : ℕ → ℤ

-- the drawing of the children of position p
abbrev pub children_drawn : (ℕ → ℕ) → ℕ → Spacing → ℕ → Drawing
children_drawn first n spacing p = draw spacing (positions n first (first p) (first (suc p)))

-- the contours of the subtree at position p are stored
pub record Subtree (first : ℕ → ℕ) (n : ℕ) (spacing : Spacing) (p : ℕ) (left right : ℕ → ℤ) : Type 0 where
  pub left-row : LeftSteps left (row_dots 0 (children_drawn first n spacing p))
  pub right-row : RightSteps right (row_dots 0 (children_drawn first n spacing p))
  pub left-root : 0 < width (children_drawn first n spacing p)
      → left p ≡ pos (first_place (children_drawn first n spacing p)) -ℤ pos (middle (children_drawn first n spacing p))
  pub right-root : 0 < width (children_drawn first n spacing p)
      → right p ≡ pos (last_place (children_drawn first n spacing p)) -ℤ pos (middle (children_drawn first n spacing p))

-- the row of the positions from f to c
abbrev pub row_drawn : (ℕ → ℕ) → ℕ → Spacing → ℕ → ℕ → Drawing
row_drawn first n spacing f c = draw spacing (positions n first f c)

-- Children f to c, of those from f to end, are joined: each stands where its place and what is still pending put it, the contours of the row
-- are stored, and the owners on its right contour are known.
pub record Row (first : ℕ → ℕ) (n : ℕ) (spacing : Spacing) (f c end default : ℕ) (w : Columns) : Type 0 where
  pub places : (p : ℕ) → f ≤ p → p < c → w.place p +ℤ pending w.shift w.change end p ≡ pos (place_at (row_drawn first n spacing f c) (p - f))
  pub settled : (p : ℕ) → suc p ≡ c → w.place p ≡ pos (place_at (row_drawn first n spacing f c) (p - f))
  pub beyond : (p : ℕ) → c ≤ p → p < end → pending w.shift w.change end p ≡ pos 0
  pub left-steps : LeftSteps w.left (row_dots 0 (row_drawn first n spacing f c))
  pub right-steps : RightSteps w.right (row_dots 0 (row_drawn first n spacing f c))
  pub owned : Owned w.ancestor f end default (row_dots 0 (row_drawn first n spacing f c))

-- ---- offsets

-- each node of a row has its offset from the row's parent, which stands at m in the row's count, and so have the nodes below
abbrev pub Offsets : (ℕ → ℤ) → ℕ → Drawing → Type 0
Offsets offset m none = Unit {0}
Offsets offset m (at v x below after) = (offset v ≡ pos x -ℤ pos m) × Offsets offset (middle below) below × Offsets offset m after
