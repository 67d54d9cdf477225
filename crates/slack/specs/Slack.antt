-- No slack at the last child of a node, and the width of a sheet. Levels and places are taken as they stand, by node number.
use Rattle.std.specs.Prelude.{ℕ, ◌+◌, ◌-◌, ◌*◌, ◌/◌, ◌≤◌, ◌≡◌, Bool, true, ◌&&◌, List, [], ◌∷◌, ℤ, pos, ◌+ℤ◌, ◌≤ℤ◌}
use Rattle.distance.specs.Needed.{Distance}
use Rattle.tree.specs.Numbers.{any, member}
use Rattle.tree.specs.Forest.{preorder, table_of}
use Rattle.tree.specs.Levels.{children_of, neighbours}
use Rattle.tree.specs.Operations.{number_from}
use Rattle.tree.specs.Shape.{under}
use Rattle.rule.specs.Record.{pair_count}
use Rattle.small_trees.specs.SmallTrees.{star}

-- ---- between the subtrees of a node's children

-- node x is in the subtree of node c: it is c, or stands below it
abbrev pub in_subtree : List ℕ → ℕ → ℕ → Bool
in_subtree t c x = member x (c ∷ preorder (under t c))

-- all of a list but its last, and the last
abbrev pub all_but_last : List ℕ → List ℕ
all_but_last [] = []
all_but_last (c ∷ []) = []
all_but_last (c ∷ d ∷ l) = c ∷ all_but_last (d ∷ l)

abbrev pub last_one : List ℕ → ℕ
last_one [] = 0
last_one (c ∷ []) = c
last_one (c ∷ d ∷ l) = last_one (d ∷ l)

-- of the children of node v, x is in the subtree of one before the last, and y in that of the last
abbrev pub between : List ℕ → ℕ → ℕ → ℕ → Bool
between t v x y = any (λ c. in_subtree t c x) (all_but_last (children_of t v)) && in_subtree t (last_one (children_of t v)) y

-- Between the last child's subtree of node v and those before it, two neighbours stand exactly as far apart as they need, and `more`; and no two
-- nodes of one level stand closer.
pub record NoSlack (need : Distance) (more : ℕ) (t : List ℕ) (v : ℕ) (level : ℕ → ℕ) (place : ℕ → ℤ) : Type 0 where
  pub left : ℕ
  pub right : ℕ
  pub side_by_side : 1 ≤ pair_count left right (neighbours t)
  pub across : between t v left right ≡ true
  pub exactly : place right ≡ place left +ℤ pos (need left right + more)
  pub no_closer : (x y : ℕ) → between t v x y ≡ true → level x ≡ level y → (place x +ℤ pos (need x y + more)) ≤ℤ place y

-- ---- the width

-- how wide a sheet of n nodes may be, where no two of them need more than `most`, and `extra` is added at a significant node
abbrev pub most_width : ℕ → ℕ → ℕ → ℕ
most_width n most extra = (n - 2) * most + (n - 2) / 2 * extra

-- the star of n nodes: all but the root are the root's children, numbered as by renumber
unfoldable pub star_table : ℕ → List ℕ
star_table n = table_of n (number_from 0 (star n))

-- its width, where all nodes have one half-width
abbrev pub star_width : ℕ → ℕ → ℕ → ℕ
star_width n separation half_width = (n - 2) * (separation + 2 * half_width)
