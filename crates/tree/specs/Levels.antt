-- Levels, tree order and neighbours.
use Rattle.std.specs.Prelude.{ℕ, zero, suc, cond, List, [], ◌∷◌, ◌++◌, length}
use Rattle.tree.specs.Numbers.{flat_map, member}
use Rattle.tree.specs.Table.{nodes, first_child}
use Rattle.tree.specs.Forest.{Forest, nil, node, forest, roots, tree_of}

-- ---- the level-by-level walk of a table

-- the children of node v, left to right
unfoldable pub children_of : List ℕ → ℕ → List ℕ
unfolding forest
children_of t v = roots (forest t (first_child t v))

-- The walk: the nodes of one level, and below it their children, left to right. It ends at a level with no node, and k bounds how
-- many levels are walked.
abbrev pub walk_from : ℕ → List ℕ → List ℕ → List (List ℕ)
walk_from zero t vs = []
walk_from (suc k) t [] = []
walk_from (suc k) t (v ∷ vs) = (v ∷ vs) ∷ walk_from k t (flat_map (children_of t) (v ∷ vs))

-- the levels of a table, from the root's down, each in tree order
unfoldable pub walk : List ℕ → List (List ℕ)
walk t = walk_from (nodes t) t (0 ∷ [])

-- ---- the same, read off a forest

-- two forests' levels side by side
abbrev pub beside {ℓ} : {A : Type ℓ} → List (List A) → List (List A) → List (List A)
beside [] ys = ys
beside (x ∷ xs) [] = x ∷ xs
beside (x ∷ xs) (y ∷ ys) = (x ++ y) ∷ beside xs ys

-- the levels of a forest: a root stands above the levels of its children, and beside the levels of its siblings
abbrev pub levels : Forest → List (List ℕ)
levels nil = []
levels (node v below after) = beside ((v ∷ []) ∷ levels below) (levels after)

-- all the levels in a row
abbrev pub together {ℓ} : {A : Type ℓ} → List (List A) → List A
together = flat_map (λ l. l)

unfoldable pub level_count : List ℕ → ℕ
level_count t = length (levels (tree_of t))

-- the level of node v: the place, counted from 0, of the first level that has it
abbrev pub level_in : List (List ℕ) → ℕ → ℕ
level_in [] v = 0
level_in (l ∷ ls) v = cond (member v l) 0 (suc (level_in ls v))

unfoldable pub level : List ℕ → ℕ → ℕ
level t v = level_in (levels (tree_of t)) v

-- two nodes side by side, the left one first
abbrev pub Pair : Type 0
Pair = ℕ × ℕ

-- the neighbours on one level, left to right
abbrev pub side_by_side : List ℕ → List Pair
side_by_side [] = []
side_by_side (a ∷ []) = []
side_by_side (a ∷ b ∷ l) = (a, b) ∷ side_by_side (b ∷ l)

-- the neighbours of a table's tree in reading order: level by level from the top, left to right on each level
unfoldable pub neighbours : List ℕ → List Pair
neighbours t = flat_map side_by_side (levels (tree_of t))
