-- Level sequences. An ordered tree is written as the levels of its nodes in Renumber's order: each parent first, then the subtrees of its
-- children left to right.
use Rattle.std.specs.Prelude.{ℕ, suc, ◌+◌, Bool, true, false, cond, ◌&&◌, List, [], ◌∷◌, ◌++◌, map, eqb, leb, ltb}
use Rattle.tree.specs.Forest.{Forest, nil, node}
use Rattle.tree.specs.Levels.{level}
use Rattle.tree.specs.Operations.{old_numbers}

-- ---- from a tree to its sequence

-- of a table's tree
unfoldable pub level_sequence : List ℕ → List ℕ
level_sequence t = map (level t) (old_numbers t)

-- of a forest whose roots stand on level l
abbrev pub levels_from : ℕ → Forest → List ℕ
levels_from l nil = []
levels_from l (node v below after) = l ∷ (levels_from (suc l) below ++ levels_from l after)

-- ---- which lists are level sequences

-- each further level is at least 1 and at most one more than the level before
abbrev pub goes_on : ℕ → List ℕ → Bool
goes_on before [] = true
goes_on before (l ∷ ls) = leb 1 l && leb l (suc before) && goes_on l ls

-- the first level is 0
unfoldable pub is_sequence : List ℕ → Bool
is_sequence [] = false
is_sequence (l ∷ ls) = eqb l 0 && goes_on l ls

-- ---- from a sequence to its tree

-- The forest of the nodes on level l that come before any smaller level, each with what stands below it. The first node of the list has
-- the number k, the next one k + 1 and so on.
abbrev pub forest_on : ℕ → ℕ → List ℕ → Forest
forest_on l k [] = nil
forest_on l k (m ∷ ms) =
    cond (ltb m l) nil (cond (eqb m l) (node k (forest_on (suc l) (k + 1) ms) (forest_on l (k + 1) ms)) (forest_on l (k + 1) ms))

unfoldable pub tree_of_levels : List ℕ → Forest
tree_of_levels levels = forest_on 0 0 levels

-- ---- their order

-- the first difference decides: the smaller level comes first
abbrev pub comes_before : List ℕ → List ℕ → Bool
comes_before [] ms = false
comes_before (l ∷ ls) [] = false
comes_before (l ∷ ls) (m ∷ ms) = cond (eqb l m) (comes_before ls ms) (ltb l m)
