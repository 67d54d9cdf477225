-- Ordered shape, and the nodes that correspond.
use Rattle.std.specs.Prelude.{ℕ, Bool, true, false, ◌&&◌, List, [], ◌∷◌, ◌++◌}
use Rattle.tree.specs.Table.{first_child}
use Rattle.tree.specs.Forest.{Forest, nil, node, forest}
use Rattle.tree.specs.Levels.{Pair}

-- Two forests have the same shape: equally many roots, and the children of the first roots, of the second and so on have the same shape.
abbrev pub same_shape : Forest → Forest → Bool
same_shape nil nil = true
same_shape nil (node w below after) = false
same_shape (node v below after) nil = false
same_shape (node v below after) (node w below' after') = same_shape below below' && same_shape after after'

-- the pairs of nodes that correspond in two forests of one shape
abbrev pub corresponding : Forest → Forest → List Pair
corresponding nil g = []
corresponding (node v below after) nil = []
corresponding (node v below after) (node w below' after') = (v, w) ∷ (corresponding below below' ++ corresponding after after')

-- the forest of node v's children
unfoldable pub under : List ℕ → ℕ → Forest
under t v = forest t (first_child t v)

-- node v of table t and node w of table u have the same ordered shape
unfoldable pub same_ordered_shape : List ℕ → ℕ → List ℕ → ℕ → Bool
same_ordered_shape t v u w = same_shape (under t v) (under u w)

-- node v of table t, and every node below it, with the node of table u that corresponds to it
unfoldable pub corresponding_under : List ℕ → ℕ → List ℕ → ℕ → List Pair
corresponding_under t v u w = (v, w) ∷ corresponding (under t v) (under u w)
