-- The ordered tree that a table stands for. A forest is a row of siblings: empty, or a node with the forest of its children and
-- the forest of its further siblings. A tree is a forest of one root.
use Rattle.std.specs.Prelude.{ℕ, zero, suc, ◌+◌, true, false, cond, List, [], ◌∷◌, ◌++◌, ltb, eqb}
use Rattle.tree.specs.Numbers.{up_to, flat_map}
use Rattle.tree.specs.Table.{none, nodes, first_child, next_sibling}

pub data Forest : Type 0 where
  nil : Forest
  node : ℕ → Forest → Forest → Forest

-- ---- from a table to its tree

-- The forest that an entry of the table names, followed for k steps of first child or next sibling. An entry that is not the number
-- of a node names the empty forest.
abbrev pub forest_from : ℕ → List ℕ → ℕ → Forest
forest_from zero t v = nil
forest_from (suc k) t v =
    elim (ltb v (nodes t)) [
      | true ↦ node v (forest_from k t (first_child t v)) (forest_from k t (next_sibling t v))
      | false ↦ nil
    ]

-- The forest that an entry names. No way down a tree of n nodes is longer than n.
unfoldable pub forest : List ℕ → ℕ → Forest
forest t v = forest_from (nodes t) t v

-- the tree of a table: what is reached from node 0
unfoldable pub tree_of : List ℕ → Forest
unfolding forest
tree_of t = forest t 0

-- ---- parts of a forest

-- how many nodes
abbrev pub size : Forest → ℕ
size nil = 0
size (node v children siblings) = suc (size children + size siblings)

-- the nodes, each parent first, then the subtrees of its children left to right
abbrev pub preorder : Forest → List ℕ
preorder nil = []
preorder (node v children siblings) = v ∷ (preorder children ++ preorder siblings)

-- the roots of a forest, left to right
abbrev pub roots : Forest → List ℕ
roots nil = []
roots (node v children siblings) = v ∷ roots siblings

-- the entry that names a forest: its first root's number
abbrev pub entry : Forest → ℕ
entry nil = none
entry (node v children siblings) = v

abbrev pub children : Forest → Forest
children nil = nil
children (node v below siblings) = below

abbrev pub siblings : Forest → Forest
siblings nil = nil
siblings (node v below after) = after

abbrev pub or_else : Forest → Forest → Forest
or_else nil g = g
or_else (node v below after) g = node v below after

-- the part of a forest that starts with node v
abbrev pub starting_at : ℕ → Forest → Forest
starting_at v nil = nil
starting_at v (node u below after) = cond (eqb v u) (node u below after) (or_else (starting_at v below) (starting_at v after))

-- one forest behind another: the roots of both, in a row
abbrev pub join : Forest → Forest → Forest
join nil g = g
join (node v below after) g = node v below (join after g)

-- ---- from a tree to its table

-- node v's two entries
abbrev pub row : Forest → ℕ → List ℕ
row f v = entry (children (starting_at v f)) ∷ entry (siblings (starting_at v f)) ∷ []

-- the table of n nodes that stands for a tree
unfoldable pub table_of : ℕ → Forest → List ℕ
table_of n f = flat_map (row f) (up_to n)
