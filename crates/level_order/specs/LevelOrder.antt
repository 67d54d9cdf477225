-- Level order. A forest's nodes are met level by level, and each gets the next position, from 0. Positions belong to level order, numbers
-- to the table.
use Rattle.std.specs.Prelude.{ℕ, zero, suc, ◌+◌, true, false, ltb, length}
use Rattle.tree.specs.Forest.{Forest, nil, node, join, roots, entry}

-- The forest of the nodes that wait: its first root is met next, and the root's children then wait behind the others.
abbrev pub step : Forest → Forest
step nil = nil
step (node v below after) = join after below

-- the nodes that wait when p nodes have been met
abbrev pub waiting : ℕ → Forest → Forest
waiting zero f = f
waiting (suc p) f = waiting p (step f)

-- the number of the node at position p
abbrev pub node_at : Forest → ℕ → ℕ
node_at f p = entry (waiting p f)

-- The position of the first child of the node at position p, or, where it has none, the position that its first child would have had.
-- The children of position p stand at the positions from `first_at f p` up to, and without, `first_at f (p + 1)`.
abbrev pub first_at : Forest → ℕ → ℕ
first_at f p = p + length (roots (waiting p f))

-- ---- the forest of positions

-- the forest of the positions from a up to, and without, b, where the children of position p are those from `first p` to `first (p + 1)`;
-- k bounds its depth
abbrev pub positions : ℕ → (ℕ → ℕ) → ℕ → ℕ → Forest
positions zero first a b = nil
positions (suc k) first a b =
    elim (ltb a b) [
      | true ↦ node a (positions k first (first a) (first (suc a))) (positions k first (suc a) b)
      | false ↦ nil
    ]

-- the tree of the positions of f, a tree of n nodes
abbrev pub position_tree : Forest → ℕ → Forest
position_tree f n = positions n (first_at f) 0 1
