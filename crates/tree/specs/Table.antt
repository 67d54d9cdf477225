-- The tree table: two entries for each node, its first child and then its next sibling. Nodes are numbered from 0, and node 0 is the root.
use Rattle.std.specs.Prelude.{ℕ, ◌+◌, ◌*◌, ◌/◌, cond, List, Option, Some, None, eqb, length, get_or}

-- the entry that names no node
abbrev pub none : ℕ
none = 65535

-- how many nodes a table has
abbrev pub nodes : List ℕ → ℕ
nodes t = length t / 2

abbrev pub first_child : List ℕ → ℕ → ℕ
first_child t v = get_or t (2 * v) none

abbrev pub next_sibling : List ℕ → ℕ → ℕ
next_sibling t v = get_or t (2 * v + 1) none

-- the node that an entry names, if it names one
abbrev pub named : ℕ → Option ℕ
named e = cond (eqb e none) None (Some e)
