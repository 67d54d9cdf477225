-- What the three operations on tree tables give, for every input.
use Rattle.std.specs.Prelude.{ℕ, ◌+◌, ◌*◌, ◌≡◌, ◌||◌, List, [], ◌∷◌, ◌++◌, ltb, length}
use Rattle.refusal.specs.First.{◌⇐◌, first}
use Rattle.refusal.specs.After.{granted, after}
use Rattle.tree.specs.Table
use Rattle.tree.specs.Table.{nodes}
use Rattle.tree.specs.Forest.{Forest, nil, node, tree_of, table_of, size, preorder}
use Rattle.tree.specs.WellFormed.{table_conditions, table_number}

-- ---- table check

pub record CheckTable (table : List ℕ) (k n : ℕ) : Type 0 where
  pub number : k ≡ table_number table
  pub nodes : n ≡ granted (table_number table) (Table.nodes table) 0

-- ---- mirror

-- the forest with every node's children in reverse order, in front of `done`
abbrev pub mirror_onto : Forest → Forest → Forest
mirror_onto nil done = done
mirror_onto (node v below after) done = mirror_onto after (node v (mirror_onto below nil) done)

unfoldable pub mirror : Forest → Forest
mirror f = mirror_onto f nil

-- the table with every node's children in reverse order, numbers kept
unfoldable pub mirrored : List ℕ → List ℕ
mirrored t = table_of (nodes t) (mirror (tree_of t))

unfoldable pub mirror_number : List ℕ → ℕ → ℕ
mirror_number t outLength = first (table_conditions t ++ (7 ⇐ ltb outLength (2 * nodes t) ∷ []))

pub record Mirror (table output : List ℕ) (k : ℕ) (outputAfter : List ℕ) : Type 0 where
  pub number : k ≡ mirror_number table (length output)
  pub out : outputAfter ≡ after (mirror_number table (length output)) (mirrored table) output

-- ---- renumber

-- the forest numbered from k on, each parent first, then the subtrees of its children left to right
abbrev pub number_from : ℕ → Forest → Forest
number_from k nil = nil
number_from k (node v below after) = node k (number_from (k + 1) below) (number_from (k + 1 + size below) after)

unfoldable pub renumbered : List ℕ → List ℕ
renumbered t = table_of (nodes t) (number_from 0 (tree_of t))

-- for each new number the old one
unfoldable pub old_numbers : List ℕ → List ℕ
old_numbers t = preorder (tree_of t)

unfoldable pub renumber_number : List ℕ → ℕ → ℕ → ℕ
renumber_number t outLength mapLength =
    first (table_conditions t ++ (7 ⇐ (ltb outLength (2 * nodes t) || ltb mapLength (nodes t)) ∷ []))

pub record Renumber (table output old : List ℕ) (k : ℕ) (outputAfter oldAfter : List ℕ) : Type 0 where
  pub number : k ≡ renumber_number table (length output) (length old)
  pub out : outputAfter ≡ after (renumber_number table (length output) (length old)) (renumbered table) output
  pub map : oldAfter ≡ after (renumber_number table (length output) (length old)) (old_numbers table) old
