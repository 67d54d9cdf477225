-- What the inner functions of the operations give, in the code's own shape.
use Rattle.std.specs.Prelude.{ℕ, ◌+◌, ◌-◌, ◌*◌, ◌≤◌, ◌<◌, ◌≡◌, Bool, true, false, Option, Some, None, cond, List, [], ◌∷◌, eqb, length, get_or, take, set}
use Rattle.tree.specs.declared.judge.Names.{Names}
use Rattle.tree.specs.Table.{none, nodes}
use Rattle.tree.specs.Forest.{tree_of, size, preorder}
use Rattle.tree.specs.Levels.{children_of}
use Rattle.tree.specs.WellFormed.{bad_length, bad_entry, named_twice, unnamed, table_number}
use Rattle.tree.specs.Operations.{renumbered, old_numbers}

-- ---- table check

-- a mark for each of n nodes, and none is set
pub record Unmarked (n : ℕ) (marks : List Bool) : Type 0 where
  pub enough : n ≤ length marks
  pub clear : (v : ℕ) → v < n → get_or marks v false ≡ false

-- a slice has an entry for each node of a table of good length
pub record Room (t order : List ℕ) : Type 0 where
  pub enough : bad_length t ≡ false → nodes t ≤ length order

-- one pass over the entries: whether one is bad; if none is, whether a node is named twice; and if none is either, whether one is not named
pub record Scanned (t : List ℕ) (b r m : Bool) : Type 0 where
  pub bad : b ≡ bad_entry t
  pub repeated : b ≡ false → r ≡ named_twice t
  pub missing : b ≡ false → r ≡ false → m ≡ unnamed t

-- what a scan says: none where an entry is bad
abbrev pub entry_bad : Option Names → Bool
entry_bad None = true
entry_bad (Some names) = false

abbrev pub name_repeated : Option Names → Bool
name_repeated None = false
name_repeated (Some names) = names.repeated

abbrev pub name_missing : Option Names → Bool
name_missing None = false
name_missing (Some names) = names.missing

-- A stack at the end of a slice: its top is at index low, and an entry that names a node is put below it.
abbrev pub pushed_low : ℕ → ℕ → ℕ
pushed_low low e = cond (eqb e none) low (low - 1)

abbrev pub pushed : List ℕ → ℕ → ℕ → List ℕ
pushed order low e = cond (eqb e none) order (set order (low - 1) e)

pub record Pushed (stack : List ℕ) (at e r : ℕ) (stackAfter : List ℕ) : Type 0 where
  pub low : r ≡ pushed_low at e
  pub order : stackAfter ≡ pushed stack at e

-- the nodes reached from node 0, in preorder, and how many they are
pub record Visited (t : List ℕ) (r : ℕ) (orderAfter : List ℕ) : Type 0 where
  pub reached : r ≡ size (tree_of t)
  pub order : take r orderAfter ≡ preorder (tree_of t)

-- the number of a table, and for an accepted one its nodes in preorder
pub record Judged (t : List ℕ) (k : ℕ) (orderAfter : List ℕ) : Type 0 where
  pub number : k ≡ table_number t
  pub order : k ≡ 0 → take (nodes t) orderAfter ≡ preorder (tree_of t)

-- ---- mirror

-- the last element of a list, or d where it has none
abbrev pub last_or : ℕ → List ℕ → ℕ
last_or d [] = d
last_or d (x ∷ l) = last_or x l

-- the last child of node v, or none
unfoldable pub last_child : List ℕ → ℕ → ℕ
last_child t v = last_or none (children_of t v)

-- where e is a node, its next sibling is x
abbrev pub pointed : ℕ → ℕ → List ℕ → List ℕ
pointed e x out = cond (eqb e none) out (set out (2 * e + 1) x)

-- ---- renumber

-- for each new number the old one: at most 1,024, each below a bound, and none twice
pub record OldNumbers (old : List ℕ) (bound : ℕ) : Type 0 where
  pub few : length old ≤ 1024
  pub below : (k : ℕ) → k < length old → get_or old k 0 < bound
  pub apart : (j k : ℕ) → j < length old → k < length old → get_or old j 0 ≡ get_or old k 0 → j ≡ k

-- for each of these old numbers the new one
pub record NewNumbers (old new : List ℕ) : Type 0 where
  pub inverse : (k : ℕ) → k < length old → get_or new (get_or old k 0) 0 ≡ k

-- an entry in the new numbers: none stays none
abbrev pub renamed : List ℕ → ℕ → ℕ
renamed new e = cond (eqb e none) none (get_or new e 0)

-- the renumbered table and the map
pub record Numbered (t outAfter mapAfter : List ℕ) : Type 0 where
  pub out : outAfter ≡ renumbered t
  pub map : mapAfter ≡ old_numbers t
