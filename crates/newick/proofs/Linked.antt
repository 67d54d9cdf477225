-- The rows of a labelled tree are the table of the tree numbered in preorder: the table check passes it, and renumbering it changes
-- nothing. Assumes nothing.
use mathlib.Core.Path.{◌≡◌, refl, sym, ap, ap₂, ◌∙◌}
use Prim.Native.Nat.{ℕ, ◌+◌, ◌*◌, ◌≤◌}
use native.Mathlib.Omega.{arith}
use mathlib.Core.List.{List, [], ◌∷◌, ◌++◌, append_assoc, append-nil}
use lib.ListN.{length, get_or, length-append}
use lib.Seq.{get_or_at}
use Rattle.tree.specs.Table.{none}
use Rattle.tree.specs.Numbers.{up_to}
use Rattle.tree.specs.Forest.{Forest, nil, node, size, entry, preorder, tree_of, table_of}
use Rattle.tree.specs.WellFormed.{table_number}
use Rattle.tree.specs.Operations.{number_from, renumbered, old_numbers}
use Rattle.tree.proofs.Reading.{Agrees}
use Rattle.tree.proofs.Stands.{Numbers}
use Rattle.tree.proofs.TableOf.{table_of_unique, table_of-accepted, table_of-tree, nodes-table_of}
use Rattle.tree.proofs.Renumbered.{run-up_to, preorder-number_from, number_from-again, tree-numbers}
use Rattle.newick.specs.Read.{most_nodes, links_of}
use Rattle.newick.specs.Steps.{rows_from}
use Rattle.newick.proofs.Stored.{length-rows}

-- a table in which the rows stand behind those of the nodes before k
rows_agree : (f : Forest) (k : ℕ) (t before behind : List ℕ) → t ≡ before ++ (rows_from k f ++ behind) → length before ≡ 2 * k → Agrees t (number_from k f)
rows_agree nil k t before behind is e = tt
rows_agree (node v f g) k t before behind is e = (
  ap (λ (l : List ℕ). get_or l (2 * k) none) is ∙ get_or_at before x (y ∷ (R ++ S ++ behind)) none (2 * k) e,
  ap (λ (l : List ℕ). get_or l (2 * k + 1) none) (is ∙ sym (append_assoc before (x ∷ []) (y ∷ (R ++ S ++ behind))))
      ∙ get_or_at (before ++ x ∷ []) y (R ++ S ++ behind) none (2 * k + 1) (omega (arith, e, length-append before (x ∷ []))),
  rows_agree f (k + 1) t (before ++ x ∷ y ∷ []) (S ++ behind)
      (is ∙ ap (λ (l : List ℕ). before ++ x ∷ y ∷ l) (append_assoc R S behind) ∙ sym (append_assoc before (x ∷ y ∷ []) (R ++ (S ++ behind))))
      (omega (arith, e, length-append before (x ∷ y ∷ []))),
  rows_agree g (k + 1 + size f) t (before ++ x ∷ y ∷ R) behind
      (is ∙ ap (λ (l : List ℕ). before ++ x ∷ y ∷ l) (append_assoc R S behind) ∙ sym (append_assoc before (x ∷ y ∷ R) (S ++ behind)))
      (omega (arith, e, length-append before (x ∷ y ∷ R), length-rows (k + 1) f)),
)
  where
    x : ℕ
    x = entry (number_from (k + 1) f)

    y : ℕ
    y = entry (number_from (k + 1 + size f) g)

    R : List ℕ
    R = rows_from (k + 1) f

    S : List ℕ
    S = rows_from (k + 1 + size f) g

-- ---- a labelled tree

module _ (v : ℕ) (below : Forest) (few : size (node v below nil) ≤ most_nodes) where
  abbrev tree : Forest
  tree = node v below nil

  numbers : Numbers (size tree) (number_from 0 tree)
  numbers = tree-numbers (size tree) v below refl few

  pub rows-links : rows_from 0 tree ≡ links_of tree
  unfolding links_of
  rows-links =
      table_of_unique (size tree) (number_from 0 tree) numbers (rows_from 0 tree) (length-rows 0 tree)
      (rows_agree tree 0 (rows_from 0 tree) [] [] (sym (append-nil (rows_from 0 tree))) refl)

  pub length-links : length (links_of tree) ≡ 2 * size tree
  length-links = ap length (sym rows-links) ∙ length-rows 0 tree

  -- the table check passes what was read
  pub links-accepted : table_number (links_of tree) ≡ 0
  unfolding links_of
  links-accepted = table_of-accepted (size tree) (number_from 0 tree) numbers

  -- it stands for the tree that was read, numbered in preorder
  pub links-tree : tree_of (links_of tree) ≡ number_from 0 tree
  unfolding links_of
  links-tree = table_of-tree (size tree) (number_from 0 tree) numbers

  -- renumbering it changes no link, and the map gives each number itself
  pub links-renumbered : renumbered (links_of tree) ≡ links_of tree
  unfolding links_of renumbered
  links-renumbered =
      ap₂ table_of (nodes-table_of (size tree) (number_from 0 tree) numbers) (ap (number_from 0) links-tree ∙ number_from-again 0 0 tree)

  pub links-map : old_numbers (links_of tree) ≡ up_to (size tree)
  unfolding old_numbers
  links-map = ap preorder links-tree ∙ preorder-number_from 0 tree ∙ sym (run-up_to (size tree))
