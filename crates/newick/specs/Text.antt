-- The Newick text of a labelled tree. A node of the forest is its label, a tape number. A subtree is a label, or an opening bracket, one
-- or more subtrees parted by commas, a closing bracket and a label. The text is one subtree and a semicolon.
use Rattle.std.specs.Prelude.{ℕ, ◌≤◌, ◌≡◌, List, [], ◌∷◌, ◌++◌}
use Rattle.lines.specs.Decimal.{decimal}
use Rattle.tree.specs.Forest.{Forest, nil, node}

abbrev pub opening : ℕ
opening = 40

abbrev pub closing : ℕ
closing = 41

abbrev pub comma : ℕ
comma = 44

abbrev pub semicolon : ℕ
semicolon = 59

-- a label is at most this
abbrev pub most_label : ℕ
most_label = 4294967295

-- every label of a forest is a tape number
abbrev pub Labels : Forest → Type 0
Labels nil = Unit
Labels (node label below after) = (label ≤ most_label) × (Labels below × Labels after)

-- a subtree, from the text of its children: a label, or that text in brackets and a label
abbrev pub subtree_text : ℕ → Forest → List ℕ → List ℕ
subtree_text label nil list = decimal label
subtree_text label (node first below after) list = opening ∷ list ++ closing ∷ decimal label

-- what stands after a subtree in a list: a comma and the further subtrees, or nothing where there are none
abbrev pub further : Forest → List ℕ → List ℕ
further nil list = []
further (node first below after) list = comma ∷ list

-- subtrees parted by commas
abbrev pub list_text : Forest → List ℕ
list_text nil = []
list_text (node label below after) = subtree_text label below (list_text below) ++ further after (list_text after)

-- the text of the tree whose root has this label, over the subtrees of its children
abbrev pub newick : ℕ → Forest → List ℕ
newick label below = subtree_text label below (list_text below) ++ semicolon ∷ []

-- a labelled tree, and its text
pub record IsText (tree : Forest) (text : List ℕ) : Type 0 where
  pub root : ℕ
  pub below : Forest
  pub is-tree : tree ≡ node root below nil
  pub is_text : text ≡ newick root below
  pub labels : Labels tree
