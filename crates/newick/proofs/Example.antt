-- Texts that are read and texts that are refused. Assumes nothing.
use mathlib.Core.Path.{◌≡◌, refl}
use Prim.Native.Nat.{ℕ}
use mathlib.Core.List.{List, [], ◌∷◌}
use Rattle.tree.specs.Table.{none}
use Rattle.tree.specs.Forest.{nil, node, table_of}
use Rattle.tree.proofs.Counting.{All}
use Rattle.newick.specs.Reading.{is_digit, next, reading, tree_read}
use Rattle.newick.specs.Read.{nodes_of, links_of, tapes_of, refusal}

-- `((70000)2,0)1;`
abbrev family : List ℕ
family = 40 ∷ 40 ∷ 55 ∷ 48 ∷ 48 ∷ 48 ∷ 48 ∷ 41 ∷ 50 ∷ 44 ∷ 48 ∷ 41 ∷ 49 ∷ 59 ∷ []

-- node 0 has the label 1, although it comes last, and its children are nodes 1 and 3
family-read : tree_read family ≡ node 1 (node 2 (node 70000 nil nil) (node 0 nil nil)) nil
unfolding tree_read reading next is_digit
family-read = refl

family-links : links_of (tree_read family) ≡ 1 ∷ none ∷ 2 ∷ 3 ∷ none ∷ none ∷ none ∷ none ∷ []
unfolding tree_read reading next is_digit links_of table_of
family-links = refl

family-tapes : tapes_of (tree_read family) ≡ 1 ∷ 0 ∷ 2 ∷ 0 ∷ 4464 ∷ 1 ∷ 0 ∷ 0 ∷ []
unfolding tree_read reading next is_digit tapes_of
family-tapes = refl

-- eight entries of both slices are enough, and seven are not
family-numbers : (refusal family 8 8 ≡ 0) × (refusal family 7 8 ≡ 7) × (refusal family 8 7 ≡ 7)
unfolding refusal nodes_of tree_read reading next is_digit
family-numbers = (refl, refl, refl)

-- `4294967295;`
greatest-label : refusal (52 ∷ 50 ∷ 57 ∷ 52 ∷ 57 ∷ 54 ∷ 55 ∷ 50 ∷ 57 ∷ 53 ∷ 59 ∷ []) 2 2 ≡ 0
unfolding refusal nodes_of tree_read reading next is_digit
greatest-label = refl

refused : All (λ text. refusal text 2048 2048 ≡ 15)
    (
    -- the empty text
    [] ∷
    -- no semicolon: `1`
    (49 ∷ []) ∷
    -- a blank: ` 1;`
    (32 ∷ 49 ∷ 59 ∷ []) ∷
    -- a line end after the semicolon
    (49 ∷ 59 ∷ 10 ∷ []) ∷
    -- a needless zero: `00;`
    (48 ∷ 48 ∷ 59 ∷ []) ∷
    -- a label that is too great: `4294967296;`
    (52 ∷ 50 ∷ 57 ∷ 52 ∷ 57 ∷ 54 ∷ 55 ∷ 50 ∷ 57 ∷ 54 ∷ 59 ∷ []) ∷
    -- an empty list: `()1;`
    (40 ∷ 41 ∷ 49 ∷ 59 ∷ []) ∷
    -- no label after a list: `(1);`
    (40 ∷ 49 ∷ 41 ∷ 59 ∷ []) ∷
    -- no semicolon after a list: `(1)2`
    (40 ∷ 49 ∷ 41 ∷ 50 ∷ []) ∷
    -- a comma and no subtree: `(1,)2;`
    (40 ∷ 49 ∷ 44 ∷ 41 ∷ 50 ∷ 59 ∷ []) ∷
    -- two trees: `1,2;`
    (49 ∷ 44 ∷ 50 ∷ 59 ∷ []) ∷
    -- an open bracket: `(1;`
    (40 ∷ 49 ∷ 59 ∷ []) ∷
    -- a bracket that is not open: `1)2;`
    (49 ∷ 41 ∷ 50 ∷ 59 ∷ []) ∷
    -- text after the semicolon: `1;1;`
    (49 ∷ 59 ∷ 49 ∷ 59 ∷ []) ∷
    -- a branch length: `(1:3)2;`
    (40 ∷ 49 ∷ 58 ∷ 51 ∷ 41 ∷ 50 ∷ 59 ∷ []) ∷
    []
    )
unfolding refusal nodes_of tree_read reading next is_digit
refused = (refl, (refl, (refl, (refl, (refl, (refl, (refl, (refl, (refl, (refl, (refl, (refl, (refl, (refl, (refl, tt)))))))))))))))
