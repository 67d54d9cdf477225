-- Reading Newick text: the conditions 15, 16 and 7, what is accepted, and what the operation promises.
use Rattle.std.specs.Prelude.{ℕ, ◌*◌, ◌/◌, ◌%◌, ◌≤◌, ◌<◌, ◌≡◌, ◌⊎◌, Bool, ◌||◌, List, [], ◌∷◌, eqb, ltb, length, Result, Ok, Err}
use Rattle.refusal.specs.First.{Condition, ◌⇐◌, first}
use Rattle.refusal.specs.After.{granted, after}
use Rattle.refusal.specs.Number.{number}
use Rattle.refusal.specs.declared.Refusal.{Refusal}
use Rattle.tree.specs.Numbers.{flat_map}
use Rattle.tree.specs.Forest.{Forest, size, preorder, table_of}
use Rattle.tree.specs.Operations.{number_from}
use Rattle.newick.specs.Text.{IsText}
use Rattle.newick.specs.Reading.{tree_read}

abbrev pub most_bytes : ℕ
most_bytes = 16384

abbrev pub most_nodes : ℕ
most_nodes = 1024

-- how many nodes the tree of a text has: none where the text breaks a rule
unfoldable pub nodes_of : List ℕ → ℕ
nodes_of text = size (tree_read text)

-- the table of a labelled tree, numbered parent first, then the subtrees of the children left to right
unfoldable pub links_of : Forest → List ℕ
links_of tree = table_of (size tree) (number_from 0 tree)

-- a tape number's low word and high word
abbrev pub words : ℕ → List ℕ
words label = label % 65536 ∷ label / 65536 ∷ []

-- the tape words of a labelled tree, in the order of its numbers
unfoldable pub tapes_of : Forest → List ℕ
tapes_of tree = flat_map words (preorder tree)

-- 15: the text is too long, or is that of no tree
abbrev pub text_wrong : List ℕ → Bool
text_wrong text = ltb most_bytes (length text) || eqb (nodes_of text) 0

-- 7: the table or the tape slice has fewer than 2n entries
abbrev pub room_wrong : ℕ → ℕ → ℕ → Bool
room_wrong n tableLength tapesLength = ltb tableLength (2 * n) || ltb tapesLength (2 * n)

abbrev pub conditions : List ℕ → ℕ → ℕ → List Condition
conditions text tableLength tapesLength =
    15 ⇐ text_wrong text ∷ 16 ⇐ ltb most_nodes (nodes_of text) ∷ 7 ⇐ room_wrong (nodes_of text) tableLength tapesLength ∷ []

-- the number that reading gives, from the text and the slices' lengths
unfoldable pub refusal : List ℕ → ℕ → ℕ → ℕ
refusal text tableLength tapesLength = first (conditions text tableLength tapesLength)

-- what each number says of a text
pub data Says (text : List ℕ) (tableLength tapesLength : ℕ) : ℕ → Type 0 where
  -- 15: it is too long, or the text of no tree
  no_text : ((tree : Forest) → IsText tree text → length text ≤ most_bytes → ⊥) → Says text tableLength tapesLength 15
  -- 16: it is the text of a tree that is too large
  too_large : (tree : Forest) → IsText tree text → length text ≤ most_bytes → most_nodes < size tree → Says text tableLength tapesLength 16
  -- 7: a slice is too short for the tree whose text it is
  too_short : (tree : Forest) → IsText tree text → length text ≤ most_bytes → size tree ≤ most_nodes
      → (tableLength < 2 * size tree) ⊎ (tapesLength < 2 * size tree) → Says text tableLength tapesLength 7
  -- 0: it is the text of the tree that is read, and the slices are long enough
  taken : IsText (tree_read text) text → length text ≤ most_bytes → size (tree_read text) ≤ most_nodes
      → 2 * size (tree_read text) ≤ tableLength → 2 * size (tree_read text) ≤ tapesLength → Says text tableLength tapesLength 0

-- an answer: 0 with the count of nodes, or the number of a refusal with 0
pub record Answer : Type 0 where
  pub number : ℕ
  pub nodes : ℕ

abbrev pub answer_of : Result ℕ Refusal → Answer
answer_of (Ok nodes) = record { number = 0; nodes = nodes }
answer_of (Err refusal) = record { number = number refusal; nodes = 0 }

-- what `read_newick` promises of its answer and of both slices afterwards
pub record NewickRead (text table tapes : List ℕ) (answer : Answer) (table' tapes' : List ℕ) : Type 0 where
  pub number : answer.number ≡ refusal text (length table) (length tapes)
  pub nodes : answer.nodes ≡ granted (refusal text (length table) (length tapes)) (nodes_of text) 0
  pub table-after : table' ≡ after (refusal text (length table) (length tapes)) (links_of (tree_read text)) table
  pub tapes-after : tapes' ≡ after (refusal text (length table) (length tapes)) (tapes_of (tree_read text)) tapes
