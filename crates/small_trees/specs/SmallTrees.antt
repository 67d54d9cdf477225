-- The list of all ordered trees of n nodes, the conditions 20, 21 and 7, and what the operation promises.
use Rattle.std.specs.Prelude.{ℕ, zero, suc, ◌-◌, ◌*◌, ◌≤◌, ◌<◌, ◌≡◌, Bool, true, ◌||◌, List, [], ◌∷◌, map, leb, ltb, length, get_or}
use Rattle.refusal.specs.First.{Condition, ◌⇐◌, first}
use Rattle.refusal.specs.After.{after}
use Rattle.tree.specs.Numbers.{run, flat_map}
use Rattle.tree.specs.Table.{nodes}
use Rattle.tree.specs.Forest.{Forest, nil, node, size, table_of}
use Rattle.tree.specs.Shape.{same_shape}
use Rattle.tree.specs.Operations.{number_from, renumbered}
use Rattle.small_trees.specs.Sequence.{level_sequence, is_sequence, tree_of_levels, comes_before}

-- ---- the list

-- The ways to go on for m levels behind level l: each next level in turn, from 1 to l + 1, and behind it each way to go on from there.
unfoldable pub further : ℕ → ℕ → List (List ℕ)
further zero l = [] ∷ []
further (suc m) l = flat_map (λ next. map (λ rest. next ∷ rest) (further m next)) (run 1 (suc l))

-- the level sequences of n nodes: 0, and each way to go on
unfoldable pub sequences : ℕ → List (List ℕ)
sequences zero = []
sequences (suc m) = map (λ rest. 0 ∷ rest) (further m 0)

-- how many there are
unfoldable pub tree_count : ℕ → ℕ
tree_count n = length (sequences n)

-- the sequence at a place, counted from 0
unfoldable pub sequence_at : ℕ → ℕ → List ℕ
sequence_at n place = get_or (sequences n) place []

-- and its tree, numbered as by Renumber
unfoldable pub tree_at : ℕ → ℕ → Forest
tree_at n place = tree_of_levels (sequence_at n place)

-- ---- the operation

abbrev pub most_nodes : ℕ
most_nodes = 8

-- 20: n is not in 1 to 8
abbrev pub size_wrong : ℕ → Bool
size_wrong n = ltb n 1 || ltb most_nodes n

abbrev pub conditions : ℕ → ℕ → ℕ → List Condition
conditions n place tableLength = 20 ⇐ size_wrong n ∷ 21 ⇐ leb (tree_count n) place ∷ 7 ⇐ ltb tableLength (2 * n) ∷ []

-- the number that the operation gives, from n, the place and the output's length
unfoldable pub refusal : ℕ → ℕ → ℕ → ℕ
refusal n place tableLength = first (conditions n place tableLength)

-- what each number says
pub data Says (n place tableLength : ℕ) : ℕ → Type 0 where
  no_size : (1 ≤ n → n ≤ most_nodes → ⊥) → Says n place tableLength 20
  no_place : 1 ≤ n → n ≤ most_nodes → tree_count n ≤ place → Says n place tableLength 21
  too_short : 1 ≤ n → n ≤ most_nodes → place < tree_count n → tableLength < 2 * n → Says n place tableLength 7
  taken : 1 ≤ n → n ≤ most_nodes → place < tree_count n → 2 * n ≤ tableLength → Says n place tableLength 0

-- what `small_tree` promises of its number and of the output afterwards
pub record SmallTree (n place : ℕ) (table : List ℕ) (k : ℕ) (table' : List ℕ) : Type 0 where
  pub number : k ≡ refusal n place (length table)
  pub table-after : table' ≡ after (refusal n place (length table)) (table_of n (tree_at n place)) table

-- ---- what is promised of the list

-- The list of n in words: it has level sequences of n nodes, it has all of them, and they are sorted. `sequences n` is the only such list
-- (`listed` and `only-list` of proofs/Listed.antt).
pub record ListOf (n : ℕ) (list : List (List ℕ)) : Type 0 where
  pub holds : (p : ℕ) → p < length list → (is_sequence (get_or list p []) ≡ true) × (length (get_or list p []) ≡ n)
  pub all : (s : List ℕ) → is_sequence s ≡ true → length s ≡ n → (p : ℕ) × (p < length list) × (get_or list p [] ≡ s)
  pub sorted : (p q : ℕ) → p < q → q < length list → comes_before (get_or list p []) (get_or list q []) ≡ true

-- a tree occurs at one place of the list of n, and at only one
pub record OnePlace (n : ℕ) (tree : Forest) : Type 0 where
  pub place : ℕ
  pub within : place < tree_count n
  pub here : tree_at n place ≡ number_from 0 tree
  pub only : (p : ℕ) → p < tree_count n → same_shape (tree_at n p) tree ≡ true → p ≡ place

-- a table of n nodes: its levels stand at one place of the list, and its renumbered table is that of the tree there and of no other
pub record OneTable (t : List ℕ) : Type 0 where
  pub place : ℕ
  pub within : place < tree_count (nodes t)
  pub sequence : sequence_at (nodes t) place ≡ level_sequence t
  pub table : table_of (nodes t) (tree_at (nodes t) place) ≡ renumbered t
  pub only : (p : ℕ) → p < tree_count (nodes t) → table_of (nodes t) (tree_at (nodes t) p) ≡ renumbered t → p ≡ place

-- a row of m nodes
abbrev pub leaves : ℕ → Forest
leaves zero = nil
leaves (suc m) = node 0 nil (leaves m)

-- n nodes: the root, and all others its children
abbrev pub star : ℕ → Forest
star zero = nil
star (suc m) = node 0 (leaves m) nil

-- n nodes, each but the root the only child of the one before
abbrev pub chain : ℕ → Forest
chain zero = nil
chain (suc m) = node 0 (chain m) nil

-- the list of n, where it has so many trees
pub record Complete (n trees : ℕ) : Type 0 where
  pub count : tree_count n ≡ trees
  pub each : (v : ℕ) (below : Forest) → size (node v below nil) ≡ n → OnePlace n (node v below nil)
  pub star-first : tree_at n 0 ≡ number_from 0 (star n)
  pub chain-last : tree_at n (trees - 1) ≡ number_from 0 (chain n)
  pub rising : (p q : ℕ) → p < q → q < trees → comes_before (sequence_at n p) (sequence_at n q) ≡ true

-- how many ordered trees of 1, 2 and so on up to 8 nodes there are
abbrev pub counts : List ℕ
counts = 1 ∷ 1 ∷ 2 ∷ 5 ∷ 14 ∷ 42 ∷ 132 ∷ 429 ∷ []

-- all eight lists together
abbrev pub AllComplete : Type 0
AllComplete = (n : ℕ) → 1 ≤ n → n ≤ most_nodes → Complete n (get_or counts (n - 1) 0)
