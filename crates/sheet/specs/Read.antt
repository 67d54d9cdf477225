-- Reading a sheet: the conditions 9, 10, 11, 12 and 7, what is accepted, and what the operation promises.
use Rattle.std.specs.Prelude.{ℕ, ◌+◌, ◌*◌, ◌%◌, ◌≡◌, Bool, not, ◌&&◌, ◌||◌, List, [], ◌∷◌, ◌++◌, Result, Ok, Err, eqb, ltb, leb, length}
use Rattle.refusal.specs.declared.Refusal.{Refusal}
use Rattle.refusal.specs.Number.{number}
use Rattle.refusal.specs.First.{Condition, ◌⇐◌, first}
use Rattle.refusal.specs.After.{granted, after}
use Rattle.blocks.specs.Below.{every, joined}
use Rattle.blocks.specs.Block.{block_bytes, block_count, block_at, word_at, sound, in_place}
use Rattle.sheet.specs.Layout.{most_nodes, most_separation, first_word, blocks_for, node_block, node_word, laid_out}
use Rattle.sheet.specs.declared.Sheet.{Sheet}

-- n and D, from the header
abbrev pub nodes_of : List ℕ → ℕ
nodes_of file = word_at (block_at file 0) first_word

abbrev pub separation_of : List ℕ → ℕ
separation_of file = word_at (block_at file 0) (first_word + 1)

-- two words of a block, from word k on
abbrev pub pair_at : List ℕ → ℕ → List ℕ
pair_at block k = word_at block k ∷ word_at block (k + 1) ∷ []

-- words j and j + 1 of node r's row
abbrev pub node_pair : List ℕ → ℕ → ℕ → List ℕ
node_pair file j r = pair_at (block_at file (node_block r)) (node_word r + j)

-- word j of node r's row alone
abbrev pub node_single : List ℕ → ℕ → ℕ → List ℕ
node_single file j r = word_at (block_at file (node_block r)) (node_word r + j) ∷ []

-- of the nodes below n: first child and next sibling
abbrev pub table_of : List ℕ → ℕ → List ℕ
table_of file n = joined n (node_pair file 0)

-- the tape number, low word and high word
abbrev pub tapes_of : List ℕ → ℕ → List ℕ
tapes_of file n = joined n (node_pair file 2)

-- and the half-width
abbrev pub half_widths_of : List ℕ → ℕ → List ℕ
half_widths_of file n = joined n (node_single file 4)

-- a test fails for a block of the file
abbrev pub some_block_fails : (ℕ → List ℕ → Bool) → List ℕ → Bool
some_block_fails test file = not (every (block_count file) (λ b. test b (block_at file b)))

-- 9: the length is no multiple of a block's, below two blocks' or above that of the largest sheet
abbrev pub length_wrong : ℕ → Bool
length_wrong bytes = not (eqb (bytes % block_bytes) 0) || (ltb bytes (block_bytes * 2) || ltb (block_bytes * blocks_for most_nodes) bytes)

-- 10: a block's check is wrong
abbrev pub check_wrong : List ℕ → Bool
check_wrong file = some_block_fails (λ b block. sound block) file

-- 11: a block's first word is not its place
abbrev pub place_wrong : List ℕ → Bool
place_wrong file = some_block_fails in_place file

-- 1 to the greatest
abbrev pub within : ℕ → ℕ → Bool
within greatest x = leb 1 x && leb x greatest

-- a word that the layout fixes for n nodes differs
abbrev pub fixed_wrong : ℕ → List ℕ → Bool
fixed_wrong n file = some_block_fails (laid_out n) file

-- 12: n or D is out of range, the length is not that of n, or a word that the layout fixes differs
abbrev pub layout_wrong : List ℕ → Bool
layout_wrong file =
    not (within most_nodes (nodes_of file))
    || (not (within most_separation (separation_of file))
    || (not (eqb (length file) (block_bytes * blocks_for (nodes_of file)))
    || fixed_wrong (nodes_of file) file))

-- 7: the table or the tape slice has fewer than 2n entries, or the half-width slice fewer than n
abbrev pub room_wrong : ℕ → ℕ → ℕ → ℕ → Bool
room_wrong n tableLength tapesLength halfWidthsLength = ltb tableLength (2 * n) || (ltb tapesLength (2 * n) || ltb halfWidthsLength n)

-- the conditions of the file in their order
abbrev pub file_conditions : List ℕ → List Condition
file_conditions file = 9 ⇐ length_wrong (length file) ∷ 10 ⇐ check_wrong file ∷ 11 ⇐ place_wrong file ∷ 12 ⇐ layout_wrong file ∷ []

-- and after them that of the slices
abbrev pub conditions : List ℕ → ℕ → ℕ → ℕ → List Condition
conditions file tableLength tapesLength halfWidthsLength =
    file_conditions file ++ (7 ⇐ room_wrong (nodes_of file) tableLength tapesLength halfWidthsLength ∷ [])

-- the number of a file: 0 where it can be read
unfoldable pub file_number : List ℕ → ℕ
file_number file = first (file_conditions file)

-- the number that reading gives, from the file and the slices' lengths
unfoldable pub refusal : List ℕ → ℕ → ℕ → ℕ → ℕ
refusal file tableLength tapesLength halfWidthsLength = first (conditions file tableLength tapesLength halfWidthsLength)

-- the number that reading gives for these slices
abbrev pub number_read : List ℕ → List ℕ → List ℕ → List ℕ → ℕ
number_read file table tapes half_widths = refusal file (length table) (length tapes) (length half_widths)

-- what a call answers: the number, and n and D, which a refusal gives as 0
pub record Answer : Type 0 where
  pub number : ℕ
  pub nodes : ℕ
  pub separation : ℕ

abbrev pub answer_of : Result Sheet Refusal → Answer
answer_of (Ok sheet) = record { number = 0; nodes = sheet.nodes; separation = sheet.separation }
answer_of (Err refused) = record { number = number refused; nodes = 0; separation = 0 }

-- what `read_sheet` promises of its answer and of the three slices afterwards
pub record SheetRead (file table tapes half_widths : List ℕ) (answer : Answer) (table' tapes' halfWidths' : List ℕ) : Type 0 where
  pub number : answer.number ≡ number_read file table tapes half_widths
  pub nodes : answer.nodes ≡ granted (number_read file table tapes half_widths) (nodes_of file) 0
  pub separation : answer.separation ≡ granted (number_read file table tapes half_widths) (separation_of file) 0
  pub table-after : table' ≡ after (number_read file table tapes half_widths) (table_of file (nodes_of file)) table
  pub tapes-after : tapes' ≡ after (number_read file table tapes half_widths) (tapes_of file (nodes_of file)) tapes
  pub half_widths-after : halfWidths' ≡ after (number_read file table tapes half_widths) (half_widths_of file (nodes_of file)) half_widths
