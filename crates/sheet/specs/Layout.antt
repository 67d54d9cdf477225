-- Where a sheet of n nodes stands in its file. Block 0 is the header, with n and D; the blocks after it hold the nodes' rows.
-- The layout fixes word 1 of every block, and that the words past the used ones, up to the check words, are 0.
use Rattle.std.specs.Prelude.{ℕ, zero, suc, ◌+◌, ◌-◌, ◌*◌, ◌/◌, ◌%◌, min, Bool, true, cond, List, eqb, ltb}
use Rattle.std.proofs.Math.Option.{Option, none, some}
use Rattle.blocks.specs.Below.{every}
use Rattle.blocks.specs.Block.{weighted_place, word_at}

-- n and D are 1 to 1,024
abbrev pub most_nodes : ℕ
most_nodes = 1024

abbrev pub most_separation : ℕ
most_separation = 1024

-- the first word after a block's place and its word 1: n in the header, and in the others the first row
abbrev pub first_word : ℕ
first_word = 2

-- word 1 of the header, and how many words it uses from the first word on: n and D
abbrev pub header_mark : ℕ
header_mark = 1

abbrev pub header_words : ℕ
header_words = 2

-- rows to a block, and words to a row: first child, next sibling, tape low, tape high, half-width
abbrev pub block_rows : ℕ
block_rows = 50

abbrev pub row_words : ℕ
row_words = 5

-- how many blocks a sheet of n nodes takes: the header, and just enough for the rows
abbrev pub blocks_for : ℕ → ℕ
blocks_for n = 1 + (n + (block_rows - 1)) / block_rows

-- row i of a block stands from this word
abbrev pub row_word : ℕ → ℕ
row_word i = first_word + row_words * i

-- node r stands in this block, from this word
abbrev pub node_block : ℕ → ℕ
node_block r = 1 + r / block_rows

abbrev pub node_word : ℕ → ℕ
node_word r = row_word (r % block_rows)

-- how many rows stand in block b + 1: a full block's, in the last block what is left
abbrev pub rows_in : ℕ → ℕ → ℕ
rows_in n b = min block_rows (n - block_rows * b)

-- word 1 of block b: in a block of rows it is their count
unfoldable pub count_word : ℕ → ℕ → ℕ
count_word n zero = header_mark
count_word n (suc b) = rows_in n b

-- the words of block b from this one on, up to the check words, are unused
unfoldable pub used_words : ℕ → ℕ → ℕ
used_words n zero = first_word + header_words
used_words n (suc b) = row_word (rows_in n b)

-- what the layout fixes of word k before the check words, where word 1 is `count` and the words from `used` on are unused:
-- word 1 and the unused words; the others are free
abbrev pub fixed : ℕ → ℕ → ℕ → Option ℕ
fixed count used k = cond (eqb k 1) (some count) (cond (ltb k used) none (some 0))

-- a word is as fixed, or free
abbrev pub agrees : Option ℕ → ℕ → Bool
agrees none w = true
agrees (some v) w = eqb w v

-- a block has every word that the layout so fixes
unfoldable pub fixed_hold : ℕ → ℕ → List ℕ → Bool
fixed_hold count used block = every weighted_place (λ k. agrees (fixed count used k) (word_at block k))

-- block b of a sheet of n nodes is laid out right
abbrev pub laid_out : ℕ → ℕ → List ℕ → Bool
laid_out n b block = fixed_hold (count_word n b) (used_words n b) block
