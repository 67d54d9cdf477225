-- What the writer's inner steps promise.
use Rattle.std.specs.Prelude.{◌≡◌, ℕ, ◌+◌, ◌-◌, ◌*◌, ◌%◌, ◌<◌, ◌≤◌, List, [], ◌∷◌, length, replicate}
use Rattle.std.proofs.lemmas.List.Edits.{sets}
use Rattle.refusal.specs.After.{overwrite}
use Rattle.blocks.specs.Below.{joined}
use Rattle.blocks.specs.Block.{word_limit, weighted_place, word_at, bytes_of, word_sum, weighted_sum, closes, padded, weighed, closed}
use Rattle.sheet.specs.Layout.{block_rows, rows_in}
use Rattle.sheet.specs.File.{row}
use Rattle.sheet.specs.Walk.{OnRow}
use Rattle.sheet.specs.declared.walk.RowPlace.{RowPlace}
use Rattle.writer.specs.Write.{sheet_file}

-- a block after words are stored in it, from word k on
unfoldable pub store_words : List ℕ → ℕ → List ℕ → List ℕ
store_words block k words = sets block (2 * k) (bytes_of words)

-- a block of rows is begun: the walk stands at its first row, and each of the nodes has two entries in the table and in the tape slice, and
-- one in the half-width slice
pub record Begun (n : ℕ) (from : RowPlace) (table tapes half_widths : List ℕ) : Type 0 where
  pub on_row : OnRow from
  pub first : from.node ≡ block_rows * (from.block - 1)
  pub left : from.node < n
  pub few : n < 65536
  pub in_table : 2 * n ≤ length table
  pub in_tapes : 2 * n ≤ length tapes
  pub in_half_widths : n ≤ length half_widths

-- how many rows stand in the block that begins with a row
abbrev pub rows_of : ℕ → RowPlace → ℕ
rows_of n from = rows_in n (from.block - 1)

-- the walk is past the rows of that block
pub record Past (n : ℕ) (from next : RowPlace) : Type 0 where
  pub on_row : OnRow next
  pub node : next.node ≡ from.node + rows_of n from

-- the rows of nodes, from node `first` on
abbrev pub rows_from : List ℕ → List ℕ → List ℕ → ℕ → ℕ → List ℕ
rows_from table tapes half_widths first rows = joined rows (λ i. row table tapes half_widths (first + i))

-- a block with 0 in its words from `used` on, up to the check words
abbrev pub zeroed : ℕ → List ℕ → List ℕ
zeroed used block = store_words block used (replicate (weighted_place - used) 0)

-- the check words of a block: the weighted sum, and the word that closes the sum over the words before it
abbrev pub check_words : (ℕ → ℕ) → List ℕ
check_words word = weighted_sum word ∷ closes ((word_sum weighted_place word + weighted_sum word) % word_limit) ∷ []

-- a block closed
unfoldable pub close_block : List ℕ → List ℕ
close_block block = store_words block weighted_place (check_words (word_at block))

-- a slice with a block at its start that uses these words
unfoldable pub block_over : List ℕ → List ℕ → List ℕ
block_over words old = overwrite (bytes_of (closed (weighed (padded words)))) old

-- the file of a sheet at the start of the output, and its length
pub record FileWritten (table : List ℕ) (separation : ℕ) (tapes half_widths out : List ℕ) (bytes : ℕ) (out' : List ℕ) : Type 0 where
  pub count : bytes ≡ length (sheet_file table separation tapes half_widths)
  pub out-after : out' ≡ overwrite (sheet_file table separation tapes half_widths) out
