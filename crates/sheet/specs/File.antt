-- The file of a sheet: what a writer has to write, and what reading gives back.
use Rattle.std.specs.Prelude.{◌≡◌, ℕ, zero, suc, ◌+◌, ◌*◌, ◌≤◌, List, [], ◌∷◌, length, get_or}
use Rattle.blocks.specs.Below.{joined}
use Rattle.blocks.specs.Block.{bytes_of, padded, weighed, closed}
use Rattle.sheet.specs.Layout.{most_nodes, most_separation, block_rows, blocks_for, rows_in, count_word}
use Rattle.sheet.specs.Read.{nodes_of, separation_of, table_of, tapes_of, half_widths_of, refusal}

-- node r's row: first child, next sibling, tape low, tape high, half-width
unfoldable pub row : List ℕ → List ℕ → List ℕ → ℕ → List ℕ
row table tapes half_widths r =
    get_or table (2 * r) 0 ∷ get_or table (2 * r + 1) 0 ∷ get_or tapes (2 * r) 0 ∷ get_or tapes (2 * r + 1) 0 ∷ get_or half_widths r 0 ∷ []

-- the used words of block b after its place and its word 1: n and D in the header, and else the rows
unfoldable pub content : ℕ → ℕ → List ℕ → List ℕ → List ℕ → ℕ → List ℕ
content n separation table tapes half_widths zero = n ∷ separation ∷ []
content n separation table tapes half_widths (suc b) = joined (rows_in n b) (λ i. row table tapes half_widths (block_rows * b + i))

-- the 256 words of block b
unfoldable pub block_of : ℕ → ℕ → List ℕ → List ℕ → List ℕ → ℕ → List ℕ
block_of n separation table tapes half_widths b =
    closed (weighed (padded (b ∷ count_word n b ∷ content n separation table tapes half_widths b)))

-- the file's bytes
unfoldable pub file_of : ℕ → ℕ → List ℕ → List ℕ → List ℕ → List ℕ
file_of n separation table tapes half_widths = joined (blocks_for n) (λ b. bytes_of (block_of n separation table tapes half_widths b))

-- what a file can hold: n and D in range, two entries a node in the table and in the tape slice, and one in the half-width slice
pub record Contents (n separation : ℕ) (table tapes half_widths : List ℕ) : Type 0 where
  pub nodes-least : 1 ≤ n
  pub nodes-most : n ≤ most_nodes
  pub separation-least : 1 ≤ separation
  pub separation-most : separation ≤ most_separation
  pub table-size : length table ≡ 2 * n
  pub tapes-size : length tapes ≡ 2 * n
  pub half_widths-size : length half_widths ≡ n

-- reading the file, into slices of these lengths, is accepted and gives the contents back
pub record ReadBack (n separation : ℕ) (table tapes half_widths : List ℕ) (tableLength tapesLength halfWidthsLength : ℕ) : Type 0 where
  pub number : refusal (file_of n separation table tapes half_widths) tableLength tapesLength halfWidthsLength ≡ 0
  pub nodes : nodes_of (file_of n separation table tapes half_widths) ≡ n
  pub separation-back : separation_of (file_of n separation table tapes half_widths) ≡ separation
  pub table-back : table_of (file_of n separation table tapes half_widths) n ≡ table
  pub tapes-back : tapes_of (file_of n separation table tapes half_widths) n ≡ tapes
  pub half_widths-back : half_widths_of (file_of n separation table tapes half_widths) n ≡ half_widths
