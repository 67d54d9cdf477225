-- What the reader's inner steps promise.
use Rattle.std.specs.Prelude.{ℕ, ◌+◌, ◌*◌, ◌≤◌, ◌<◌, ◌≡◌, List, [], ◌∷◌, length, get_or}
use Rattle.std.proofs.lemmas.List.Edits.{sets}
use Rattle.refusal.specs.After.{overwrite}
use Rattle.blocks.specs.Block.{block_bytes}
use Rattle.sheet.specs.Layout.{first_word, blocks_for}
use Rattle.sheet.specs.Read.{node_pair, node_single, table_of, tapes_of, half_widths_of}
use Rattle.sheet.specs.Walk.{OnRow}
use Rattle.sheet.specs.declared.walk.RowPlace.{RowPlace}

-- the pair of entries numbered r
abbrev pub pair_of : List ℕ → ℕ → List ℕ
pair_of entries r = get_or entries (2 * r) 0 ∷ get_or entries (2 * r + 1) 0 ∷ []

-- a slice after the pair numbered r is stored in it
abbrev pub store_pair : List ℕ → ℕ → List ℕ → List ℕ
store_pair entries r pair = sets entries (2 * r) pair

-- the blocks of n nodes are there, two entries a node in the table and in the tape slice, and one in the half-width slice
pub record Room (n : ℕ) (file table tapes half_widths : List ℕ) : Type 0 where
  pub blocks : block_bytes * blocks_for n ≤ length file
  pub in_table : 2 * n ≤ length table
  pub in_tapes : 2 * n ≤ length tapes
  pub in_half_widths : n ≤ length half_widths

-- the slices after the row of node r is read
pub record RowRead (file : List ℕ) (r : ℕ) (table tapes half_widths table' tapes' halfWidths' : List ℕ) : Type 0 where
  pub table-after : table' ≡ store_pair table r (node_pair file 0 r)
  pub tapes-after : tapes' ≡ store_pair tapes r (node_pair file 2 r)
  pub half_widths-after : halfWidths' ≡ sets half_widths r (node_single file 4 r)

-- the slices after the rows of n nodes are read
pub record RowsRead (file : List ℕ) (n : ℕ) (table tapes half_widths table' tapes' halfWidths' : List ℕ) : Type 0 where
  pub table-after : table' ≡ overwrite (table_of file n) table
  pub tapes-after : tapes' ≡ overwrite (tapes_of file n) tapes
  pub half_widths-after : halfWidths' ≡ overwrite (half_widths_of file n) half_widths

-- the row that is next, a block's first where a node is left, and the slices, after the rows of a block are read
pub record BlockRead (file : List ℕ) (from : RowPlace) (n : ℕ) (table tapes half_widths : List ℕ) (next : RowPlace)
    (table' tapes' halfWidths' : List ℕ) : Type 0 where
  pub on_row : OnRow next
  pub further : from.node < next.node
  pub within : next.node ≤ n
  pub begins : next.node < n → next.word ≡ first_word
  pub rows : RowsRead file next.node table tapes half_widths table' tapes' halfWidths'
