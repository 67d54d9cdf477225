-- Where rows stand in the file's layout: row i of a block, and the row of node r + 1 from that of node r. Assumes nothing.
use mathlib.Core.Path.{◌≡◌}
use Prim.Native.Nat.{ℕ, ◌+◌, ◌-◌, ◌*◌, ◌≤◌, ◌<◌}
use native.Mathlib.Omega.{arith}
use mathlib.Core.Bool.{Bool, true, false, cond}
use lib.Dec.{ltb}
use borrow.Author.Tests.{ltb-true, ltb-false, le-ltb}
use Rattle.sheet.specs.Layout.{first_word, block_rows, row_words, row_word, node_block, node_word}

-- row i of block b + 1 is that of node blockRows * b + i
pub row_at : (b i : ℕ) → i < block_rows → node_word (block_rows * b + i) ≡ row_word i
row_at b i l = omega arith

-- the law of the step: the next row of the block, and after the block's last one the first of the next block
pub row-after : (r : ℕ) (inside : Bool) → ltb (node_word r) (row_word (block_rows - 1)) ≡ inside
    → (node_block (r + 1) ≡ cond inside (node_block r) (node_block r + 1)) × (node_word (r + 1) ≡ cond inside (node_word r + row_words) first_word)
row-after r true h =
    let inside : node_word r < row_word (block_rows - 1) = ltb-true _ _ h in
    (omega arith, omega arith)
row-after r false h =
    let last : row_word (block_rows - 1) ≤ node_word r = ltb-false _ _ h in
    (omega arith, omega arith)

-- so after a block's last row
pub block-after : (r : ℕ) → row_word (block_rows - 1) ≤ node_word r → node_word (r + 1) ≡ first_word
block-after r last = (row-after r false (le-ltb _ _ last)).1
