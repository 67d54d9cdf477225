-- `walk::next_row` steps from a node's row to the next node's, by the law of the step. Assumes nothing.
use mathlib.Core.Path.{refl, sym, ◌∙◌}
use Prim.Native.Nat.{◌-◌, ◌≤◌, ◌<◌}
use native.Mathlib.Omega.{arith}
use mathlib.Core.Bool.{true, false}
use borrow.Author.Tests.{lt-ltb, le-ltb}
use Rattle.sheet.specs.Layout.{block_rows, row_word, node_word}
use Rattle.sheet.proofs.Places.{row-after}
use Rattle.sheet.proofs.walk.next_row.Goals as goal

pub returns-then-at-lt-LAST_ROW_WORD : goal.returns-then-at-lt-LAST_ROW_WORD
returns-then-at-lt-LAST_ROW_WORD c =
    let inside : node_word c.args.at.node < row_word (block_rows - 1) = omega arith in
    let after = row-after c.args.at.node true (lt-ltb _ _ inside) in
    (refl, record { block = c.requires.0.block ∙ sym after.0; word = rw c.requires.0.word (sym after.1) })

pub returns-else-at-lt-LAST_ROW_WORD : goal.returns-else-at-lt-LAST_ROW_WORD
returns-else-at-lt-LAST_ROW_WORD c =
    let last : row_word (block_rows - 1) ≤ node_word c.args.at.node = omega arith in
    let after = row-after c.args.at.node false (le-ltb _ _ last) in
    (refl, record { block = rw c.requires.0.block (sym after.0); word = sym after.1 })
