-- `rows::read_rows` reads the rows of all nodes. The invariant: the walk stands at the row of a node, a block's first where one is left, and
-- the rows before it are read. Assumes nothing.
use mathlib.Core.Path.{ap, ◌∙◌}
use native.Mathlib.Nat.{le_refl, le_antisymm}
use native.Mathlib.Omega.{arith}
use Rattle.sheet.specs.Layout.{node_word}
use Rattle.sheet.proofs.Reading.{table_kept, tapes-kept, half_widths-kept, room-kept, rows_more, rows-there, none_read}
use Rattle.sheet.proofs.rows.read_rows.Goals as goal

pub loop-at-init : goal.loop-at-init
loop-at-init c =
    let first = c.first_row-at.ensures in
    (first.1, omega arith, (λ left. first.1.word ∙ ap node_word first.0), rw first.0 (none_read _ _ _ _))

pub read_block-at-requires : goal.read_block-at-requires
read_block-at-requires c =
    let inv = c.loop-at.invariant in
    record {
      on_row = (inv.0, inv.2 (omega arith), omega arith);
      room = room-kept _ _ _ _ _ _ _ _ inv.3 c.args.nodes c.args.nodes (le_refl _) inv.1 c.requires;
      rows_read = rows-there _ _ _ _ _ _ _ _ inv.3;
    }

pub loop-at-smaller : goal.loop-at-smaller
loop-at-smaller c = omega (arith, c.read_block-at.ensures)

pub loop-at-preserved : goal.loop-at-preserved
loop-at-preserved c =
    let block = c.read_block-at.ensures in
    (block.on_row, block.within, block.begins, rows_more _ _ _ _ _ _ _ _ c.loop-at.invariant.3 _ _ _ _ (omega (arith, block)) block.rows)

pub shape_of-table : goal.shape_of-table
shape_of-table c = table_kept _ _ _ _ _ _ _ _ c.loop-at.invariant.3 (omega arith)

pub shape_of-tapes : goal.shape_of-tapes
shape_of-tapes c = tapes-kept _ _ _ _ _ _ _ _ c.loop-at.invariant.3 (omega arith)

pub shape_of-widths : goal.shape_of-widths
shape_of-widths c = half_widths-kept _ _ _ _ _ _ _ _ c.loop-at.invariant.3 (omega arith)

pub returns : goal.returns
returns c =
    let all = le_antisymm c.loop-at.invariant.1 (omega arith) in
    rw (← all) c.loop-at.invariant.3
